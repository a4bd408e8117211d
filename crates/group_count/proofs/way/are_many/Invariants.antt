use Rattle.std.proofs.Common.{length}
use Rattle.group_count.specs.StepsWay.{AreMany}
use Rattle.group_count.proofs.way.are_many.Given as goal

abbrev pub decreases-loop-first : goal.decreases-loop-first
decreases-loop-first l = length l.rest

-- where what is left stands for any bytes, all does
abbrev pub invariant-loop-first : goal.invariant-loop-first
invariant-loop-first l = AreMany l.rest → AreMany l.items
