use Rattle.std.proofs.Common.{length}
use Rattle.search_walk.specs.Ready.{KeepsFirst}
use Rattle.search_walk.proofs.passing.kept_of.Given as goal

abbrev pub invariant-loop-front : goal.invariant-loop-front
invariant-loop-front g l = KeepsFirst l.context.names l.context.query l.types l.kept

abbrev pub decreases-loop-front : goal.decreases-loop-front
decreases-loop-front g l = length l.kept
