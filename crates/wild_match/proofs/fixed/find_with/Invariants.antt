use Rattle.std.proofs.Common.{◌≤◌, ◌-◌, length}
use Rattle.memchr.specs.Find.{Nowhere}
use Rattle.wild_match.specs.Matches.{FitsAt}
use Rattle.wild_match.proofs.fixed.find_with.Given as goal

-- no place so far
abbrev pub invariant-loop-from : goal.invariant-loop-from
invariant-loop-from l = record { within : l.from ≤ length l.bytes; none : Nowhere (FitsAt l.fixed l.bytes) 0 l.from }

abbrev pub decreases-loop-from : goal.decreases-loop-from
decreases-loop-from l = length l.bytes - l.from
