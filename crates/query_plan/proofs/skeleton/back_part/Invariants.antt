use Rattle.std.proofs.Common.{◌≡◌, length}
use Rattle.query_plan.specs.Needs.{back_part}
use Rattle.query_plan.proofs.skeleton.back_part.Given as goal

abbrev pub decreases-loop-first : goal.decreases-loop-first
decreases-loop-first l = length l.rest

-- nothing that counts was passed over
abbrev pub invariant-loop-first : goal.invariant-loop-first
invariant-loop-first l = back_part l.rest ≡ back_part l.pieces
