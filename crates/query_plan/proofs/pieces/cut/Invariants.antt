use Rattle.std.proofs.Common.{◌≡◌, ◌++◌, length}
use Rattle.query_plan.specs.Pieces.{pieces}
use Rattle.query_plan.specs.Cutting.{fronted}
use Rattle.query_plan.proofs.pieces.cut.Given as goal

abbrev pub decreases-loop-first : goal.decreases-loop-first
decreases-loop-first l = length l.rest

-- the pieces so far, the bytes of the token at hand, and the pieces of what is left are those of all
abbrev pub invariant-loop-first : goal.invariant-loop-first
invariant-loop-first l = l.out.items ++ fronted l.token.items (pieces l.rest) ≡ pieces l.items
