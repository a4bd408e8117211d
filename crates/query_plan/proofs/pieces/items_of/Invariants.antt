use Rattle.std.proofs.Common.{◌≡◌, ◌++◌, length}
use Rattle.query_plan.specs.Pieces.{flat}
use Rattle.query_plan.proofs.pieces.items_of.Given as goal

abbrev pub decreases-loop-first : goal.decreases-loop-first
decreases-loop-first l = length l.rest

abbrev pub invariant-loop-first : goal.invariant-loop-first
invariant-loop-first l = l.items.items ++ flat l.rest ≡ flat l.pieces
