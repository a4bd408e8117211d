use Rattle.std.proofs.Common.{◌≡◌, ◌++◌, length}
use Rattle.query_plan.specs.Pieces.{merge, thin, Free}
use Rattle.query_plan.specs.Cutting.{trimmed, side}
use Rattle.query_plan.proofs.pieces.plan_pieces.Given as goal

abbrev pub decreases-loop-first : goal.decreases-loop-first
decreases-loop-first l = length l.rest

-- the pieces so far and those of what is left are those of all
abbrev pub invariant-loop-first : goal.invariant-loop-first
invariant-loop-first l = l.out.items ++ trimmed l.behind_gap (merge (thin l.left (side l.after_mark) l.rest)) ≡ merge (thin 4 Free l.cut)
