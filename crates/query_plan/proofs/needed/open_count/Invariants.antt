use Rattle.std.proofs.Common.{◌≡◌, ◌+◌, ◌≤◌, length}
use Rattle.query_plan.specs.Pieces.{open_count, Free}
use Rattle.query_plan.specs.Cutting.{side}
use Rattle.query_plan.proofs.needed.open_count.Given as goal

abbrev pub decreases-loop-first : goal.decreases-loop-first
decreases-loop-first l = length l.rest

-- the open tokens so far and those of what is left are those of all
abbrev pub invariant-loop-first : goal.invariant-loop-first
invariant-loop-first l = (l.count + open_count (side l.after_mark) l.rest ≡ open_count Free l.pieces) × (l.count + length l.rest ≤ length l.pieces)
