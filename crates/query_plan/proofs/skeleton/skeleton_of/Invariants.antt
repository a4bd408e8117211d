use Rattle.std.proofs.Common.{◌≡◌, ◌++◌, length}
use Rattle.query_plan.specs.Pieces.{IsCut}
use Rattle.query_plan.specs.Cutting.{side_of}
use Rattle.query_plan.specs.Needs.{bones, skeleton_of}
use Rattle.query_plan.proofs.skeleton.skeleton_of.Given as goal

abbrev pub decreases-loop-first : goal.decreases-loop-first
decreases-loop-first l = length l.rest

-- the items so far and those of what is left are those of all
abbrev pub invariant-loop-first : goal.invariant-loop-first
invariant-loop-first l = IsCut l.rest × (l.items.items ++ bones (side_of l.before) l.rest ≡ skeleton_of l.pieces)
