use Rattle.std.proofs.Common.{◌≡◌, ◌++◌, length}
use Rattle.query_plan.specs.Pieces.{Free, IsCut}
use Rattle.query_plan.specs.Cutting.{side_of}
use Rattle.query_plan.specs.Needs.{needed_variables_of}
use Rattle.query_plan.proofs.needed.needed_variables.Given as goal

abbrev pub decreases-loop-first : goal.decreases-loop-first
decreases-loop-first l = length l.rest

-- the flags so far and those of what is left are those of all
abbrev pub invariant-loop-first : goal.invariant-loop-first
invariant-loop-first l = IsCut l.rest × (l.flags.items ++ needed_variables_of (side_of l.before) l.rest ≡ needed_variables_of Free l.pieces)
