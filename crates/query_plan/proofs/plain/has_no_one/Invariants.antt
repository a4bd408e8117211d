use Rattle.std.proofs.Common.{◌↔◌, length}
use Rattle.query_plan.specs.Laws.{NoOne}
use Rattle.query_plan.proofs.plain.has_no_one.Given as goal

abbrev pub decreases-loop-first : goal.decreases-loop-first
decreases-loop-first l = length l.rest

-- what is left has no `?` exactly where the whole has none
abbrev pub invariant-loop-first : goal.invariant-loop-first
invariant-loop-first l = NoOne l.rest ↔ NoOne l.items
