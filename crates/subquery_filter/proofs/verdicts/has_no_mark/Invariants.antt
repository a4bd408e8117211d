use Rattle.std.proofs.Common.{length}
use Rattle.std.specs.Prelude.{◌↔◌}
use Rattle.query_plan.specs.Laws.{HasNot}
use Rattle.subquery_filter.proofs.verdicts.has_no_mark.Given as goal

abbrev pub invariant-loop-first : goal.invariant-loop-first
invariant-loop-first l = HasNot 10 l.fn.items ↔ HasNot 10 l.rest

abbrev pub decreases-loop-first : goal.decreases-loop-first
decreases-loop-first l = length l.rest
