use Rattle.std.specs.Prelude.{false}
use Rattle.barren_segments.specs.Runs.{HoldsRun}
use Rattle.subquery_filter.proofs.RuleLemmas.{EachBefore}
use Rattle.subquery_filter.proofs.rules.holds_constants.Given as goal

abbrev pub invariant-loop-place : goal.invariant-loop-place
invariant-loop-place l = EachBefore (λ t. HoldsRun l.fn.text t) l.words l.variables false l.place
