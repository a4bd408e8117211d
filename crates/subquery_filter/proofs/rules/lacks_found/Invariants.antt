use Rattle.std.specs.Prelude.{List, ℕ, true}
use Rattle.std.specs.List.Sorted.{IsStrictlyIncreasing}
use Rattle.plain_list.specs.Texts.{AreDistinct}
use Rattle.query_plan.specs.Needs.{needed_variables_of}
use Rattle.query_plan.specs.Pieces.{Free, needed_of}
use Rattle.barren_segments.specs.Barren.{IsMissing}
use Rattle.subquery_filter.specs.Found.{AreNumbers}
use Rattle.subquery_filter.proofs.RuleLemmas.{EachBefore}
use Rattle.subquery_filter.proofs.rules.lacks_found.Given as goal

abbrev pub invariant-loop-place : goal.invariant-loop-place
invariant-loop-place l =
    (known : List (List ℕ)) → IsStrictlyIncreasing l.fn.listed → AreDistinct known → AreNumbers known (needed_of Free l.fn.plan) (needed_variables_of Free l.fn.plan) l.fn.found
    → EachBefore (λ t. ¬ IsMissing known l.fn.listed t) l.words l.variables true l.place
