use Rattle.std.specs.Prelude.{true}
use Rattle.std.specs.List.Sorted.{IsStrictlyIncreasing}
use Rattle.plain_list.specs.Texts.{AreDistinct}
use Rattle.barren_segments.specs.Barren.{IsMissing}
use Rattle.subquery_filter.proofs.RuleLemmas.{EachBefore}
use Rattle.subquery_filter.proofs.rules.lacks_word.Given as goal

abbrev pub invariant-loop-place : goal.invariant-loop-place
invariant-loop-place g l =
    IsStrictlyIncreasing l.fn.listed → AreDistinct (g.N.Names.words l.fn.names)
    → EachBefore (λ t. ¬ IsMissing (g.N.Names.words l.fn.names) l.fn.listed t) l.words l.variables true l.place
