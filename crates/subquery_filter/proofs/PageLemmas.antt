-- The spans of a page's moments.
use Rattle.std.proofs.Common.{◌≡◌, ℕ, ◌<◌, ◌≤◌, List, length, get_or, get_or-set_other, get_or-set_same, replicate, set, length-set, sym, ◌∙◌, ap, subst, arith, inl, inr}
use Rattle.std.specs.Prelude.{ℤ, ◌<ℤ◌, ◌≤ℤ◌}
use Rattle.std.proofs.lemmas.Bool.{cases_eq}
use Rattle.std.proofs.lemmas.Int.{ints}
use Rattle.std.proofs.lemmas.List.{get_or-replicate, length-replicate}
use Rattle.time_patterns.specs.Stamps.{Prints}
use Rattle.subquery_filter.specs.declared.run.Run.{Run}
use Rattle.subquery_filter.specs.declared.shared.Span.{Span}
use Rattle.subquery_filter.specs.declared.token.Token.{Token}
use Rattle.subquery_filter.specs.Filter.{RunMarks, StampMarks}
use Rattle.subquery_filter.specs.Page.{AreMay, IsSpan}
use Rattle.subquery_filter.proofs.AloneLemmas.{prints_of}

-- no moment is in an empty span
pub span_none : (tokens : List Token) (runs : List Run) (pattern : ℕ) (span : Span) → span.greatest <ℤ span.least → IsSpan tokens runs pattern span
span_none tokens runs pattern span apart moment s low high stamped = absurd (omega (arith, ints, apart, low, high))

pub may_none : (tokens : List Token) (runs : List Run) (count : ℕ) (none : Span) (spans : List Span) → spans ≡ replicate count none → none.greatest <ℤ none.least → AreMay tokens runs spans
may_none tokens runs count none spans is apart pattern d lt =
    let within : pattern < count = omega (arith, lt, ap length is, length-replicate count none) in
    let here : get_or spans pattern d ≡ none = ap (λ (l : List Span). get_or l pattern d) is ∙ get_or-replicate count pattern none d within in
    subst (IsSpan tokens runs pattern) (sym here) (span_none tokens runs pattern none apart)

-- a span of a pattern that has stamps
pub span_is : (tokens : List Token) (runs : List Run) (pattern : ℕ) (span : Span) → 1 ≤ pattern → ((moment : ℤ) (s : List ℕ) → span.least ≤ℤ moment → moment ≤ℤ span.greatest → Prints pattern moment s → RunMarks runs s span.may.runs × StampMarks tokens s span.may.tokens) → IsSpan tokens runs pattern span
span_is tokens runs pattern span some tells moment s low high stamped = tells moment s low high (prints_of pattern moment s some stamped)

pub may_set : (tokens : List Token) (runs : List Run) (old new : List Span) (place : ℕ) (span : Span) → place < length old → new ≡ set old place span → IsSpan tokens runs place span → AreMay tokens runs old → AreMay tokens runs new
may_set tokens runs old new place span within is here before pattern d lt = elim (cases_eq pattern place) [
  | inl same ↦
      let at : get_or new pattern d ≡ span = ap (λ (l : List Span). get_or l pattern d) is ∙ ap (λ (n : ℕ). get_or (set old place span) n d) same ∙ get_or-set_same old place span d within in
      subst (IsSpan tokens runs pattern) (sym at) (subst (λ (n : ℕ). IsSpan tokens runs n span) (sym same) here)
  | inr other ↦
      let at : get_or new pattern d ≡ get_or old pattern d = ap (λ (l : List Span). get_or l pattern d) is ∙ get_or-set_other old place pattern span d other in
      subst (IsSpan tokens runs pattern) (sym at) (before pattern d (omega (arith, lt, ap length is, length-set old place span)))
]
