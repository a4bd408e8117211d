-- Log types of which all rows are rejected.
use Rattle.std.proofs.Common.{◌≡◌, ℕ, ◌+◌, ◌<◌, ◌≤◌, List, length, get_or, ap, ◌∙◌, arith}
use Rattle.std.specs.Prelude.{All, Some, slice_get}
use Rattle.std.proofs.lemmas.List.{get_or_default}
use Rattle.std.proofs.lemmas.List.Elements.{All-from_get_or, All-weaker}
use Rattle.wild_match.specs.declared.pattern.Item.{Item}
use Rattle.query_plan.specs.Laws.{IsSearched}
use Rattle.query_plan.specs.Pieces.{wide_pieces}
use Rattle.subquery_filter.specs.declared.filter.Filter.{Filter}
use Rattle.subquery_filter.specs.declared.verdicts.Verdict.TheVariants.{Rejected}
use Rattle.subquery_filter.specs.Filter.{IsFilter, RejectsType}
use Rattle.subquery_filter.specs.Tokens.{RowsBring}
use Rattle.subquery_filter.specs.Verdicts.{CertainAlwaysMatches, RejectedNeverMatches}
use Rattle.subquery_filter.proofs.FilterLemmas.{before_step, told_verdict}

-- the verdict on a log type rejects all of its rows
abbrev pub IsRejecting : Filter → ℕ → Type 0
IsRejecting f t = slice_get f.verdicts.items t ≡ Some Rejected

-- so it is of the first ones of these
abbrev pub RejectingBefore : Filter → List ℕ → ℕ → Type 0
RejectingBefore f types i = (k d : ℕ) → k < i → IsRejecting f (get_or types k d)

pub rejecting_step : (f : Filter) (types : List ℕ) (i : ℕ) → i < length types → IsRejecting f (get_or types i 0) → RejectingBefore f types i → RejectingBefore f types (i + 1)
rejecting_step f types i lt here before =
    before_step types (IsRejecting f) (IsRejecting f) i (get_or types i 0) lt (get_or_default types i 0 (get_or types i 0) lt) (λ n h. h) here before

-- all of these log types are ruled out
pub rejects_types : RejectedNeverMatches → CertainAlwaysMatches → RowsBring → (p : List Item) → IsSearched p → (names texts : List (List ℕ)) (f : Filter) → IsFilter (wide_pieces p) names texts f
    → (types : List ℕ) (i : ℕ) → length types ≤ i → RejectingBefore f types i → All (RejectsType (wide_pieces p) names texts) types
rejects_types rejected certain law p searched names texts f is types i end before =
    All-weaker (IsRejecting f) (RejectsType (wide_pieces p) names texts)
    (λ t there row same. told_verdict rejected certain law p searched names texts f is row Rejected (ap (slice_get f.verdicts.items) same ∙ there)) types
    (All-from_get_or (IsRejecting f) types 0 (λ k lt. before k 0 (omega (arith, lt, end))))
