-- What the searches for places find.
use Rattle.std.proofs.Common.{◌≡◌, ℕ, ◌+◌, ◌-◌, ◌<◌, ◌≤◌, ◌↔◌, Bool, true, false, List, [], ◌∷◌, ◌++◌, length, sym, ap, subst, ◌∙◌, arith, inl, inr, Contains, IsTrue, ℤ}
use Rattle.std.specs.Prelude.{slice_index}
use Rattle.std.proofs.lemmas.Bool.{cases_order}
use Rattle.std.proofs.lemmas.List.{get_or_default}
use Rattle.std.proofs.lemmas.List.Elements.{Contains-append_left, Contains-push, Contains-push_cases}
use Rattle.time_patterns.specs.Stamps.{Prints}
use Rattle.time_patterns.proofs.PlaceLemmas.{IsForm_bound}
use Rattle.wild_match.specs.Matches.{Match}
use Rattle.query_plan.specs.Needs.{around}
use Rattle.stamp_templates.specs.Laws.{EndsNone, MatchesStand, PlacesFit, StandsAt, StandsInNone, TextsFit}
use Rattle.stamp_templates.specs.Templates.{ArePlaces, FitsAt, FitsEnd, template_of}
use Rattle.stamp_templates.proofs.PlaceLemmas.{ends_none, stands_in_none}
use Rattle.stamp_templates.proofs.TableLemmas.{short_template}

not_so : (r : Bool) (P : Type 0) → (IsTrue r ↔ P) → r ≡ false → ¬ P
not_so r P iff shut p = let lets : r ≡ true = iff.1 p in cc (lets, shut)

-- ---- places before another one

-- the template allows the text at no place before this one
abbrev pub NoneBefore : List ℕ → List ℕ → ℕ → Type 0
NoneBefore template text at = (k : ℕ) → k < at → ¬ FitsAt template text k

pub none_more : (template text : List ℕ) (at i : ℕ) (r : Bool) → i ≡ at → NoneBefore template text at → (IsTrue r ↔ FitsAt template text i) → r ≡ false
    → NoneBefore template text (at + 1)
none_more template text at i r place before iff shut k small f =
    elim (cases_order k at) [
      | inl same ↦ not_so r (FitsAt template text i) iff shut (subst (FitsAt template text) (same ∙ sym place) f)
      | inr (inl lt) ↦ before k lt f
      | inr (inr gt) ↦ absurd (omega arith)
    ]

-- from 29 on there is none
pub within : (k at : ℕ) (text : List ℕ) → FitsAt (template_of k) text at → at < 29
within k at text f = omega (arith, f.0, short_template k)

pub holds_none : MatchesStand → PlacesFit → (k : ℕ) (template text : List ℕ) (end : ℕ) → template ≡ template_of k → 29 ≤ end → NoneBefore template text end
    → StandsInNone k text
holds_none stand law k template text end is far before =
    stands_in_none stand law k text (λ at f. before at (omega (arith, within k at text f)) (subst (λ x. FitsAt x text at) (sym is) f))

-- the places before this one are listed
abbrev pub ListsBefore : List ℕ → List ℕ → ℕ → List ℕ → Type 0
ListsBefore template text at places = (k : ℕ) → Contains places k ↔ ((k < at) × FitsAt template text k)

pub lists_skip : (template text : List ℕ) (at i : ℕ) (r : Bool) (places : List ℕ) → i ≡ at → ListsBefore template text at places
    → (IsTrue r ↔ FitsAt template text i) → r ≡ false → ListsBefore template text (at + 1) places
lists_skip template text at i r places place before iff shut k = (
  λ has. let h = (before k).0 has in (omega (arith, h.0), h.1),
  λ h. elim (cases_order k at) [
    | inl same ↦ absurd (not_so r (FitsAt template text i) iff shut (subst (FitsAt template text) (same ∙ sym place) h.1))
    | inr (inl lt) ↦ (before k).1 (lt, h.1)
    | inr (inr gt) ↦ absurd (omega (arith, h.0))
  ],
)

pub lists_push : (template text : List ℕ) (at i : ℕ) (r : Bool) (places : List ℕ) → i ≡ at → ListsBefore template text at places
    → (IsTrue r ↔ FitsAt template text i) → r ≡ true → ListsBefore template text (at + 1) (places ++ at ∷ [])
lists_push template text at i r places place before iff lets k = (
  λ has. elim (Contains-push_cases places at k has) [
    | inl old ↦ let h = (before k).0 old in (omega (arith, h.0), h.1)
    | inr same ↦ (omega arith, subst (FitsAt template text) (place ∙ same) (iff.0 lets))
  ],
  λ h. elim (cases_order k at) [
    | inl same ↦ subst (λ x. Contains (places ++ at ∷ []) x) (sym same) (Contains-push places at)
    | inr (inl lt) ↦ Contains-append_left places (at ∷ []) k ((before k).1 (lt, h.1))
    | inr (inr gt) ↦ absurd (omega (arith, h.0))
  ],
)

pub lists_all : (k : ℕ) (template text places : List ℕ) (end : ℕ) → template ≡ template_of k → 29 ≤ end → ListsBefore template text end places
    → (at : ℕ) → Contains places at ↔ FitsAt (template_of k) text at
lists_all k template text places end is far before at = (
  λ has. subst (λ x. FitsAt x text at) is ((before at).0 has).1,
  λ f. (before at).1 (omega (arith, within k at text f), subst (λ x. FitsAt x text at) (sym is) f),
)

-- ---- all patterns

pub none_of_more : (text : List ℕ) (p : ℕ) → ((k : ℕ) → 1 ≤ k → k < p → StandsInNone k text) → StandsInNone p text → (k : ℕ) → 1 ≤ k → k < p + 1 → StandsInNone k text
none_of_more text p before here k low small =
    elim (cases_order k p) [
      | inl same ↦ subst (λ x. StandsInNone x text) (sym same) here
      | inr (inl lt) ↦ before k low lt
      | inr (inr gt) ↦ absurd (omega arith)
    ]

pub none_of_all : (text : List ℕ) (end : ℕ) → 26 < end → ((k : ℕ) → 1 ≤ k → k < end → StandsInNone k text) → (k : ℕ) → StandsInNone k text
none_of_all text end far before k m stamp p found =
    let bound = IsForm_bound k p.0 p.1 in
    before k bound.0 (omega (arith, bound.1)) m stamp p found

-- ---- the end of a stamp

pub ends_by : TextsFit → (k : ℕ) (template text : List ℕ) (r : Bool) → template ≡ template_of k
    → (IsTrue r ↔ FitsAt template text (length template - length text)) → r ≡ false → EndsNone k text
ends_by law k template text r is iff shut =
    let long : length template ≡ length (template_of k) = ap (λ (x : List ℕ). length x) is in
    ends_none law k text (λ at e f.
    let place : at ≡ length template - length text = omega arith in
    not_so r (FitsAt template text (length template - length text)) iff shut
    (subst (λ x. FitsAt x text (length template - length text)) (sym is) (subst (FitsAt (template_of k) text) place f)))

pub fits_end : (k : ℕ) (template text : List ℕ) (r : Bool) → template ≡ template_of k
    → (IsTrue r ↔ FitsAt template text (length template - length text)) → length text ≤ length template → r ≡ true → FitsEnd (template_of k) text
fits_end k template text r is iff short may =
    subst (λ x. FitsEnd x text) is (length template - length text, omega arith, iff.0 may)

pub ends_long : TextsFit → (k : ℕ) (template text : List ℕ) → template ≡ template_of k → length template < length text → EndsNone k text
ends_long law k template text is long =
    let same : length template ≡ length (template_of k) = ap (λ (x : List ℕ). length x) is in
    ends_none law k text (λ at e f. absurd (omega arith))

-- ---- a printed stamp

pub some_none : MatchesStand → PlacesFit → (stamp text places : List ℕ) (end : ℕ) → length places ≤ end
    → ((i : ℕ) → i < end → ¬ StandsAt text stamp (slice_index places i))
    → (k : ℕ) (m : ℤ) → Prints k m stamp → ArePlaces (template_of k) text places → ¬ Match (around text) stamp
some_none stand law stamp text places end all none k m p are found =
    let at = stand text stamp found in
    let has = are at.0 (law k m stamp text at.0 p at.1) in
    let same : at.0 ≡ slice_index places has.0 = sym has.2 ∙ get_or_default places has.0 at.0 0 has.1 in
    none has.0 (omega (arith, has.1)) (subst (StandsAt text stamp) same at.1)
