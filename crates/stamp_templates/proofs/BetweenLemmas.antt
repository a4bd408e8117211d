-- What lies between two texts.
use Rattle.std.proofs.Common.{◌≡◌, ℕ, zero, suc, ◌+◌, ◌<◌, ◌≤◌, ◌⊎◌, inl, inr, List, [], ◌∷◌, ◌++◌, length, take, drop, sym, ap, subst, ◌∙◌, arith, ℤ}
use Rattle.std.proofs.Math.ListN.{get_or-append}
use Rattle.std.proofs.lemmas.Bool.{cases_lt}
use Rattle.std.proofs.lemmas.List.{length-append, take-append-drop}
use Rattle.std.specs.Prelude.{◌<ℤ◌, ◌≤ℤ◌, slice_index}
use Rattle.time_patterns.specs.Laws.{PrintsFrom}
use Rattle.time_patterns.specs.Stamps.{IsPrintable, Prints}
use Rattle.wild_match.specs.Matches.{Match}
use Rattle.query_plan.specs.Needs.{around}
use Rattle.stamp_templates.specs.Laws.{IsNotAbove, MatchesStand, PlacesFit, StandsAt}
use Rattle.stamp_templates.specs.StepsBetween.{AreSame}
use Rattle.stamp_templates.specs.Templates.{FitsAt, template_of}
use Rattle.stamp_templates.proofs.SearchLemmas.{within}

-- what a pattern prints lies in its range
pub in_range : (k : ℕ) (m first end : ℤ) (unit : ℕ) → PrintsFrom k first end unit → IsPrintable k m → (first ≤ℤ m) × (m <ℤ end)
in_range k m first end unit range is = let r = (range m).0 is in (r.0, r.1)

pub same_more : (one other : List ℕ) (place : ℕ) → AreSame one other place → slice_index one place ≡ slice_index other place → AreSame one other (place + 1)
same_more one other place same here i lt =
    elim (cases_lt i place) [
      | inl before ↦ same i before
      | inr past ↦
          let e : i ≡ place = omega (arith, lt, past) in
          subst (λ n. slice_index one n ≡ slice_index other n) (sym e) here
    ]

-- behind bytes that two texts have in common, the next one of the lower is not above that of the other
next_byte : (low high : List ℕ) (place : ℕ) → IsNotAbove low high → AreSame low high place → place < length low → place < length high → slice_index low place ≤ slice_index high place
next_byte [] high place below same in_low in_high = absurd (omega (arith, in_low))
next_byte (a ∷ low) [] place below same in_low in_high = absurd (omega (arith, in_high))
next_byte (a ∷ low) (b ∷ high) zero below same in_low in_high = not_above a b (IsNotAbove low high) below
  where
    not_above : (x y : ℕ) (P : Type 0) → (x < y) ⊎ ((x ≡ y) × P) → x ≤ y
    not_above x y P (inl less) = omega (arith, less)
    not_above x y P (inr h) = omega (arith, h.0)
next_byte (a ∷ low) (b ∷ high) (suc place) below same in_low in_high =
    let first : a ≡ b = same 0 (omega arith) in
    elim below [
      | inl less ↦ absurd (omega (arith, first, less))
      | inr h ↦ next_byte low high place h.1 (λ i lt. same (suc i) (omega (arith, lt))) (omega (arith, in_low)) (omega (arith, in_high))
    ]

-- a byte of the front of a text
in_front : (text behind : List ℕ) (i : ℕ) → i < length text → slice_index (text ++ behind) i ≡ slice_index text i
in_front text behind i lt = get_or-append text behind 0 i lt

front_same : (text behind other : List ℕ) (place : ℕ) → place < length text → AreSame text other place → AreSame (text ++ behind) other place
front_same text behind other place within same i lt = in_front text behind i (omega (arith, lt, within)) ∙ same i lt

-- what begins with a text is above another one where the first byte that differs is more
pub front_above : (text other behind : List ℕ) (place : ℕ) → AreSame text other place → place < length text → place < length other → slice_index other place < slice_index text place → ¬ IsNotAbove (text ++ behind) other
front_above text other behind place same in_text in_other more is =
    let next = next_byte (text ++ behind) other place is (front_same text behind other place in_text same) (omega (arith, in_text, length-append text behind)) in_other in
    omega (arith, next, more, in_front text behind place in_text)

-- and below it where that byte is less
pub front_below : (text other behind : List ℕ) (place : ℕ) → AreSame text other place → place < length text → place < length other → slice_index text place < slice_index other place → ¬ IsNotAbove other (text ++ behind)
front_below text other behind place same in_text in_other less is =
    let next = next_byte other (text ++ behind) place is (λ i lt. sym (front_same text behind other place in_text same i lt)) in_other (omega (arith, in_text, length-append text behind)) in
    omega (arith, next, less, in_front text behind place in_text)

-- what lies between two texts with the same bytes before a place lies between them from there on too
pub between_behind : (low stamp high : List ℕ) (at : ℕ) → at ≤ length low → at ≤ length high → at ≤ length stamp → take at low ≡ take at high → IsNotAbove low stamp → IsNotAbove stamp high
    → IsNotAbove (drop at low) (drop at stamp) × IsNotAbove (drop at stamp) (drop at high)
between_behind low stamp high zero in_low in_high in_stamp same above below = (above, below)
between_behind [] stamp high (suc at) in_low in_high in_stamp same above below = absurd (omega (arith, in_low))
between_behind (a ∷ low) [] high (suc at) in_low in_high in_stamp same above below = absurd (omega (arith, in_stamp))
between_behind (a ∷ low) (c ∷ stamp) [] (suc at) in_low in_high in_stamp same above below = absurd (omega (arith, in_high))
between_behind (a ∷ low) (c ∷ stamp) (b ∷ high) (suc at) in_low in_high in_stamp same above below =
    let first : a ≡ b = cc (same) in
    let rest : take at low ≡ take at high = cc (same) in
    elim above [
      | inl less ↦ elim below [
        | inl more ↦ absurd (omega (arith, first, less, more))
        | inr h ↦ absurd (omega (arith, first, less, h.0))
      ]
      | inr g ↦ elim below [
        | inl more ↦ absurd (omega (arith, first, g.0, more))
        | inr h ↦ between_behind low stamp high at (omega (arith, in_low)) (omega (arith, in_high)) (omega (arith, in_stamp)) rest g.1 h.1
      ]
    ]

-- no text that lies between two has this one at a place
abbrev pub IsOutAt : List ℕ → List ℕ → List ℕ → ℕ → Type 0
IsOutAt low high text at = (stamp : List ℕ) → IsNotAbove low stamp → IsNotAbove stamp high → ¬ StandsAt text stamp at

-- so is a text that is below or above what the two have from there on
pub stands_out : (low high text : List ℕ) (at : ℕ) → at ≤ length low → at ≤ length high → take at low ≡ take at high
    → ((behind : List ℕ) → ¬ IsNotAbove (drop at low) (text ++ behind)) ⊎ ((behind : List ℕ) → ¬ IsNotAbove (text ++ behind) (drop at high))
    → IsOutAt low high text at
stands_out low high text at in_low in_high same out stamp above below stands =
    let behind = drop (length text) (drop at stamp) in
    let cut : drop at stamp ≡ text ++ behind = sym (take-append-drop (length text) (drop at stamp)) ∙ ap (λ t. t ++ behind) stands.1 in
    let b = between_behind low stamp high at in_low in_high (omega (arith, stands.0)) same above below in
    elim out [
      | inl less ↦ less behind (subst (λ t. IsNotAbove (drop at low) t) cut b.0)
      | inr more ↦ more behind (subst (λ t. IsNotAbove t (drop at high)) cut b.1)
    ]

-- ---- places before another one

abbrev pub OutBefore : List ℕ → List ℕ → List ℕ → List ℕ → ℕ → Type 0
OutBefore template low high text end = (at : ℕ) → at < end → FitsAt template text at → IsOutAt low high text at

pub out_more : (template low high text : List ℕ) (end i : ℕ) → i ≡ end → OutBefore template low high text end → (FitsAt template text i → IsOutAt low high text i) → OutBefore template low high text (end + 1)
out_more template low high text end i place before here at lt =
    elim (cases_lt at end) [
      | inl less ↦ before at less
      | inr past ↦
          let e : i ≡ at = omega (arith, place, lt, past) in
          subst (λ n. FitsAt template text n → IsOutAt low high text n) e here
    ]

pub out_all : MatchesStand → PlacesFit → (k : ℕ) (template low high text : List ℕ) (end : ℕ) → template ≡ template_of k → 29 ≤ end → OutBefore template low high text end
    → (m : ℤ) (stamp : List ℕ) → Prints k m stamp → IsNotAbove low stamp → IsNotAbove stamp high → ¬ Match (around text) stamp
out_all stand law k template low high text end is far before m stamp prints above below found =
    let at = stand text stamp found in
    let fits : FitsAt (template_of k) text at.0 = law k m stamp text at.0 prints at.1 in
    before at.0 (omega (arith, far, within k at.0 text fits)) (subst (λ x. FitsAt x text at.0) (sym is) fits) stamp above below at.1
