-- Which tokens stand in stamps.
use Rattle.std.proofs.Common.{◌≡◌, ℕ, zero, suc, ◌+◌, ◌<◌, ◌≤◌, List, [], ◌∷◌, ◌++◌, length, get_or, sym, ◌∙◌, ap, subst, arith, inl, inr, length-append}
use Rattle.std.specs.Prelude.{ℤ, bit_or, false, slice_index_or}
use Rattle.std.proofs.lemmas.Bool.{cases_lt}
use Rattle.std.proofs.lemmas.List.{get_or_append_left, get_or_push}
use Rattle.time_patterns.specs.Laws.{OneText, PrintedMoments}
use Rattle.time_patterns.specs.Stamps.{Prints}
use Rattle.row_codec.specs.Means.{HasStampText}
use Rattle.subquery_filter.specs.declared.token.Token.{Token}
use Rattle.segment_format.specs.declared.head.Head.{Head}
use Rattle.subquery_filter.specs.declared.filter.Filter.{Filter}
use Rattle.subquery_filter.specs.Filter.{AreStamps, IsWithin, StampMarks}
use Rattle.subquery_filter.specs.StepsFilter.{StampsBring}
use Rattle.subquery_filter.proofs.BitLemmas.{has_left, has_right, has_through}

-- ---- the table of patterns

-- what each pattern's stamps may bring, as far as the table goes
abbrev pub StampsBefore : List Token → ℕ → List ℕ → Type 0
StampsBefore tokens count stamps =
    (length stamps ≡ count)
    × ((pattern : ℕ) (moment : ℤ) (s : List ℕ) → pattern < count → HasStampText pattern moment s → StampMarks tokens s (slice_index_or stamps pattern 0))

pub stamps_first : (tokens : List Token) (none old new : List ℕ) (mark : ℕ) → old ≡ [] → new ≡ old ++ mark ∷ [] → none ≡ [] → StampMarks tokens none mark → StampsBefore tokens 1 new
stamps_first tokens none old new mark empty is nothing marks =
    let made : new ≡ mark ∷ [] = is ∙ ap (λ l. l ++ mark ∷ []) empty in
    (ap length made, λ pattern moment s lt stamped. subst (λ l. StampMarks tokens s (slice_index_or l pattern 0)) (sym made) (at pattern moment s lt stamped))
  where
    at : (pattern : ℕ) (moment : ℤ) (s : List ℕ) → pattern < 1 → HasStampText pattern moment s → StampMarks tokens s (slice_index_or (mark ∷ []) pattern 0)
    at zero moment s lt stamped = subst (λ t. StampMarks tokens t mark) (nothing ∙ sym stamped.1) marks
    at (suc pattern) moment s lt stamped = absurd (omega (arith, lt))

prints_of : (k : ℕ) (moment : ℤ) (s : List ℕ) → 1 ≤ k → HasStampText k moment s → Prints k moment s
prints_of zero moment s some stamped = absurd (omega (arith, some))
prints_of (suc k) moment s some stamped = stamped

pub stamps_step : (tokens : List Token) (count : ℕ) (old new : List ℕ) (mark : ℕ) → 1 ≤ count → new ≡ old ++ mark ∷ [] → ((moment : ℤ) (s : List ℕ) → Prints count moment s → StampMarks tokens s mark)
    → StampsBefore tokens count old → StampsBefore tokens (count + 1) new
stamps_step tokens count old new mark some is marks (size, before) = (
  omega (arith, size, ap length is, length-append old (mark ∷ [])),
  λ pattern moment s lt stamped. elim (cases_lt pattern count) [
    | inl less ↦ subst (StampMarks tokens s) (sym (ap (λ l. get_or l pattern 0) is ∙ get_or_append_left old (mark ∷ []) 0 pattern (omega (arith, less, size)))) (before pattern moment s less stamped)
    | inr past ↦
        let e : count ≡ pattern = omega (arith, lt, past) in
        let at : get_or new pattern 0 ≡ mark = ap (λ l. get_or l pattern 0) is ∙ get_or_push old mark 0 pattern (size ∙ e) in
        subst (StampMarks tokens s) (sym at) (marks moment s (subst (λ k. Prints k moment s) (sym e) (prints_of pattern moment s (omega (arith, some, e)) stamped)))
  ],
)

pub stamps_end : PrintedMoments → (tokens : List Token) (count : ℕ) (stamps : List ℕ) → 27 ≤ count → StampsBefore tokens count stamps → AreStamps tokens stamps
stamps_end printed tokens count stamps all (size, before) pattern moment s stamped = elim (cases_lt pattern count) [
  | inl less ↦ before pattern moment s less stamped
  | inr past ↦
      let prints = prints_of pattern moment s (omega (arith, past, all)) stamped in
      let known = printed.patterns pattern moment (s, prints) in
      absurd (omega (arith, past, all, known.1))
]

-- ---- the stamp of a row

pub stamp_is : OneText → PrintedMoments → (k : ℕ) (moment : ℤ) (text s : List ℕ) → Prints k moment text → HasStampText k moment s → text ≡ s
stamp_is one printed zero moment text s prints stamped = absurd (omega (arith, (printed.patterns zero moment (text, prints)).0))
stamp_is one printed (suc k) moment text s prints stamped = one (suc k) moment text s prints stamped

-- ---- the stamps of a segment

-- what the stamps of the patterns so far may bring
abbrev pub WithinBefore : List Token → List ℕ → Head → ℕ → ℕ → Type 0
WithinBefore tokens stamps head end bits =
    AreStamps tokens stamps → (pattern : ℕ) (moment : ℤ) (s : List ℕ) → pattern < end → IsWithin head moment → Prints pattern moment s → StampMarks tokens s bits

pub within_first : PrintedMoments → (tokens : List Token) (stamps : List ℕ) (head : Head) (bits : ℕ) → WithinBefore tokens stamps head 1 bits
within_first printed tokens stamps head bits are pattern moment s lt within prints = absurd (omega (arith, lt, (printed.patterns pattern moment (s, prints)).0))

stamp_text : (k : ℕ) (moment : ℤ) (s : List ℕ) → 1 ≤ k → Prints k moment s → HasStampText k moment s
stamp_text zero moment s some prints = absurd (omega (arith, some))
stamp_text (suc k) moment s some prints = prints

pub within_step : PrintedMoments → (tokens : List Token) (stamps : List ℕ) (head : Head) (end bits more may : ℕ) → may ≡ slice_index_or stamps end 0
    → ((moment : ℤ) (s : List ℕ) → IsWithin head moment → Prints end moment s → StampMarks tokens s may → StampMarks tokens s more)
    → WithinBefore tokens stamps head end bits → WithinBefore tokens stamps head (end + 1) (bit_or bits more)
within_step printed tokens stamps head end bits more may is here before are pattern moment s lt within prints = elim (cases_lt pattern end) [
  | inl less ↦ λ j d inside fits. has_left bits more (slice_index_or tokens j d).bit (before are pattern moment s less within prints j d inside fits)
  | inr past ↦
      let e : pattern ≡ end = omega (arith, lt, past) in
      let known = printed.patterns pattern moment (s, prints) in
      let marks : StampMarks tokens s may =
      subst (λ (n : ℕ). StampMarks tokens s n) (ap (λ n. slice_index_or stamps n 0) e ∙ sym is) (are pattern moment s (stamp_text pattern moment s known.0 prints)) in
      λ j d inside fits. has_through (bit_or bits more) more (slice_index_or tokens j d).bit (has_right bits more)
      (here moment s within (subst (λ n. Prints n moment s) e prints) marks j d inside fits)
]

pub within_all : PrintedMoments → (tokens : List Token) (stamps : List ℕ) (head : Head) (end bits : ℕ) → 27 ≤ end → WithinBefore tokens stamps head end bits
    → AreStamps tokens stamps → (pattern : ℕ) (moment : ℤ) (s : List ℕ) → IsWithin head moment → Prints pattern moment s → StampMarks tokens s bits
within_all printed tokens stamps head end bits all before are pattern moment s within prints =
    before are pattern moment s (omega (arith, all, (printed.patterns pattern moment (s, prints)).1)) within prints

-- no row has a stamp
pub bring_none : (f : Filter) (head : Head) (bits : ℕ) → bits ≡ slice_index_or f.stamps.items 0 0 → head.stamped ≡ false → StampsBring f head bits
bring_none f head bits is none are zero moment s within stamped = subst (λ (n : ℕ). StampMarks f.tokens.items s n) (sym is) (are zero moment s stamped)
bring_none f head bits is none are (suc pattern) moment s within stamped =
    absurd (let some = (within (λ zero_is. absurd (omega (arith, zero_is)))).0 in cc (none, some))

pub bring_within : (f : Filter) (head : Head) (none bits : ℕ) → none ≡ slice_index_or f.stamps.items 0 0
    → (AreStamps f.tokens.items f.stamps.items → (pattern : ℕ) (moment : ℤ) (s : List ℕ) → IsWithin head moment → Prints pattern moment s → StampMarks f.tokens.items s bits)
    → StampsBring f head (bit_or none bits)
bring_within f head none bits is tells are zero moment s within stamped = λ j d lt fits.
    has_left none bits (slice_index_or f.tokens.items j d).bit (subst (λ (n : ℕ). StampMarks f.tokens.items s n) (sym is) (are zero moment s stamped) j d lt fits)
bring_within f head none bits is tells are (suc pattern) moment s within stamped = λ j d lt fits.
    has_through (bit_or none bits) bits (slice_index_or f.tokens.items j d).bit (has_right none bits)
    (tells are (suc pattern) moment s (within (λ zero_is. absurd (omega (arith, zero_is)))) stamped j d lt fits)
