-- The marks of words, and the lists that they are made of.
use Rattle.std.proofs.Common.{◌≡◌, ℕ, ◌+◌, ◌<◌, ◌≤◌, List, [], ◌∷◌, ◌++◌, length, map, take, get_or, get_or-set_other, get_or-set_same, refl, sym, ◌∙◌, ap, subst, arith, inl, inr}
use Rattle.std.specs.Prelude.{◌↔◌, Bool, true, Option, None, Some, Result, Ok, Err, IfOk, bit_and, bit_or, is_some, set, slice_get, slice_index_or}
use Rattle.std.specs.List.{Contains}
use Rattle.std.proofs.lemmas.Bool.{cases_eq, cases_lt}
use Rattle.std.proofs.lemmas.Option.{get_or_from_slice_get, slice_get-get_or, slice_get_within}
use Rattle.memchr.specs.Find.{FindsNeedle}
use Rattle.wild_match.specs.declared.pattern.Item.{Item}
use Rattle.wild_match.specs.declared.pattern.Item.TheVariants.{Byte, Many}
use Rattle.wild_match.specs.Matches.{Match}
use Rattle.wild_match.specs.Runs.{Occurs}
use Rattle.wild_match.proofs.Occurring.{Match-run, stands}
use Rattle.query_plan.specs.Needs.{around}
use Rattle.query_plan.specs.Pieces.{bytes}
use Rattle.subquery_filter.specs.declared.marks.WordMarks.{WordMarks}
use Rattle.subquery_filter.specs.declared.slots.TypeTest.{TypeTest}
use Rattle.subquery_filter.specs.declared.token.Token.{Token}
use Rattle.subquery_filter.specs.declared.verdicts.Verdict.{Verdict}
use Rattle.query_plan.specs.declared.pieces.Piece.{Piece}
use Rattle.subquery_filter.specs.declared.filter.Filter.{Filter}
use Rattle.subquery_filter.specs.Filter.{AreMarks, AreTexts, AreToldBy, Has, IsFilter, LacksAll}
use Rattle.subquery_filter.specs.Found.{HaveAll, HaveNumbers}
use Rattle.subquery_filter.specs.StepsFilter.{HasAt, HasLists, KeepsBits}
use Rattle.subquery_filter.proofs.BitLemmas.{has_left, has_none, has_right, has_self, has_through}
use Rattle.subquery_filter.proofs.FilterLemmas.{before_step, push_got, push_last}
use Rattle.subquery_filter.proofs.NumberLemmas.{stands_in}

-- ---- a token stands in the texts that its items match

bytes_run : (t : List ℕ) (behind : List Item) → take (length t) (bytes t behind) ≡ map (λ b. Byte b) t
bytes_run [] behind = refl
bytes_run (b ∷ t) behind = ap (λ (l : List Item). Byte b ∷ l) (bytes_run t behind)

occurs_in : (t text : List ℕ) → Match (around t) text → Occurs text t
occurs_in t text m =
    let at = Match-run (around t) t 1 text (bytes_run t (Many ∷ [])) m in
    (at.at, stands text t at.at at.within at.reads)

pub token_occurs : (k : Token) (text : List ℕ) → Match k.matcher.items text → Occurs text k.text
token_occurs k text m = occurs_in k.text text (stands_in k text m)

-- ---- bits in a table

pub keeps_self : (table : List ℕ) → KeepsBits table table
keeps_self table at = has_self (get_or table at 0)

pub keeps_through : (a b c : List ℕ) → KeepsBits a b → KeepsBits b c → KeepsBits a c
keeps_through a b c one two at = has_through (get_or c at 0) (get_or b at 0) (get_or a at 0) (two at) (one at)

pub keeps_same : (old new : List ℕ) → ((at : ℕ) → slice_index_or new at 0 ≡ slice_index_or old at 0) → KeepsBits old new
keeps_same old new same at = subst (λ (n : ℕ). Has n (get_or old at 0)) (sym (same at)) (has_self (get_or old at 0))

-- a bit was added at a place
pub set_added : (old new : List ℕ) (place bit : ℕ) → place < length old → new ≡ set old place (bit_or (slice_index_or old place 0) bit) → Has (slice_index_or new place 0) bit
set_added old new place bit lt is =
    let here : get_or new place 0 ≡ bit_or (get_or old place 0) bit = ap (λ (l : List ℕ). get_or l place 0) is ∙ get_or-set_same old place (bit_or (get_or old place 0) bit) 0 lt in
    subst (λ (n : ℕ). Has n bit) (sym here) (has_right (get_or old place 0) bit)

pub set_keeps : (old new : List ℕ) (place bit : ℕ) → place < length old → new ≡ set old place (bit_or (slice_index_or old place 0) bit) → KeepsBits old new
set_keeps old new place bit lt is at = elim (cases_eq at place) [
  | inl same ↦
      let here : get_or new place 0 ≡ bit_or (get_or old place 0) bit = ap (λ (l : List ℕ). get_or l place 0) is ∙ get_or-set_same old place (bit_or (get_or old place 0) bit) 0 lt in
      subst (λ (n : ℕ). Has (get_or new n 0) (get_or old n 0)) (sym same)
      (subst (λ (n : ℕ). Has n (get_or old place 0)) (sym here) (has_left (get_or old place 0) bit (get_or old place 0) (has_self (get_or old place 0))))
  | inr other ↦
      let there : get_or new at 0 ≡ get_or old at 0 = ap (λ (l : List ℕ). get_or l at 0) is ∙ get_or-set_other old place at (bit_or (get_or old place 0) bit) 0 other in
      subst (λ (n : ℕ). Has n (get_or old at 0)) (sym there) (has_self (get_or old at 0))
]

pub has_kept : (old new : List ℕ) (mask bit : ℕ) (numbers : List ℕ) → KeepsBits old new → HasAt old mask bit numbers → HasAt new mask bit numbers
has_kept old new mask bit numbers keeps has n there = has_through (get_or new (bit_and n mask) 0) (get_or old (bit_and n mask) 0) bit (keeps (bit_and n mask)) (has n there)

-- the bit stands behind the numbers so far
abbrev pub AtBefore : List ℕ → ℕ → ℕ → List ℕ → ℕ → Type 0
AtBefore table mask bit numbers i = (k d : ℕ) → k < i → Has (get_or table (bit_and (get_or numbers k d) mask) 0) bit

pub at_step : (old new : List ℕ) (mask bit : ℕ) (numbers : List ℕ) (i number : ℕ) → i < length numbers → number ≡ get_or numbers i number → KeepsBits old new
    → Has (get_or new (bit_and number mask) 0) bit → AtBefore old mask bit numbers i → AtBefore new mask bit numbers (i + 1)
at_step old new mask bit numbers i number lt is keeps here before =
    before_step numbers (λ (n : ℕ). Has (get_or old (bit_and n mask) 0) bit) (λ (n : ℕ). Has (get_or new (bit_and n mask) 0) bit) i number lt is
    (λ n h. has_through (get_or new (bit_and n mask) 0) (get_or old (bit_and n mask) 0) bit (keeps (bit_and n mask)) h) here before

pub at_end : (table : List ℕ) (mask bit : ℕ) (numbers : List ℕ) (i : ℕ) → length numbers ≤ i → AtBefore table mask bit numbers i → HasAt table mask bit numbers
at_end table mask bit numbers i le before n (k, lt, e) = subst (λ (x : ℕ). Has (get_or table (bit_and x mask) 0) bit) e (before k n (omega (arith, lt, le)))

-- ---- the lists of all tokens

abbrev pub ListsBefore : List ℕ → ℕ → List Token → List (List ℕ) → ℕ → Type 0
ListsBefore table mask tokens lists i = (j : ℕ) (k : Token) → j < i → slice_get tokens j ≡ Some k → HasAt table mask k.bit (slice_index_or lists j [])

same_tokens : (o : Option Token) (a b : Token) → o ≡ Some a → o ≡ Some b → a ≡ b
same_tokens o a b one two = cc (one, two)

pub lists_step : (old new : List ℕ) (mask : ℕ) (tokens : List Token) (lists : List (List ℕ)) (i : ℕ) (token : Token) → slice_get tokens i ≡ Some token → KeepsBits old new
    → HasAt new mask token.bit (slice_index_or lists i []) → ListsBefore old mask tokens lists i → ListsBefore new mask tokens lists (i + 1)
lists_step old new mask tokens lists i token there keeps here before j k below at = elim (cases_lt j i) [
  | inl less ↦ has_kept old new mask k.bit (slice_index_or lists j []) keeps (before j k less at)
  | inr past ↦
      let e : i ≡ j = omega (arith, below, past) in
      let same : token ≡ k = same_tokens (slice_get tokens j) token k (subst (λ n. slice_get tokens n ≡ Some token) e there) at in
      subst (λ n. HasAt new mask k.bit (slice_index_or lists n [])) e (subst (λ (t : Token). HasAt new mask t.bit (slice_index_or lists i [])) same here)
]

pub lists_end : (table : List ℕ) (mask : ℕ) (tokens : List Token) (lists : List (List ℕ)) (i : ℕ) → length tokens ≤ i → ListsBefore table mask tokens lists i → HasLists table mask tokens lists
lists_end table mask tokens lists i le before j k at = before j k (let within = slice_get_within tokens j k at in omega (arith, within, le)) at

pub token_at : (tokens : List Token) (i : ℕ) (token : Token) → i < length tokens → token ≡ get_or tokens i token → slice_get tokens i ≡ Some token
token_at tokens i token within is = slice_get-get_or tokens i token within ∙ ap (λ (t : Token). Some t) (sym is)

-- marks that are made of the lists of all needles are those of the words
pub marks_are : (tokens : List Token) (words needles lists : List (List ℕ)) (marks : WordMarks) → AreTexts tokens needles → HaveAll needles words lists → HasLists marks.table.items marks.mask tokens lists
    → AreMarks tokens words marks
marks_are tokens words needles lists marks texts have has n text there = λ j d lt m.
    let k : Token = slice_index_or tokens j d in
    let at : slice_get tokens j ≡ Some k = slice_get-get_or tokens j d lt in
    has j k at n (have j k.text (texts j k at) n text there (token_occurs k text m))

-- ---- the texts of the tokens

abbrev pub TextsBefore : List Token → ℕ → List (List ℕ) → Type 0
TextsBefore tokens i texts = (j : ℕ) (k : Token) → j < i → slice_get tokens j ≡ Some k → slice_get texts j ≡ Some k.text

pub texts_step : (tokens : List Token) (i : ℕ) (old new : List (List ℕ)) (token : Token) (text : List ℕ) → length old ≡ i → new ≡ old ++ text ∷ [] → slice_get tokens i ≡ Some token → text ≡ token.text
    → TextsBefore tokens i old → TextsBefore tokens (i + 1) new
texts_step tokens i old new token text size is there same before j k below at =
    subst (λ (l : List (List ℕ)). slice_get l j ≡ Some k.text) (sym is)
    (elim (cases_lt j i) [
      | inl less ↦ push_got old text j k.text (before j k less at)
      | inr past ↦
          let e : length old ≡ j = omega (arith, below, past, size) in
          let mine : token ≡ k = same_tokens (slice_get tokens j) token k (subst (λ n. slice_get tokens n ≡ Some token) (sym size ∙ e) there) at in
          subst (λ n. slice_get (old ++ text ∷ []) n ≡ Some k.text) e (push_last old text ∙ ap (λ (l : List ℕ). Some l) (same ∙ ap (λ (t : Token). t.text) mine))
    ])

pub texts_end : (tokens : List Token) (i : ℕ) (texts : List (List ℕ)) → length tokens ≤ i → TextsBefore tokens i texts → AreTexts tokens texts
texts_end tokens i texts le before j k at = before j k (let within = slice_get_within tokens j k at in omega (arith, within, le)) at

-- ---- the numbers of the words in which a needle stands

pub found_tells : (needle text : List ℕ) (hit : Option ℕ) (there : Bool) → FindsNeedle text needle 0 hit → there ≡ is_some hit → (there ≡ true) ↔ Occurs text needle
found_tells needle text None there found is = (
  λ here. absurd (cc (here, is)),
  λ occurs. absurd (found occurs.0 (omega arith) (omega (arith, occurs.1.fits)) occurs.1),
)
found_tells needle text (Some k) there found is = (λ here. (k, found.1), λ occurs. is)

abbrev pub NumbersBefore : List ℕ → List (List ℕ) → ℕ → List ℕ → Type 0
NumbersBefore needle words count numbers = (n : ℕ) (text : List ℕ) → n < count → slice_get words n ≡ Some text → Occurs text needle → Contains numbers n

same_texts : (o : Option (List ℕ)) (a b : List ℕ) → o ≡ Some a → o ≡ Some b → a ≡ b
same_texts o a b one two = cc (one, two)

pub numbers_step : (needle : List ℕ) (words : List (List ℕ)) (count : ℕ) (old new : List ℕ) (text : List ℕ) → slice_get words count ≡ Some text
    → (Occurs text needle → Contains new count) → ((n : ℕ) → Contains old n → Contains new n) → NumbersBefore needle words count old → NumbersBefore needle words (count + 1) new
numbers_step needle words count old new text there here stays before n other below at occurs = elim (cases_lt n count) [
  | inl less ↦ stays n (before n other less at occurs)
  | inr past ↦
      let e : count ≡ n = omega (arith, below, past) in
      let same : text ≡ other = same_texts (slice_get words n) text other (subst (λ j. slice_get words j ≡ Some text) e there) at in
      subst (Contains new) e (here (subst (λ t. Occurs t needle) (sym same) occurs))
]

pub numbers_end : (needle : List ℕ) (words : List (List ℕ)) (count : ℕ) (numbers : List ℕ) → length words ≤ count → NumbersBefore needle words count numbers → HaveNumbers needle words numbers
numbers_end needle words count numbers le before n text at occurs = before n text (let within = slice_get_within words n text at in omega (arith, within, le)) at occurs

abbrev pub HaveBefore : List (List ℕ) → List (List ℕ) → ℕ → List (List ℕ) → Type 0
HaveBefore needles words i lists = (j : ℕ) (needle : List ℕ) → j < i → slice_get needles j ≡ Some needle → HaveNumbers needle words (slice_index_or lists j [])

pub have_step : (needles words : List (List ℕ)) (i : ℕ) (old new : List (List ℕ)) (needle numbers : List ℕ) → length old ≡ i → new ≡ old ++ numbers ∷ [] → slice_get needles i ≡ Some needle → HaveNumbers needle words numbers
    → HaveBefore needles words i old → HaveBefore needles words (i + 1) new
have_step needles words i old new needle numbers size is there here before j other below at =
    subst (λ (l : List (List ℕ)). HaveNumbers other words (get_or l j [])) (sym is)
    (elim (cases_lt j i) [
      | inl less ↦
          let within : j < length old = omega (arith, less, size) in
          subst (λ (l : List ℕ). HaveNumbers other words l) (sym (get_or_from_slice_get (old ++ numbers ∷ []) j (get_or old j []) [] (push_got old numbers j (get_or old j []) (slice_get-get_or old j [] within)))) (before j other less at)
      | inr past ↦
          let e : length old ≡ j = omega (arith, below, past, size) in
          let same : needle ≡ other = same_texts (slice_get needles j) needle other (subst (λ n. slice_get needles n ≡ Some needle) (sym size ∙ e) there) at in
          let last : get_or (old ++ numbers ∷ []) j [] ≡ numbers = get_or_from_slice_get (old ++ numbers ∷ []) j numbers [] (subst (λ n. slice_get (old ++ numbers ∷ []) n ≡ Some numbers) e (push_last old numbers)) in
          subst (λ (l : List ℕ). HaveNumbers other words l) (sym last) (subst (λ (t : List ℕ). HaveNumbers t words numbers) same here)
    ])

pub have_end : (needles words : List (List ℕ)) (i : ℕ) (lists : List (List ℕ)) → length needles ≤ i → HaveBefore needles words i lists → HaveAll needles words lists
have_end needles words i lists le before j needle at = before j needle (let within = slice_get_within needles j needle at in omega (arith, within, le)) at

pub text_here : (texts : List (List ℕ)) (i : ℕ) (text d : List ℕ) → i < length texts → text ≡ get_or texts i d → slice_get texts i ≡ Some text
text_here texts i text d within is = slice_get-get_or texts i d within ∙ ap (λ (t : List ℕ). Some t) (sym is)

-- ---- the whole filter

pub marked_ok : {E : Type 0} (ps : List Piece) (types words : List (List ℕ)) (f : Filter) (r : Result Filter E) → IfOk r (λ g. (texts : List (List ℕ)) → IsFilter ps types texts f → IsFilter ps types texts g) → IsFilter ps types words f
    → IfOk r (IsFilter ps types words)
marked_ok ps types words f (Ok g) told is = told words is
marked_ok ps types words f (Err e) told is = tt

-- ---- what is told of all rows of a log type

pub none_brought : (brought marks : ℕ) → marks ≡ 0 → Has brought marks
none_brought brought marks none = subst (Has brought) (sym none) (has_none brought)

pub told_none : (f : Filter) (tests : List TypeTest) (alone : List ℕ) (verdicts : List Verdict) → verdicts ≡ [] → AreToldBy f tests alone verdicts
told_none f tests alone verdicts none t v at = absurd (let e : None ≡ Some v = ap (λ (l : List Verdict). slice_get l t) (sym none) ∙ at in cc)

lacks_again : (f g : Filter) (test : TypeTest) (brought : ℕ) → f.wanted ≡ g.wanted → f.stamped ≡ g.stamped → LacksAll f test f.stamped brought → LacksAll g test g.stamped brought
lacks_again f g test brought wanted stamped h = record {
  bits = h.bits;
  has = h.has;
  numbers = h.numbers;
  words = h.words;
  stamps = subst (Has h.bits) stamped h.stamps;
  lacks = λ has. h.lacks (subst (Has h.bits) (sym wanted) has);
}

-- what is told of the log types by one filter is told by another
pub told_again : (f g : Filter) (tests : List TypeTest) (alone : List ℕ) (verdicts : List Verdict) → f.wanted ≡ g.wanted → f.stamped ≡ g.stamped → f.brought ≡ g.brought → f.run_stamped ≡ g.run_stamped
    → AreToldBy f tests alone verdicts → AreToldBy g tests alone verdicts
told_again f g tests alone verdicts wanted stamped brought runs told t v at =
    let (test, there, how) = told t v at in (
      test,
      there,
      elim how [
        | inl same ↦ inl same
        | inr (never, inl (tried, h)) ↦ inr (never, inl (tried, subst (LacksAll g test g.stamped) brought (lacks_again f g test f.brought wanted stamped h)))
        | inr (never, inr lacks) ↦ inr (never, inr (λ has. lacks (subst (λ (n : ℕ). Has n (slice_index_or alone t 0)) (sym runs) has)))
      ],
    )
