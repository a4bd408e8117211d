-- The classes of a run of bytes, one byte after the other.
use Rattle.std.proofs.Common.{◌≡◌, ℕ, ◌+◌, ◌-◌, ◌<◌, ◌≤◌, Bool, true, ◌&&◌, ◌||◌, List, [], bit_and, bit_or, length, take, drop, get_or, refl, sym, ◌∙◌, ap, ap₂, subst, arith, inl, inr}
use Rattle.std.specs.Prelude.{slice_range, slice_index, Option, None, Some, nat_le, nat_lt, nat_eq, zero, suc, IsTrue, ◌↔◌}
use Rattle.std.specs.Option.{option_eq}
use Rattle.std.specs.List.{list_any, list_all}
use Rattle.std.proofs.lemmas.List.{get_or-drop, length-drop, length-take-le, take_all}
use Rattle.std.proofs.lemmas.List.Folds.{list_any_more, list_all_more}
use Rattle.std.proofs.lemmas.Bool.{cases_lt}
use Rattle.std.proofs.lemmas.Option.{slice_get-get_or}
use Rattle.std.proofs.lemmas.Nat.{and_le_l, or_lt}
use Rattle.token_rules.specs.Classes.{HasClasses, meets}
use Rattle.token_rules.specs.Tokens.{is_digit, is_letter, is_hexadecimal, is_equals_sign, byte_before, is_variable, is_token_byte}
use Rattle.token_rules.proofs.TableLemmas.{meets-or_digit, meets-or_letter, meets-and_hexadecimal}

-- a test of the bytes from start up to end, and of one more
module _ (body : List ℕ) (start end : ℕ) (ordered : start ≤ end) (inside : end < length body) where
  one_more : end + 1 - start ≡ end - start + 1
  one_more = omega arith

  room : end - start < length (drop start body)
  room = omega (arith, length-drop start body)

  last_byte : get_or (drop start body) (end - start) 0 ≡ slice_index body end
  last_byte =
      let place : start + (end - start) ≡ end = omega arith in
      get_or-drop start body (end - start) 0 ∙ ap (λ k. get_or body k 0) place

  pub any_more : (p : ℕ → Bool) → list_any p (slice_range body start (end + 1)) ≡ (list_any p (slice_range body start end) || p (slice_index body end))
  any_more p =
      ap (λ n. list_any p (take n (drop start body))) one_more
      ∙ list_any_more p (drop start body) (end - start) 0 room
      ∙ ap (λ b. list_any p (slice_range body start end) || p b) last_byte

  pub all_more : (p : ℕ → Bool) → list_all p (slice_range body start (end + 1)) ≡ (list_all p (slice_range body start end) && p (slice_index body end))
  all_more p =
      ap (λ n. list_all p (take n (drop start body))) one_more
      ∙ list_all_more p (drop start body) (end - start) 0 room
      ∙ ap (λ b. list_all p (slice_range body start end) && p b) last_byte

  -- the run's classes with those of one byte more
  pub classes_more : (any all class : ℕ) → HasClasses (slice_range body start end) any all → class < 16 → meets class 2 ≡ is_digit (slice_index body end) → meets class 4 ≡ is_letter (slice_index body end) → meets class 8 ≡ is_hexadecimal (slice_index body end) → HasClasses (slice_range body start (end + 1)) (bit_or any class) (bit_and all class)
  classes_more any all class so_far small digit letter hexadecimal = record {
    small_any = or_lt 4 any class so_far.small_any small;
    small_all = omega (arith, and_le_l all class, so_far.small_all);
    digit = meets-or_digit any class so_far.small_any small ∙ ap₂ (λ x y. x || y) so_far.digit digit ∙ sym (any_more is_digit);
    letter = meets-or_letter any class so_far.small_any small ∙ ap₂ (λ x y. x || y) so_far.letter letter ∙ sym (any_more is_letter);
    hexadecimal = meets-and_hexadecimal all class so_far.small_all small ∙ ap₂ (λ x y. x && y) so_far.hexadecimal hexadecimal ∙ sym (all_more is_hexadecimal);
  }

-- no byte yet
pub classes_none : (body : List ℕ) (start : ℕ) → HasClasses (slice_range body start start) 0 8
unfolding meets
classes_none body start =
    let none : slice_range body start start ≡ [] = ap (λ n. take n (drop start body)) (let e : start - start ≡ 0 = omega arith in e) in
    subst (λ token. HasClasses token 0 8) (sym none) (record { small_any = omega arith; small_all = omega arith; digit = refl; letter = refl; hexadecimal = refl })

-- the test by classes is the rule
pub rule_by_classes : (prev : Option ℕ) (token : List ℕ) (any all size : ℕ) (after_equals : Bool) → HasClasses token any all → size ≡ length token → after_equals ≡ is_equals_sign prev → (meets any 2 || (after_equals && meets any 4) || (nat_le 2 size && meets all 8)) ≡ is_variable prev token
unfolding is_variable
rule_by_classes prev token any all size after_equals classes size_is equals_is =
    rw (classes.digit, classes.letter, classes.hexadecimal, size_is, equals_is) refl

-- the test by what a token has is the rule
pub rule_by_tests : (prev : Option ℕ) (token : List ℕ) (has_digit has_letter is_all : Bool) (size : ℕ) (after_equals : Bool) → has_digit ≡ list_any is_digit token → has_letter ≡ list_any is_letter token → is_all ≡ list_all is_hexadecimal token → size ≡ length token → after_equals ≡ is_equals_sign prev → (has_digit || (after_equals && has_letter) || (nat_le 2 size && is_all)) ≡ is_variable prev token
unfolding is_variable
rule_by_tests prev token has_digit has_letter is_all size after_equals digit letter hexadecimal size_is equals_is =
    rw (digit, letter, hexadecimal, size_is, equals_is) refl

-- no byte yet
pub none_there : (body : List ℕ) (start : ℕ) → slice_range body start start ≡ []
none_there body start = ap (λ n. take n (drop start body)) (let e : start - start ≡ 0 = omega arith in e)

-- the bytes from start up to end are so many
pub length-slice_range : (body : List ℕ) (start end : ℕ) → end ≤ length body → length (slice_range body start end) ≡ end - start
length-slice_range body start end inside =
    length-take-le (end - start) (drop start body) (omega (arith, length-drop start body))

-- what holds of each byte from start up to end, and of the byte at end
pub one_further : (body : List ℕ) (start end : ℕ) → ((k : ℕ) → start ≤ k → k < end → is_token_byte (slice_index body k) ≡ true) → is_token_byte (slice_index body end) ≡ true → (k : ℕ) → start ≤ k → k < end + 1 → is_token_byte (slice_index body k) ≡ true
one_further body start end before here k low high =
    elim (cases_lt k end) [
      | inl less ↦ before k low less
      | inr not_less ↦ subst (λ j. is_token_byte (slice_index body j) ≡ true) (let e : end ≡ k = omega arith in e) here
    ]

-- the comparison that the code makes
pub equals_sign_compared : (prev : Option ℕ) → option_eq nat_eq prev (Some 61) ≡ is_equals_sign prev
equals_sign_compared None = refl
equals_sign_compared (Some b) = refl

-- a test's answer as a fact
pub tells : (result rule : Bool) → result ≡ rule → IsTrue result ↔ IsTrue rule
tells result rule same = (λ h. sym same ∙ h, λ h. same ∙ h)

-- the byte before a place, as the code reads it
pub equals_sign_before : (body : List ℕ) (start : ℕ) → 0 < start → start ≤ length body → nat_eq (get_or body (start - 1) 0) 61 ≡ is_equals_sign (byte_before body start)
equals_sign_before body zero positive inside = absurd (omega arith)
equals_sign_before body (suc k) positive inside =
    let back : suc k - 1 ≡ k = omega arith in
    ap (λ n. nat_eq (get_or body n 0) 61) back ∙ sym (ap is_equals_sign (slice_get-get_or body k 0 (omega arith)))

pub equals_sign_at_front : (body : List ℕ) (start : ℕ) → start ≤ 0 → nat_lt 0 start ≡ is_equals_sign (byte_before body start)
equals_sign_at_front body zero front = refl
equals_sign_at_front body (suc k) front = absurd (omega arith)

pub whole_range : (token : List ℕ) (end : ℕ) → length token ≤ end → slice_range token 0 end ≡ token
whole_range token end whole =
    let all : end - 0 ≡ end = omega arith in
    ap (λ n. take n token) all ∙ take_all end token whole
