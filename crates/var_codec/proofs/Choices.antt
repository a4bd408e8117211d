-- From what a text without its sign reads as to the word of the text.
use Rattle.std.proofs.Common.{◌≡◌, ◌≢◌, ◌⊎◌, ℕ, zero, suc, ◌+◌, ◌-◌, ◌*◌, ◌%◌, ◌^◌, ◌<◌, ◌≤◌, Bool, true, false, List, ◌∷◌, ◌++◌, length, get_or, ℤ, pos, negsuc, ◌+ℤ◌, ◌-ℤ◌, nat_abs, true≢false, Some, None, refl, sym, ap, ap₂, ◌∙◌, subst, inl, inr, arith, FitsSigned, w64, if◌then◌else◌, length-append, bit_or, eq-zero-or-pos}
use Rattle.std.specs.Fmt.{decimal, signed_decimal, sign_text}
use Rattle.std.specs.Str.Parse.{AllDigits, digits_value}
use Rattle.std.proofs.lemmas.Fmt.{decimal_is_IsNumeral, first_decimal, decimal_digit, decimal-digits_value, digits_value-decimal, length-decimal-le}
use Rattle.std.proofs.lemmas.Str.Parse.{digits_value_short}
use Rattle.std.proofs.lemmas.Nat.{or_shifted}
use Rattle.std.proofs.lemmas.Int.{ints}
use mir.Val.{bool_byte}
use Rattle.var_codec.specs.declared.Coded.TheVariants.{Word}
use Rattle.var_codec.specs.Codes.{DecimalParts, IsDecimalText, IsWholeText, Codes, digits_of}
use Rattle.var_codec.specs.Digits.{HasDigits, HasPoint, IsOther, IsUnsigned, IsPlain, signed}
use Rattle.var_codec.proofs.Texts.{own, is_below_zero, size_le, all_digits, head_digits, head_point, split_point, no_point, whole_parts, decimal_parts}
use Rattle.var_codec.proofs.Words.{digits-append}

-- with a point

pub unsigned_point : (s : List ℕ) (n p : ℕ) → HasPoint s n p → get_or s 0 0 ≢ 45
unsigned_point s n p h e = head_point h.before h.after h.digits_before (ap (λ t. get_or t 0 0) (sym h.joined) ∙ e)

point_not_whole : (m : Bool) (s : List ℕ) (n p : ℕ) (z : ℤ) → HasPoint s n p → ¬ IsWholeText (sign_text m ++ s) z
point_not_whole m s n p z h w = no_point h.before h.after (decimal (nat_abs z)) (all_digits _ (size_le z w.fits)) (sym (whole_parts m s z (λ _. unsigned_point s n p h) w).1 ∙ h.joined)

-- no digit stands after the point, or there are too many of them
pub not_decimal : (m : Bool) (s : List ℕ) (n p : ℕ) → HasPoint s n p → (length s - 1 - p ≡ 0) ⊎ (16 < length s - 1) → Codes (sign_text m ++ s) Word
not_decimal m s n p h out = (λ z. point_not_whole m s n p z h, refused)
  where
    refused : (word : ℕ) → ¬ IsDecimalText (sign_text m ++ s) word
    refused word w =
        let d = w.parts in
        let k = split_point h.before h.after d.before d.after h.digits_before w.decimal.before (sym h.joined ∙ (decimal_parts m s word (λ _. unsigned_point s n p h) w).1) in
        let long = ap length h.joined ∙ length-append h.before (46 ∷ h.after) in
        omega (arith, w.decimal.most, w.decimal.after.0, length-append d.before d.after, ap length k.0, ap length k.1, h.place)

pub is_decimal : (m : Bool) (s : List ℕ) (n p word : ℕ) → HasPoint s n p → length s - 1 - p ≢ 0 → length s - 1 ≤ 16 → word ≡ (if m then 2 ^ 63 else 0) + 2 ^ 8 * n + 16 * (length s - 1 - 1) + (length s - 1 - p - 1) → IsDecimalText (sign_text m ++ s) word
is_decimal m s n p word h some most e =
    let d : DecimalParts = record { negative = m; before = h.before; after = h.after } in
    let long = ap length h.joined ∙ length-append h.before (46 ∷ h.after) in
    let whole = length-append h.before h.after in
    let count : length s - 1 ≡ length (digits_of d) = omega arith in
    let places : length s - 1 - p ≡ length h.after = omega (arith, h.place) in
    record {
      parts = d;
      decimal = record { before = h.digits_before; after = (omega arith, h.digits_after); most = omega arith };
      prints = ap (λ t. sign_text m ++ t) h.joined;
      packs = e ∙ (λ i. (if m then 2 ^ 63 else 0) + 2 ^ 8 * h.value i + 16 * (count i - 1) + (places i - 1));
    }

-- the fields of a word beside each other
pub packed : (s v n a : ℕ) → s < 2 → v < 2 ^ 54 → n < 16 → a < 16 → bit_or (bit_or (s * 2 ^ 63 % 2 ^ 64) (v * 2 ^ 8 % 2 ^ 64)) (bit_or (n * 2 ^ 4 % 2 ^ 64) a) ≡ s * 2 ^ 63 + v * 2 ^ 8 + (n * 2 ^ 4 + a)
packed s v n a p q r t =
    let x : s * 2 ^ 63 % 2 ^ 64 ≡ s * 2 ^ 63 = omega arith in
    let y : v * 2 ^ 8 % 2 ^ 64 ≡ v * 2 ^ 8 = omega arith in
    let z : n * 2 ^ 4 % 2 ^ 64 ≡ n * 2 ^ 4 = omega arith in
    let high : s * 2 ^ 63 + v * 2 ^ 8 ≡ (s * 2 ^ 55 + v) * 2 ^ 8 = omega arith in
    (λ i. bit_or (bit_or (x i) (y i)) (bit_or (z i) a))
    ∙ ap₂ bit_or (or_shifted s 63 (v * 2 ^ 8) (omega arith) ∙ high) (or_shifted n 4 a t)
    ∙ or_shifted (s * 2 ^ 55 + v) 8 (n * 2 ^ 4 + a) (omega arith)
    ∙ omega arith

pub packed_word : (m : Bool) (s : List ℕ) (n p b : ℕ) → HasPoint s n p → length s - 1 - p ≢ 0 → length s - 1 ≤ 16 → b ≡ bool_byte m
    → bit_or (bit_or (b * 2 ^ 63 % 2 ^ 64) (n * 2 ^ 8 % 2 ^ 64)) (bit_or ((length s - 1 - 1) * 2 ^ 4 % 2 ^ 64) (length s - 1 - p - 1)) ≡ (if m then 2 ^ 63 else 0) + 2 ^ 8 * n + 16 * (length s - 1 - 1) + (length s - 1 - p - 1)
packed_word m s n p b h some most e =
    let long = ap length h.joined ∙ length-append h.before (46 ∷ h.after) in
    let small = digits_value_short own (h.before ++ h.after) 16 (digits-append h.before h.after h.digits_before h.digits_after) (omega (arith, length-append h.before h.after)) in
    packed b n (length s - 1 - 1) (length s - 1 - p - 1) (omega (arith, byte m)) (omega (arith, h.value)) (omega arith) (omega arith) ∙ omega (arith, sign m)
  where
    byte : (m : Bool) → bool_byte m < 2
    byte true = omega arith
    byte false = omega arith

    sign : (m : Bool) → bool_byte m * 2 ^ 63 ≡ (if m then 2 ^ 63 else 0)
    sign true = refl
    sign false = refl

-- without a point

pub unsigned_digits : (s : List ℕ) (n : ℕ) → HasDigits s n → get_or s 0 0 ≢ 45
unsigned_digits s n h = head_digits s h.digits

digits_not_decimal : (m : Bool) (s : List ℕ) (n word : ℕ) → HasDigits s n → ¬ IsDecimalText (sign_text m ++ s) word
digits_not_decimal m s n word h w = no_point w.parts.before w.parts.after s h.digits (decimal_parts m s word (λ _. unsigned_digits s n h) w).1

-- what a number's sign and digits are
record IsPrint (m : Bool) (s : List ℕ) (n : ℕ) (z : ℤ) : Type 0 where
  sign : m ≡ is_below_zero z
  digits : s ≡ decimal n
  size : n ≡ nat_abs z
  most : n ≤ 2 ^ 63

print_of : (m : Bool) (s : List ℕ) (n : ℕ) (z : ℤ) → HasDigits s n → IsWholeText (sign_text m ++ s) z → IsPrint m s n z
print_of m s n z h w =
    let k = whole_parts m s z (λ _. unsigned_digits s n h) w in
    let most = size_le z w.fits in
    let size : n ≡ nat_abs z = h.value ∙ ap (digits_value 10) k.1 ∙ digits_value-decimal own (nat_abs z) (omega arith) in
    record { sign = k.0; digits = k.1 ∙ ap decimal (sym size); size = size; most = omega arith }

-- a number's print is plain
print_plain : (m : Bool) (s : List ℕ) (n : ℕ) (z : ℤ) → IsPrint m s n z → IsPlain m s
print_plain m s n z k = (omega (arith, ap length k.digits, (decimal_is_IsNumeral n (omega (arith, k.most))).0.0), lone)
  where
    zero_is : (z : ℤ) → 0 ≡ nat_abs z → is_below_zero z ≡ false
    zero_is (pos n) e = refl
    zero_is (negsuc n) e = absurd (omega arith)

    lone : get_or s 0 0 ≡ 48 → (m ≡ false) × (length s ≡ 1)
    lone e =
        let none : n ≡ 0 = elim (eq-zero-or-pos n) [ inl z ↦ z | inr g ↦ absurd (omega (arith, first_decimal n g (omega (arith, k.most)), e, ap (λ t. get_or t 0 0) k.digits)) ] in
        (k.sign ∙ zero_is z (sym none ∙ k.size), ap length (k.digits ∙ ap decimal none ∙ decimal_digit 0 (omega arith)))

-- no digit at all, or a needless 0 in front
pub not_plain : (m : Bool) (s : List ℕ) (n : ℕ) → HasDigits s n → ¬ IsPlain m s → Codes (sign_text m ++ s) Word
not_plain m s n h out = (λ z w. out (print_plain m s n z (print_of m s n z h w)), λ word. digits_not_decimal m s n word h)

signed_back : (m : Bool) (z : ℤ) → m ≡ is_below_zero z → signed m (nat_abs z) ≡ z
signed_back true (pos n) e = absurd (true≢false e)
signed_back true (negsuc n) e = omega (arith, ints)
signed_back false (pos n) e = omega (arith, ints)
signed_back false (negsuc n) e = absurd (true≢false (sym e))

-- the number has more than 64 bits
pub too_large : (m : Bool) (s : List ℕ) (n : ℕ) → HasDigits s n → ¬ FitsSigned w64 (signed m n) → Codes (sign_text m ++ s) Word
too_large m s n h out = (λ z w. let k = print_of m s n z h w in out (subst (FitsSigned w64) (sym (ap (signed m) k.size ∙ signed_back m z k.sign)) w.fits), λ word. digits_not_decimal m s n word h)

-- the sign and the digits of a number that has 64 bits
signed_print : (m : Bool) (n : ℕ) → (m ≡ true → 0 < n) → sign_text m ++ decimal n ≡ signed_decimal (signed m n)
signed_print false n some = ap signed_decimal (plus n)
  where
    plus : (n : ℕ) → pos n ≡ pos 0 +ℤ pos n
    plus n = omega (arith, ints)
signed_print true zero some = absurd (omega (arith, some refl))
signed_print true (suc n) some = ap signed_decimal (minus n)
  where
    minus : (n : ℕ) → negsuc n ≡ pos 0 -ℤ pos (suc n)
    minus n = omega (arith, ints)

-- the digits are the print of their number
pub is_whole : (m : Bool) (s : List ℕ) (n : ℕ) → HasDigits s n → IsPlain m s → length s ≤ 19 → FitsSigned w64 (signed m n) → IsWholeText (sign_text m ++ s) (signed m n)
is_whole m s n h plain short fits =
    let small : n < 10 ^ 19 = omega (arith, h.value, digits_value_short own s 19 h.digits short) in
    let prints : decimal n ≡ s = ap decimal h.value ∙ decimal-digits_value own s h.digits plain.0 (λ e. (plain.1 e).1) (omega (arith, h.value)) in
    record { fits = fits; prints = ap (λ t. sign_text m ++ t) (sym prints) ∙ signed_print m n (some prints) }
  where
    some : decimal n ≡ s → m ≡ true → 0 < n
    some prints e = elim (eq-zero-or-pos n) [
      | inl z ↦ absurd (true≢false (sym e ∙ (plain.1 (ap (λ t. get_or t 0 0) (sym prints ∙ ap decimal z ∙ decimal_digit 0 (omega arith)))).0))
      | inr g ↦ g
    ]

-- a text that does not read as digits with at most one point, or is longer than any number
other_text : (m : Bool) (s : List ℕ) → IsUnsigned m s → ((z : ℤ) → IsWholeText (sign_text m ++ s) z → HasDigits s (nat_abs z) → ⊥) → ((n p : ℕ) (w : HasPoint s n p) → length w.before + length w.after ≤ 16 → ⊥) → Codes (sign_text m ++ s) Word
other_text m s u whole point = (λ z w. whole z w (digits_of_whole z w), λ word w. point _ _ (point_of_decimal word w) (omega (arith, w.decimal.most, length-append w.parts.before w.parts.after)))
  where
    digits_of_whole : (z : ℤ) → IsWholeText (sign_text m ++ s) z → HasDigits s (nat_abs z)
    digits_of_whole z w =
        let k = whole_parts m s z u w in
        let small = size_le z w.fits in
        record { digits = subst (AllDigits 10) (sym k.1) (all_digits (nat_abs z) small); value = sym (ap (digits_value 10) k.1 ∙ digits_value-decimal own (nat_abs z) (omega arith)) }

    point_of_decimal : (word : ℕ) (w : IsDecimalText (sign_text m ++ s) word) → HasPoint s (digits_value 10 (digits_of w.parts)) (length w.parts.before)
    point_of_decimal word w = record {
      before = w.parts.before;
      after = w.parts.after;
      joined = (decimal_parts m s word u w).1;
      digits_before = w.decimal.before;
      digits_after = w.decimal.after.1;
      value = refl;
      place = refl;
    }

pub unread : (m : Bool) (s : List ℕ) → IsUnsigned m s → IsOther s → Codes (sign_text m ++ s) Word
unread m s u out = other_text m s u (λ z w h. out _ None h) (λ n p h l. out n (Some p) h)

pub too_long : (m : Bool) (s : List ℕ) → IsUnsigned m s → 19 < length s → Codes (sign_text m ++ s) Word
too_long m s u long = other_text m s u
    (λ z w h. let small = size_le z w.fits in omega (arith, ap length (whole_parts m s z u w).1, length-decimal-le 19 (nat_abs z) (omega arith) (omega arith) (omega arith)))
    (λ n p h l. omega (arith, ap length h.joined, length-append h.before (46 ∷ h.after)))
