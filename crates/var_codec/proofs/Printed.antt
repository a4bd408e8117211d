-- The text of a decimal's word.
use Rattle.std.proofs.Common.{◌≡◌, ◌≢◌, ℕ, zero, suc, ◌+◌, ◌-◌, ◌*◌, ◌/◌, ◌%◌, ◌^◌, ◌<◌, ◌≤◌, Bool, true, false, List, [], ◌∷◌, ◌++◌, length, take, drop, replicate, nat_eq, if◌then◌else◌, refl, sym, ap, ◌∙◌, subst, arith, length-append, length-drop, take-append-drop, eq-eqb, eqb-true, true≢false, append-nil, append_assoc, take_all, get_or, T, eqb, ◌&&◌, eqb→eq, eq-zero-or-pos, inl, inr}
use lib.Ieee.Fits.{and_l, and_r}
use Rattle.var_codec.specs.declared.printing.TheConstants.{TENS}
use Rattle.std.specs.Fmt.{decimal, sign_text}
use Rattle.std.specs.Str.Parse.{AllDigits, digits_value}
use Rattle.std.proofs.Math.Nat.{pow-le-pow_right}
use Rattle.std.proofs.lemmas.Fmt.{decimal_is_IsNumeral, digits_value-decimal, length-decimal-le}
use Rattle.std.proofs.lemmas.List.{drop-append-le, drop-replicate, length-replicate, take-replicate}
use Rattle.var_codec.specs.Codes.{DecimalParts, IsDecimalText, IsDecimalWord, HasText}
use Rattle.var_codec.specs.Fields.{padded, AreFields}
use Rattle.var_codec.specs.declared.printing.Fields.{Fields}
use Rattle.var_codec.proofs.Texts.{own}
use Rattle.var_codec.proofs.Words.{has_fields, value_small}

-- zeros in front change no number
zeros_digits : (k : ℕ) (ds : List ℕ) → AllDigits 10 ds → AllDigits 10 (replicate k 48 ++ ds)
zeros_digits zero ds h = h
zeros_digits (suc k) ds h = (omega arith, zeros_digits k ds h)

zeros_value : (k : ℕ) (ds : List ℕ) → digits_value 10 (replicate k 48 ++ ds) ≡ digits_value 10 ds
zeros_value zero ds = refl
zeros_value (suc k) ds = zeros_value k ds

split_digits : (a b : List ℕ) → AllDigits 10 (a ++ b) → AllDigits 10 a × AllDigits 10 b
split_digits [] b h = (tt, h)
split_digits (c ∷ a) b h = let r = split_digits a b h.1 in ((h.0, r.0), r.1)

-- so many digits of a number
abbrev pub digits_in : ℕ → ℕ → List ℕ
digits_in count n = drop (16 - count) (padded n)

-- they are digits, so many, and of that number
pub record HasDigitsIn (count n : ℕ) (ds : List ℕ) : Type 0 where
  pub digits : AllDigits 10 ds
  pub long : length ds ≡ count
  pub value : digits_value 10 ds ≡ n

cut_zeros : (m r k : ℕ) (ds : List ℕ) → m ≤ r → r - m ≡ k → drop m (replicate r 48 ++ ds) ≡ replicate k 48 ++ ds
cut_zeros m r k ds l e = drop-append-le m (replicate r 48) ds (omega (arith, length-replicate {A = ℕ} r 48)) ∙ ap (λ z. z ++ ds) (drop-replicate m r 48 ∙ ap (λ j. replicate j 48) e)

digits_in_is : (count n : ℕ) → 0 < count → count ≤ 16 → n < 10 ^ count → n < 2 ^ 64 → (length (decimal n) ≤ count) × (digits_in count n ≡ replicate (count - length (decimal n)) 48 ++ decimal n)
digits_in_is count n some most small fits =
    let len : length (decimal n) ≤ count = length-decimal-le count n some small fits in
    (len, cut_zeros (16 - count) (16 - length (decimal n)) (count - length (decimal n)) (decimal n) (omega arith) (omega arith))

ten_small : (count n : ℕ) → count ≤ 16 → n < 10 ^ count → n < 2 ^ 64
ten_small count n most small = omega (arith, pow-le-pow_right {n = 10} (omega arith) most)

zeros_have : (k count n : ℕ) → n < 2 ^ 64 → k + length (decimal n) ≡ count → HasDigitsIn count n (replicate k 48 ++ decimal n)
zeros_have k count n fits long = record {
  digits = zeros_digits k (decimal n) (decimal_is_IsNumeral n fits).0.1;
  long = length-append (replicate k 48) (decimal n) ∙ omega (arith, length-replicate {A = ℕ} k 48);
  value = zeros_value k (decimal n) ∙ digits_value-decimal own n fits;
}

pub has_digits_in : (count n : ℕ) → 0 < count → count ≤ 16 → n < 10 ^ count → HasDigitsIn count n (digits_in count n)
has_digits_in count n some most small =
    let fits = ten_small count n most small in
    let is = digits_in_is count n some most small fits in
    subst (HasDigitsIn count n) (sym is.1) (zeros_have (count - length (decimal n)) count n fits (omega (arith, is.0)))

-- what stands from the first of the digits on
pub digits_cut : (count n : ℕ) (bytes : List ℕ) → bytes ≡ padded n → n < 10 ^ 16 → take (16 - (16 - count)) (drop (16 - count) bytes) ≡ digits_in count n
digits_cut count n bytes e small =
    let len = length-decimal-le 16 n (omega arith) small (omega arith) in
    ap (λ p. take (16 - (16 - count)) (drop (16 - count) p)) e
    ∙ take_all (16 - (16 - count)) (digits_in count n) (omega (arith, length-drop (16 - count) (padded n), length-append (replicate (16 - length (decimal n)) 48) (decimal n), length-replicate {A = ℕ} (16 - length (decimal n)) 48))

-- the word of a text meets the arithmetic
pub word_of_text : (word : ℕ) → HasText word → IsDecimalWord word
word_of_text word h =
    let w = h.1 in
    let f = has_fields w.parts word w.decimal w.packs in
    record {
      zero_bit = f.zero_bit;
      digits = subst (λ n. word / 2 ^ 8 % 2 ^ 54 < 10 ^ n) (sym f.count) (omega (arith, f.value, value_small w.parts w.decimal));
      places = omega (arith, f.count, f.places, length-append w.parts.before w.parts.after);
    }

-- the fields of a word
abbrev pub number_in : ℕ → ℕ
number_in word = word / 2 ^ 8 % 2 ^ 54

abbrev pub count_in : ℕ → ℕ
count_in word = word / 2 ^ 4 % 2 ^ 4 + 1

abbrev pub places_in : ℕ → ℕ
places_in word = word % 2 ^ 4 + 1

-- the top bit
sign_is : (m : Bool) (q : ℕ) → q < 2 → m ≡ nat_eq q 1 → (if m then 2 ^ 63 else 0) ≡ 2 ^ 63 * q
sign_is true q l e = omega (arith, eqb-true q 1 (sym e))
sign_is false q l e = let none : q ≢ 1 = λ h. true≢false (sym (e ∙ eq-eqb q 1 h)) in omega arith

-- a word is its fields beside each other
word_is : (word : ℕ) → word < 2 ^ 64 → word / 2 ^ 62 % 2 ≡ 0 → (m : Bool) → m ≡ nat_eq (word / 2 ^ 63) 1 → word ≡ (if m then 2 ^ 63 else 0) + 2 ^ 8 * number_in word + 16 * (count_in word - 1) + (places_in word - 1)
word_is word fits z m e = omega (arith, sign_is m (word / 2 ^ 63) (omega arith) e)

-- the text with these fields has this word
pub text_of_word : (word : ℕ) → word < 2 ^ 64 → IsDecimalWord word → (m : Bool) → m ≡ nat_eq (word / 2 ^ 63) 1 → (ds : List ℕ) → HasDigitsIn (count_in word) (number_in word) ds
    → IsDecimalText (sign_text m ++ (take (count_in word - places_in word) ds ++ (46 ∷ drop (count_in word - places_in word) ds))) word
text_of_word word fits w m e ds h =
    let k : ℕ = count_in word - places_in word in
    let joined : take k ds ++ drop k ds ≡ ds = take-append-drop k ds in
    let split = split_digits (take k ds) (drop k ds) (subst (AllDigits 10) (sym joined) h.digits) in
    let after : length (drop k ds) ≡ places_in word = length-drop k ds ∙ omega (arith, h.long, w.places) in
    let d : DecimalParts = record { negative = m; before = take k ds; after = drop k ds } in
    record {
      parts = d;
      decimal = record { before = split.0; after = (omega arith, split.1); most = omega (arith, ap length joined, h.long) };
      prints = refl;
      packs = word_is word fits w.zero_bit m e ∙ sym (λ i. (if m then 2 ^ 63 else 0) + 2 ^ 8 * (ap (digits_value 10) joined ∙ h.value) i + 16 * ((ap length joined ∙ h.long) i - 1) + (after i - 1));
    }

pub has_text : (word : ℕ) → word < 2 ^ 64 → IsDecimalWord word → HasText word
has_text word fits w = (_, text_of_word word fits w (nat_eq (word / 2 ^ 63) 1) refl (digits_in (count_in word) (number_in word)) (has_digits_in _ _ (omega arith) (omega arith) w.digits))

-- the digits, written at the end of 16 zeros
pub padded_by : (n at : ℕ) (bytes : List ℕ) → at + length (decimal n) ≡ 16 → drop at bytes ≡ decimal n ++ drop 16 (replicate 16 48) → take at bytes ≡ take at (replicate 16 48) → bytes ≡ padded n
padded_by n at bytes e back front =
    let zeros : at ≡ 16 - length (decimal n) = omega arith in
    let start : take at bytes ≡ replicate at 48 = front ∙ take-replicate at 16 48 (omega arith) in
    let end : drop at bytes ≡ decimal n = back ∙ append-nil (decimal n) in
    sym (take-append-drop at bytes) ∙ (λ i. start i ++ end i) ∙ ap (λ k. replicate k 48 ++ decimal n) zeros

-- the text that the fields of a word print
abbrev pub text_of_fields : Fields → List ℕ
text_of_fields f = let ds = digits_in f.count f.number in sign_text f.negative ++ (take (f.count - f.places) ds ++ (46 ∷ drop (f.count - f.places) ds))

pub fields_print : (word : ℕ) → word < 2 ^ 64 → IsDecimalWord word → (f : Fields) → AreFields word f → IsDecimalText (text_of_fields f) word
fields_print word fits w f a =
    let ds : List ℕ = digits_in (count_in word) (number_in word) in
    let P : ℕ → ℕ → ℕ → Type 0 = λ count number places. IsDecimalText (sign_text f.negative ++ (take (count - places) (digits_in count number) ++ (46 ∷ drop (count - places) (digits_in count number)))) word in
    let at : P (count_in word) (number_in word) (places_in word) = text_of_word word fits w f.negative a.negative ds (has_digits_in _ _ (omega arith) (omega arith) w.digits) in
    subst (λ count. P count f.number f.places) (sym a.count) (subst (λ number. P (count_in word) number f.places) (sym a.number) (subst (λ places. P (count_in word) (number_in word) places) (sym a.places) at))

-- the table has the powers of ten
are_tens : ℕ → Bool
are_tens zero = true
are_tens (suc k) = eqb (get_or TENS k 0) (10 ^ k) && are_tens k

ten_below : (n k : ℕ) → T (are_tens n) → k < n → get_or TENS k 0 ≡ 10 ^ k
unfolding are_tens
ten_below zero k t h = absurd (omega arith)
ten_below (suc n) k t h = elim (eq-zero-or-pos (n - k)) [
  | inl z ↦ let e : n ≡ k = omega arith in subst (λ m. get_or TENS m 0 ≡ 10 ^ m) e (eqb→eq _ _ (and_l _ (are_tens n) t))
  | inr g ↦ ten_below n k (and_r _ (are_tens n) t) (omega arith)
]

pub ten_at : (k : ℕ) → k ≤ 16 → get_or TENS k 0 ≡ 10 ^ k
unfolding are_tens
ten_at k h = ten_below 17 k tt (omega arith)

-- the number of a word has 16 digits at most
pub number_small : (word : ℕ) → IsDecimalWord word → number_in word < 10 ^ 16
number_small word w = omega (arith, w.digits, pow-le-pow_right {n = 10} (omega arith) {i = count_in word} {j = 16} (omega arith))

-- a sign, digits, the point and digits, put one after another
pub pieces : (s before after x y z w : List ℕ) → x ≡ s → y ≡ x ++ before → z ≡ y ++ (46 ∷ []) → w ≡ z ++ after → w ≡ s ++ (before ++ (46 ∷ after))
pieces s before after x y z w a b c d =
    d ∙ ap (λ t. t ++ after) (c ∙ ap (λ t. t ++ (46 ∷ [])) (b ∙ ap (λ t. t ++ before) a))
    ∙ append_assoc (s ++ before) (46 ∷ []) after
    ∙ append_assoc s before (46 ∷ after)
