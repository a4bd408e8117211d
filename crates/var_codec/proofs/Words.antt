-- The word of a decimal: what its fields are, and that they determine the text.
use Rattle.std.proofs.Common.{◌≡◌, ℕ, ◌+◌, ◌-◌, ◌*◌, ◌/◌, ◌%◌, ◌^◌, ◌<◌, Bool, true, false, List, [], ◌∷◌, ◌++◌, length, take, drop, if◌then◌else◌, refl, sym, ap, ap₂, ◌∙◌, subst, arith, length-append, pow-suc}
use Rattle.std.proofs.lemmas.Nat.{div-mul-add}
use Rattle.std.proofs.lemmas.Str.Parse.{digits_value_short}
use Rattle.var_codec.proofs.Texts.{own}
use Rattle.std.specs.Str.Parse.{AllDigits, digits_value, digits_value_after}
use Rattle.std.specs.Char.{digit_value}
use Rattle.std.proofs.lemmas.Str.Parse.{digit_from_value}
use Rattle.std.proofs.lemmas.Str.{digit_value_digit}
use Rattle.std.proofs.lemmas.Int.Digits.{digits_value-lt}
use Rattle.std.proofs.lemmas.List.{take_at, drop_at}
use Rattle.var_codec.specs.Codes.{DecimalParts, IsDecimal, IsDecimalText, text_of, word_of, digits_of}

-- digits before digits are digits
pub digits-append : (a b : List ℕ) → AllDigits 10 a → AllDigits 10 b → AllDigits 10 (a ++ b)
digits-append [] b p q = q
digits-append (c ∷ a) b p q = (p.0, digits-append a b p.1 q)

-- digits after those of n count on
after_is : (n : ℕ) (ds : List ℕ) → digits_value_after 10 n ds ≡ n * 10 ^ length ds + digits_value 10 ds
after_is n [] = omega arith
after_is n (c ∷ cs) =
    let a = after_is (n * 10 + digit_value c) cs in
    let b = after_is (0 * 10 + digit_value c) cs in
    omega (arith, ap (λ x. n * x) (pow-suc 10 (length cs)))

-- the front of a number with the digits of n at its end
same_lead : (p x y a b : ℕ) → a < p → b < p → x * p + a ≡ y * p + b → x ≡ y
same_lead p x y a b l m e = sym (div-mul-add x p a l) ∙ ap (λ z. z / p) e ∙ div-mul-add y p b m

-- digits of one length that write one number are the same
pub same_digits : (s t : List ℕ) → AllDigits 10 s → AllDigits 10 t → length s ≡ length t → digits_value 10 s ≡ digits_value 10 t → s ≡ t
same_digits [] [] p q l v = refl
same_digits [] (d ∷ t) p q l v = absurd (omega arith)
same_digits (c ∷ s) [] p q l v = absurd (omega arith)
same_digits (c ∷ s) (d ∷ t) p q l v =
    let long : length s ≡ length t = omega arith in
    let p10 : ℕ = 10 ^ length s in
    let a : digits_value 10 (c ∷ s) ≡ digit_value c * p10 + digits_value 10 s = omega (arith, after_is (0 * 10 + digit_value c) s) in
    let b : digits_value 10 (d ∷ t) ≡ digit_value d * p10 + digits_value 10 t = omega (arith, after_is (0 * 10 + digit_value d) t ∙ ap (λ n. (0 * 10 + digit_value d) * 10 ^ n + digits_value 10 t) (sym long)) in
    let y : digits_value 10 t < p10 = subst (λ n. digits_value 10 t < 10 ^ n) (sym long) (digits_value-lt 10 t q.1) in
    let lead : digit_value c ≡ digit_value d = same_lead p10 _ _ _ _ (digits_value-lt 10 s p.1) y (sym a ∙ v ∙ b) in
    let rest : digits_value 10 s ≡ digits_value 10 t = omega (arith, sym a ∙ v ∙ b, ap (λ n. n * p10) lead) in
    let first : c ≡ d = omega (arith, digit_value_digit c (digit_from_value c p.0), digit_value_digit d (digit_from_value d q.0)) in
    ap₂ ◌∷◌ first (same_digits s t p.1 q.1 long rest)

-- the number of the digits is below ten to their count
pub value_small : (d : DecimalParts) → IsDecimal d → digits_value 10 (digits_of d) < 10 ^ length (digits_of d)
value_small d h = digits_value-lt 10 (digits_of d) (digits-append d.before d.after h.before h.after.1)

pub value_fits : (d : DecimalParts) → IsDecimal d → digits_value 10 (digits_of d) < 2 ^ 54
value_fits d h = omega (arith, digits_value_short own (digits_of d) 16 (digits-append d.before d.after h.before h.after.1) h.most)

-- the bit of a sign
abbrev pub sign_bit : Bool → ℕ
sign_bit m = if m then 1 else 0

-- the fields of a decimal's word
pub record HasFields (d : DecimalParts) (word : ℕ) : Type 0 where
  pub sign : word / 2 ^ 63 ≡ sign_bit d.negative
  pub zero_bit : word / 2 ^ 62 % 2 ≡ 0
  pub value : word / 2 ^ 8 % 2 ^ 54 ≡ digits_value 10 (digits_of d)
  pub count : word / 2 ^ 4 % 2 ^ 4 + 1 ≡ length (digits_of d)
  pub places : word % 2 ^ 4 + 1 ≡ length d.after
  pub fits : word < 2 ^ 64

fields : (b : Bool) (v n a : ℕ) → v < 2 ^ 54 → n < 16 → a < 16 → (word : ℕ) → word ≡ (if b then 2 ^ 63 else 0) + 2 ^ 8 * v + 16 * n + a
    → (word / 2 ^ 63 ≡ sign_bit b) × (word / 2 ^ 62 % 2 ≡ 0) × (word / 2 ^ 8 % 2 ^ 54 ≡ v) × (word / 2 ^ 4 % 2 ^ 4 ≡ n) × (word % 2 ^ 4 ≡ a) × (word < 2 ^ 64)
fields true v n a p q r word e = (omega arith, omega arith, omega arith, omega arith, omega arith, omega arith)
fields false v n a p q r word e = (omega arith, omega arith, omega arith, omega arith, omega arith, omega arith)

pub has_fields : (d : DecimalParts) (word : ℕ) → IsDecimal d → word ≡ word_of d → HasFields d word
has_fields d word h e =
    let l = length-append d.before d.after in
    let f = fields d.negative (digits_value 10 (digits_of d)) (length (digits_of d) - 1) (length d.after - 1) (value_fits d h) (omega (arith, h.most)) (omega (arith, h.most)) word e in
    record { sign = f.0; zero_bit = f.1; value = f.2; count = omega (arith, f.3, h.after.0); places = omega (arith, f.4, h.after.0); fits = f.5 }

same_sign : (m n : Bool) → sign_bit m ≡ sign_bit n → m ≡ n
same_sign true true e = refl
same_sign true false e = absurd (omega arith)
same_sign false true e = absurd (omega arith)
same_sign false false e = refl

-- a decimal's word has one set of parts
pub same_word : (d e : DecimalParts) → IsDecimal d → IsDecimal e → word_of d ≡ word_of e → d ≡ e
same_word d e p q h =
    let f = has_fields d (word_of d) p refl in
    let g = has_fields e (word_of d) q h in
    let sign = same_sign d.negative e.negative (sym f.sign ∙ g.sign) in
    let whole : digits_of d ≡ digits_of e = same_digits (digits_of d) (digits_of e) (digits-append d.before d.after p.before p.after.1) (digits-append e.before e.after q.before q.after.1) (sym f.count ∙ g.count) (sym f.value ∙ g.value) in
    let k = length-append d.before d.after in
    let l = length-append e.before e.after in
    let place : length d.before ≡ length e.before = omega (arith, f.count, g.count, f.places, g.places) in
    let before : d.before ≡ e.before = sym (take_at d.before d.after (length d.before) refl) ∙ ap (take (length d.before)) whole ∙ take_at e.before e.after (length d.before) (sym place) in
    let after : d.after ≡ e.after = sym (drop_at d.before d.after (length d.before) refl) ∙ ap (drop (length d.before)) whole ∙ drop_at e.before e.after (length d.before) (sym place) in
    λ i. record { negative = sign i; before = before i; after = after i }

-- a word has one text
pub same_text : (s t : List ℕ) (word : ℕ) → IsDecimalText s word → IsDecimalText t word → s ≡ t
same_text s t word a b = a.prints ∙ ap text_of (same_word a.parts b.parts a.decimal b.decimal (sym a.packs ∙ b.packs)) ∙ sym b.prints
