-- The sign, the digits and the point of a text.
use Rattle.std.proofs.Common.{◌≡◌, ◌≢◌, ℕ, ◌^◌, ◌≤◌, Bool, true, false, List, [], ◌∷◌, ◌++◌, get_or, ℤ, pos, negsuc, nat_abs, refl, sym, ap, ◌∙◌, arith, FitsSigned, w64}
use Rattle.std.specs.Fmt.{decimal, signed_decimal, sign_text}
use Rattle.std.specs.Str.Parse.{AllDigits, digits_value}
use Rattle.std.proofs.lemmas.Fmt.{decimal_is_IsNumeral}
use Rattle.std.proofs.lemmas.Str.Parse.{digit_from_value, IsNumeralModel, numerals_by_value, tells_digits}
use Rattle.var_codec.specs.Codes.{DecimalParts, IsDecimal, IsDecimalText, IsWholeText, text_of}

-- the digits of std are those of the definitions
pub own : IsNumeralModel (AllDigits 10) (digits_value 10)
own = numerals_by_value (AllDigits 10) tells_digits

pub sign_split : (m n : Bool) (s t : List ℕ) → (m ≡ false → get_or s 0 0 ≢ 45) → get_or t 0 0 ≢ 45 → sign_text m ++ s ≡ sign_text n ++ t → (m ≡ n) × (s ≡ t)
sign_split true true s t a b e = (refl, cc)
sign_split true false s t a b e = absurd (b (sym (ap (λ l. get_or l 0 0) e)))
sign_split false true s t a b e = absurd (a refl (ap (λ l. get_or l 0 0) e))
sign_split false false s t a b e = (refl, e)

-- digits do not begin with `-`
pub head_digits : (s : List ℕ) → AllDigits 10 s → get_or s 0 0 ≢ 45
head_digits [] d e = omega arith
head_digits (c ∷ cs) d e = omega (arith, digit_from_value c d.0)

pub head_point : (before after : List ℕ) → AllDigits 10 before → get_or (before ++ (46 ∷ after)) 0 0 ≢ 45
head_point [] after d e = omega arith
head_point (c ∷ cs) after d e = omega (arith, digit_from_value c d.0)

-- the one point splits the text in one way
pub split_point : (a b x y : List ℕ) → AllDigits 10 a → AllDigits 10 x → a ++ (46 ∷ b) ≡ x ++ (46 ∷ y) → (a ≡ x) × (b ≡ y)
split_point [] b [] y p q e = (refl, cc)
split_point [] b (c ∷ x) y p q e = let h : 46 ≡ c = cc in absurd (omega (arith, digit_from_value c q.0))
split_point (c ∷ a) b [] y p q e = let h : c ≡ 46 = cc in absurd (omega (arith, digit_from_value c p.0))
split_point (c ∷ a) b (d ∷ x) y p q e =
    let h : c ≡ d = cc in
    let t : a ++ (46 ∷ b) ≡ x ++ (46 ∷ y) = cc in
    let r = split_point a b x y p.1 q.1 t in
    (cc, r.1)

-- digits have no point
pub no_point : (a b s : List ℕ) → AllDigits 10 s → s ≢ a ++ (46 ∷ b)
no_point [] b [] d e = cc
no_point [] b (c ∷ s) d e = let h : c ≡ 46 = cc in omega (arith, digit_from_value c d.0)
no_point (x ∷ a) b [] d e = cc
no_point (x ∷ a) b (c ∷ s) d e = let t : s ≡ a ++ (46 ∷ b) = cc in no_point a b s d.1 t

-- a whole number has a sign
abbrev pub is_below_zero : ℤ → Bool
is_below_zero (pos n) = false
is_below_zero (negsuc n) = true

-- a whole number's print is its sign and its digits
pub signed_is : (z : ℤ) → signed_decimal z ≡ sign_text (is_below_zero z) ++ decimal (nat_abs z)
signed_is (pos n) = refl
signed_is (negsuc n) = refl

pub size_le : (z : ℤ) → FitsSigned w64 z → nat_abs z ≤ 2 ^ 63
size_le (pos n) h = omega (arith, h.sfits)
size_le (negsuc n) h = omega (arith, h.sfits)

pub all_digits : (n : ℕ) → n ≤ 2 ^ 63 → AllDigits 10 (decimal n)
all_digits n h = (decimal_is_IsNumeral n (omega arith)).0.1

-- what a whole number's text is without its sign
pub whole_parts : (m : Bool) (s : List ℕ) (z : ℤ) → (m ≡ false → get_or s 0 0 ≢ 45) → IsWholeText (sign_text m ++ s) z → (m ≡ is_below_zero z) × (s ≡ decimal (nat_abs z))
whole_parts m s z u w = sign_split m (is_below_zero z) s (decimal (nat_abs z)) u (head_digits _ (all_digits (nat_abs z) (size_le z w.fits))) (w.prints ∙ signed_is z)

-- and what a decimal's is
pub decimal_parts : (m : Bool) (s : List ℕ) (word : ℕ) → (m ≡ false → get_or s 0 0 ≢ 45) → (w : IsDecimalText (sign_text m ++ s) word) → (m ≡ w.parts.negative) × (s ≡ w.parts.before ++ (46 ∷ w.parts.after))
decimal_parts m s word u w = sign_split m w.parts.negative s _ u (head_point w.parts.before w.parts.after w.decimal.before) w.prints

-- no text is both
pub whole_not_decimal : (text : List ℕ) (z : ℤ) (word : ℕ) → IsWholeText text z → IsDecimalText text word → ⊥
whole_not_decimal text z word a b =
    let d = b.parts in
    let e = sign_split (is_below_zero z) d.negative (decimal (nat_abs z)) (d.before ++ (46 ∷ d.after)) (λ _. head_digits _ (all_digits (nat_abs z) (size_le z a.fits))) (head_point d.before d.after b.decimal.before) (sym (a.prints ∙ signed_is z) ∙ b.prints) in
    no_point d.before d.after (decimal (nat_abs z)) (all_digits (nat_abs z) (size_le z a.fits)) e.1

-- a decimal's text has one set of parts
pub same_parts : (d e : DecimalParts) → IsDecimal d → IsDecimal e → text_of d ≡ text_of e → d ≡ e
same_parts d e p q h =
    let s = sign_split d.negative e.negative _ _ (λ _. head_point d.before d.after p.before) (head_point e.before e.after q.before) h in
    let r = split_point d.before d.after e.before e.after p.before q.before s.1 in
    λ i. record { negative = s.0 i; before = r.0 i; after = r.1 i }
