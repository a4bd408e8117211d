-- Which text has which word.
use Rattle.std.specs.Prelude.{◌≡◌, ℕ, ◌+◌, ◌-◌, ◌*◌, ◌/◌, ◌%◌, ◌^◌, ◌<◌, ◌≤◌, Bool}
use Rattle.std.specs.Prelude.{if◌then◌else◌, List, ◌∷◌, ◌++◌, length, ℤ, FitsSigned}
use Rattle.std.specs.Fmt.{signed_decimal, sign_text}
use Rattle.std.specs.Str.Parse.{AllDigits, IsNumeral, digits_value}
use mir.Syntax.{w64}
use Rattle.var_codec.specs.declared.Coded.{Coded}
use Rattle.var_codec.specs.declared.Coded.TheVariants.{Whole, Decimal, Word}

-- a decimal as it is written: a sign or none, the digits before the point, and those after it
pub record DecimalParts : Type 0 where
  pub negative : Bool
  pub before : List ℕ
  pub after : List ℕ

-- all the digits, without the point
abbrev pub digits_of : DecimalParts → List ℕ
digits_of d = d.before ++ d.after

-- 1 to 16 decimal digits in all, of which one or more stand after the point
pub record IsDecimal (d : DecimalParts) : Type 0 where
  pub before : AllDigits 10 d.before
  pub after : IsNumeral 10 d.after
  pub most : length (digits_of d) ≤ 16

-- the sign, the digits before the point, the point, the digits after it
abbrev pub text_of : DecimalParts → List ℕ
text_of d = sign_text d.negative ++ (d.before ++ (46 ∷ d.after))

-- from the top: 1 bit for the sign, 1 bit that is zero, 54 bits for the digits read as one
-- number, 4 bits for the count of digits less 1, 4 bits for the digits after the point less 1
abbrev pub word_of : DecimalParts → ℕ
word_of d =
    (if d.negative then 2 ^ 63 else 0)
    + 2 ^ 8 * digits_value 10 (digits_of d)
    + 16 * (length (digits_of d) - 1)
    + (length d.after - 1)

-- the text is the plain print of the number, which has 64 signed bits
pub record IsWholeText (text : List ℕ) (n : ℤ) : Type 0 where
  pub fits : FitsSigned w64 n
  pub prints : text ≡ signed_decimal n

-- the text is a decimal with this word
pub record IsDecimalText (text : List ℕ) (word : ℕ) : Type 0 where
  pub parts : DecimalParts
  pub decimal : IsDecimal parts
  pub prints : text ≡ text_of parts
  pub packs : word ≡ word_of parts

-- the text has this word
abbrev pub Codes : List ℕ → Coded → Type 0
Codes text (Whole n) = IsWholeText text n
Codes text (Decimal word) = IsDecimalText text word
Codes text Word = ((n : ℤ) → ¬ IsWholeText text n) × ((word : ℕ) → ¬ IsDecimalText text word)

-- some text has the word as a decimal
abbrev pub HasText : ℕ → Type 0
HasText word = (text : List ℕ) × Codes text (Decimal word)

-- what a word of 64 bits has to be for that: bit 62 is zero, the number of the digits
-- is below 10 to their count, and no more digits stand after the point than there are
pub record IsDecimalWord (word : ℕ) : Type 0 where
  pub zero_bit : word / 2 ^ 62 % 2 ≡ 0
  pub digits : word / 2 ^ 8 % 2 ^ 54 < 10 ^ (word / 2 ^ 4 % 2 ^ 4 + 1)
  pub places : word % 2 ^ 4 + 1 ≤ word / 2 ^ 4 % 2 ^ 4 + 1
