-- What the definitions say of each other.
use Rattle.std.specs.Prelude.{◌≡◌, ℕ, List, ℤ}
use Rattle.var_codec.specs.declared.Coded.{Coded}
use Rattle.var_codec.specs.declared.Coded.TheVariants.{Whole, Decimal}
use Rattle.var_codec.specs.Codes.{Codes}

-- a text has one word
abbrev pub OneWord : Type 0
OneWord = (text : List ℕ) (a b : Coded) → Codes text a → Codes text b → a ≡ b

-- a number has one text, and so has the word of a decimal
abbrev pub OneWholeText : Type 0
OneWholeText = (s t : List ℕ) (n : ℤ) → Codes s (Whole n) → Codes t (Whole n) → s ≡ t

abbrev pub OneDecimalText : Type 0
OneDecimalText = (s t : List ℕ) (word : ℕ) → Codes s (Decimal word) → Codes t (Decimal word) → s ≡ t
