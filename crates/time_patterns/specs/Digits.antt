-- Numbers with all their digits, and fields of a text that are made of them.
use Rattle.std.specs.Prelude.{ℕ, zero, suc, ◌+◌, ◌/◌, ◌%◌, ◌^◌, ◌<◌, ◌≡◌, List, []}
use Rattle.std.specs.Prelude.{◌∷◌, ◌++◌, drop, slice_index, Option, Some, None}
use Rattle.time_patterns.specs.declared.field.Field.{Field}

-- the last n decimal digits of a number, as bytes: zeros in front where it has fewer
unfoldable pub digits : ℕ → ℕ → List ℕ
digits zero x = []
digits (suc n) x = digits n (x / 10) ++ (48 + x % 10) ∷ []

-- a byte, if there is one
abbrev pub byte_text : Option ℕ → List ℕ
byte_text None = []
byte_text (Some b) = b ∷ []

-- a field: the byte before it, and the number with all its digits
abbrev pub field_text : Field → ℕ → List ℕ
field_text f x = byte_text f.before ++ digits f.digits x

-- fields one after the other, each with its number
unfoldable pub fields_text : List Field → List ℕ → List ℕ
fields_text [] xs = []
fields_text (f ∷ fs) xs = field_text f (slice_index xs 0) ++ fields_text fs (drop 1 xs)

-- each number has no more than its count of digits, and the numbers past the counts are 0
unfoldable pub AreWithin : List ℕ → List ℕ → Type 0
AreWithin [] [] = Unit {0}
AreWithin [] (x ∷ xs) = (x ≡ 0) × AreWithin [] xs
AreWithin (n ∷ ns) xs = (slice_index xs 0 < 10 ^ n) × AreWithin ns (drop 1 xs)
