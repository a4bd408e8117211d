-- Two bytes that stand beside each other in a text.
use Rattle.std.specs.Prelude.{◌≡◌, ◌⊎◌, ℕ, ◌+◌, false, List, [], ◌∷◌, ◌++◌, Some, slice_get}
use Rattle.std.specs.Int.{IsInRange}
use Rattle.logtype_text.specs.TypeText.{is_escaped}
use Rattle.stamp_templates.specs.Laws.{StandsInNone}
use Rattle.wild_match.specs.declared.pattern.Item.{Item}
use Rattle.wild_match.specs.declared.pattern.Item.TheVariants.{Byte}

-- the text begins with y
abbrev pub Begins : ℕ → List ℕ → Type 0
Begins y [] = ⊥
Begins y (b ∷ text) = b ≡ y

-- somewhere in the text x stands, and y behind it
abbrev pub HasPair : ℕ → ℕ → List ℕ → Type 0
HasPair x y [] = ⊥
HasPair x y (b ∷ text) = ((b ≡ x) × Begins y text) ⊎ HasPair x y text

-- A word that stands between other bytes can supply the pair: it has the pair, or begins with y, or ends with x, or it is empty.
-- So it has the pair once x stands before it and y behind it.
abbrev pub Supplies : ℕ → ℕ → List ℕ → Type 0
Supplies x y word = HasPair x y (x ∷ (word ++ y ∷ []))

-- the pattern has the two bytes, as they are, beside each other
abbrev pub StandsIn : ℕ → ℕ → List Item → Type 0
StandsIn x y pattern =
    (at : ℕ) × (slice_get pattern at ≡ Some (Byte x)) × (slice_get pattern (at + 1) ≡ Some (Byte y))

-- a byte of the text of a number: a digit, `-` or `.`
abbrev pub IsOfNumber : ℕ → Type 0
IsOfNumber b = IsInRange 48 57 b ⊎ ((b ≡ 45) ⊎ (b ≡ 46))

-- The pair tells a pattern's messages by their log types and words alone: the pattern has it, none of its bytes is one of a
-- number, the first stands in no stamp, and the second stands as it is in the text of a log type.
pub record IsPairOf (pattern : List Item) (x y : ℕ) : Type 0 where
  pub stands : StandsIn x y pattern
  pub first : ¬ IsOfNumber x
  pub second : ¬ IsOfNumber y
  pub stamp : (k : ℕ) → StandsInNone k (x ∷ [])
  pub plain : is_escaped y ≡ false
