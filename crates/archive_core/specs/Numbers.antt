-- The slots of a text and their words, one by one.
use Rattle.std.specs.Prelude.{◌≡◌, ◌≤◌, ◌^◌, ℕ, Option, None, Some, List, ◌∷◌, ◌++◌}
use Rattle.logtype_text.specs.declared.symbols.Kind.{Kind}
use Rattle.row_codec.specs.Numbers.{word_numbers}

-- the kinds, behind this one if there is one
abbrev pub with_kind : Option Kind → List Kind → List Kind
with_kind None kinds = kinds
with_kind (Some kind) kinds = kind ∷ kinds

-- a slot of this kind took its word, and what it numbers went to the end of the numbers
abbrev pub TakesWord : Kind → List ℕ → List ℕ → List ℕ → List ℕ → Type 0
TakesWord kind words left old new =
    (more : List ℕ) × (new ≡ old ++ more)
    × ((kinds : List Kind) → word_numbers (kind ∷ kinds) words ≡ more ++ word_numbers kinds left)

-- the word of a slot of this kind is a number of more than 32 bits
abbrev pub IsWide : Kind → List ℕ → Type 0
IsWide kind words =
    (kinds : List Kind) → (number : ℕ) × (rest : List ℕ) × (word_numbers (kind ∷ kinds) words ≡ number ∷ rest) × (2 ^ 32 ≤ number)
