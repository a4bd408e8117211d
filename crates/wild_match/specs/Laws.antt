-- What holds of the definitions.
use Rattle.std.specs.Prelude.{◌≡◌, ℕ, List, ◌⊎◌}
use Rattle.wild_match.specs.declared.pattern.Item.{Item}
use Rattle.wild_match.specs.Reading.{Spells, IsLoneBackslash}

-- a text spells one list of items at most
abbrev pub OneSpelling : Type 0
OneSpelling = (text : List ℕ) (a b : List Item) → Spells text a → Spells text b → a ≡ b

-- a text has a lone backslash at one place at most
abbrev pub OneLoneBackslash : Type 0
OneLoneBackslash = (text : List ℕ) (i j : ℕ) → IsLoneBackslash text i → IsLoneBackslash text j → i ≡ j

-- each text spells some items or has a lone backslash
abbrev pub SpelledOrLone : Type 0
SpelledOrLone = (text : List ℕ) → ((items : List Item) × Spells text items) ⊎ ((at : ℕ) × IsLoneBackslash text at)

-- no text does both
abbrev pub NeverBoth : Type 0
NeverBoth = (text : List ℕ) (items : List Item) (at : ℕ) → Spells text items → ¬ IsLoneBackslash text at
