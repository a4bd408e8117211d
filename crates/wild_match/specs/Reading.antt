-- What the text of a pattern spells.
use Rattle.std.specs.Prelude.{◌≡◌, ◌≢◌, ℕ, List, [], ◌∷◌, ◌++◌, ◌⊎◌, length}
use Rattle.wild_match.specs.declared.pattern.Item.{Item}
use Rattle.wild_match.specs.declared.pattern.Item.TheVariants.{Byte, One, Many}

-- a byte that stands for itself: no `*`, `?` or `\`
abbrev pub IsPlain : ℕ → Type 0
IsPlain b = (b ≢ 42) × (b ≢ 63) × (b ≢ 92)

-- the text spells an item and then has the rest: `*` spells Many, `?` One, a `\` the byte behind it, and a plain byte itself
abbrev pub SpellsFirst : List ℕ → Item → List ℕ → Type 0
SpellsFirst text Many rest = text ≡ 42 ∷ rest
SpellsFirst text One rest = text ≡ 63 ∷ rest
SpellsFirst text (Byte b) rest = (text ≡ 92 ∷ b ∷ rest) ⊎ ((text ≡ b ∷ rest) × IsPlain b)

-- the text spells the items, one after the other, and nothing else
abbrev pub Spells : List ℕ → List Item → Type 0
Spells text [] = text ≡ []
Spells text (item ∷ items) = (rest : List ℕ) × SpellsFirst text item rest × Spells rest items

-- the text is searched for anywhere in a message: its pattern is Many, the items that it spells, and Many
abbrev pub IsSearchPattern : List ℕ → List Item → Type 0
IsSearchPattern text pattern = (items : List Item) × Spells text items × (pattern ≡ Many ∷ items ++ Many ∷ [])

-- a `\` that escapes nothing ends the text, at this place: what stands before it spells some items
abbrev pub IsLoneBackslash : List ℕ → ℕ → Type 0
IsLoneBackslash text at =
    (front : List ℕ) × (items : List Item)
    × Spells front items
    × (text ≡ front ++ 92 ∷ []) × (at ≡ length front)
