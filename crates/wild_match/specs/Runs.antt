-- Runs of literal bytes in a pattern.
use Rattle.std.specs.Prelude.{◌≡◌, ℕ, ◌≤◌, ◌<◌, List, [], ◌∷◌, length, map, take, drop, slice_index_or}
use Rattle.memchr.specs.Find.{OccursAt}
use Rattle.wild_match.specs.declared.pattern.Item.{Item}
use Rattle.wild_match.specs.declared.pattern.Item.TheVariants.{Byte, One, Many}

-- the literal bytes stand among the items, from place k on
abbrev pub RunAt : List Item → List ℕ → ℕ → Type 0
RunAt items run k = take (length run) (drop k items) ≡ map (λ b. Byte b) run

-- the literal bytes stand somewhere among the items, one after the other
abbrev pub IsLiteralRun : List Item → List ℕ → Type 0
IsLiteralRun items run = (k : ℕ) × RunAt items run k

-- no run of literal bytes is longer
abbrev pub IsLongestRun : List Item → List ℕ → Type 0
IsLongestRun items run = (other : List ℕ) → IsLiteralRun items other → length other ≤ length run

-- the needle stands somewhere among the bytes
abbrev pub Occurs : List ℕ → List ℕ → Type 0
Occurs bytes needle = (k : ℕ) × OccursAt bytes needle k

-- a pattern that is made ready, with the literal bytes that are looked for first
pub record Prepared : Type 0 where
  pub items : List Item
  pub needle : List ℕ

-- a literal byte
abbrev pub IsLiteral : Item → Type 0
IsLiteral (Byte c) = Unit {0}
IsLiteral One = ⊥
IsLiteral Many = ⊥

-- the items from place i up to j are literal bytes
abbrev pub AreLiteral : List Item → ℕ → ℕ → Type 0
AreLiteral items i j = (k : ℕ) → i ≤ k → k < j → IsLiteral (slice_index_or items k One)

-- the literal bytes among the items, in order
abbrev pub literal_bytes : List Item → List ℕ
literal_bytes [] = []
literal_bytes (Byte c ∷ items) = c ∷ literal_bytes items
literal_bytes (One ∷ items) = literal_bytes items
literal_bytes (Many ∷ items) = literal_bytes items
