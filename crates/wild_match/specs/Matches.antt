-- Which bytes a pattern matches.
use Rattle.std.specs.Prelude.{◌≡◌, ℕ, ◌≤◌, List, [], ◌∷◌, ◌++◌, ◌⊎◌, length, drop}
use Rattle.wild_match.specs.declared.pattern.Item.{Item}
use Rattle.wild_match.specs.declared.pattern.Item.TheVariants.{Byte, One, Many}

-- P holds of the bytes, or of what is left of them after some are dropped from the front
abbrev pub OfSomeRest : (List ℕ → Type 0) → List ℕ → Type 0
OfSomeRest P [] = P []
OfSomeRest P (b ∷ bytes) = P (b ∷ bytes) ⊎ OfSomeRest P bytes

-- the pattern matches the bytes, all of them: nothing matches nothing; a byte matches itself at the front and the rest matches;
-- One drops one byte; Many is dropped, or drops one byte and stays
abbrev pub Match : List Item → List ℕ → Type 0
Match [] bytes = bytes ≡ []
Match (Byte c ∷ items) [] = ⊥
Match (Byte c ∷ items) (b ∷ bytes) = (b ≡ c) × Match items bytes
Match (One ∷ items) [] = ⊥
Match (One ∷ items) (b ∷ bytes) = Match items bytes
Match (Many ∷ items) bytes = OfSomeRest (λ rest. Match items rest) bytes

-- no item is Many
abbrev pub IsFixed : List Item → Type 0
IsFixed [] = Unit {0}
IsFixed (Byte c ∷ items) = IsFixed items
IsFixed (One ∷ items) = IsFixed items
IsFixed (Many ∷ items) = ⊥

-- no item is Many, and the bytes begin with as many that the items match
abbrev pub Fits : List Item → List ℕ → Type 0
Fits [] bytes = Unit {0}
Fits (Byte c ∷ items) [] = ⊥
Fits (Byte c ∷ items) (b ∷ bytes) = (b ≡ c) × Fits items bytes
Fits (One ∷ items) [] = ⊥
Fits (One ∷ items) (b ∷ bytes) = Fits items bytes
Fits (Many ∷ items) bytes = ⊥

-- the items fit the bytes from a place on
abbrev pub FitsAt : List Item → List ℕ → ℕ → Type 0
FitsAt items bytes k = (k ≤ length bytes) × Fits items (drop k bytes)

-- pieces with Many behind each, and then the tail
abbrev pub joined : List (List Item) → List Item → List Item
joined [] tail = tail
joined (piece ∷ pieces) tail = piece ++ Many ∷ joined pieces tail
