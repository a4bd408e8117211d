-- What the loops of the matcher over letters keep.
use Rattle.std.specs.Prelude.{◌↔◌, ℕ, ◌+◌, ◌<◌, List, [], ◌∷◌, length}
use Rattle.wild_match.specs.Matches.{Match}
use Rattle.wild_match.specs.declared.pattern.Item.{Item}
use Rattle.wild_match.specs.declared.pattern.Item.TheVariants.{Byte, One, Many}

-- Items at the front of a pattern, none of them Many, match as many bytes at the front of a text: what
-- is left of both.
pub data Front : List Item → List ℕ → List Item → List ℕ → Type 0 where
  here : {p : List Item} {s : List ℕ} → Front p s p s
  byte : {b : ℕ} {p q : List Item} {s u : List ℕ} → Front p s q u → Front (Byte b ∷ p) (b ∷ s) q u
  any : {b : ℕ} {p q : List Item} {s u : List ℕ} → Front p s q u → Front (One ∷ p) (b ∷ s) q u

-- the pattern is at its end or at a Many
abbrev pub Stops : List Item → Type 0
Stops [] = Unit {0}
Stops (Byte b ∷ q) = ⊥
Stops (One ∷ q) = ⊥
Stops (Many ∷ q) = Unit {0}

-- behind a Many: what is left decides as much, and less of the pattern and the text is left
pub record GoesOn (p : List Item) (s : List ℕ) (q : List Item) (u : List ℕ) : Type 0 where
  pub decides : Match (Many ∷ p) s ↔ Match (Many ∷ q) u
  pub shorter : length q + length u < length p + length s
