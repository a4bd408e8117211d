-- An output that only took more.
use Rattle.std.specs.Prelude.{◌≤◌, ℕ, Bool, true, false, List, [], length, take, drop, Option, None, Some}
use Rattle.std.specs.Str.{bytes_eq}
use Rattle.sink_pieces.specs.Output.{Grew}

-- what it took stands behind what it had, if it tells it
abbrev pub has_more : Option (List ℕ) → Option (List ℕ) → Bool
has_more None None = true
has_more (Some had) (Some has) = bytes_eq had (take (length had) has)
has_more _ _ = false

-- and is this
abbrev pub text_behind : Option (List ℕ) → Option (List ℕ) → List ℕ
text_behind (Some had) (Some has) = drop (length had) has
text_behind _ _ = []

-- it took this, and its count of faults did not fall
pub record TookMore (texts : Option (List ℕ) × Option (List ℕ)) (counts : ℕ × ℕ) : Type 0 where
  pub grew : Grew texts.0 texts.1 (text_behind texts.0 texts.1)
  pub later : counts.0 ≤ counts.1
