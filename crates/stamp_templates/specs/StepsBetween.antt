-- What the loop over two texts keeps.
use Rattle.std.specs.Prelude.{◌≡◌, ℕ, ◌<◌, List, slice_index}

-- the bytes of two texts before a place are the same
abbrev pub AreSame : List ℕ → List ℕ → ℕ → Type 0
AreSame one other place = (i : ℕ) → i < place → slice_index one i ≡ slice_index other i
