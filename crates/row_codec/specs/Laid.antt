-- Log types that are kept cut, beside those of an archive.
use Rattle.std.specs.Prelude.{◌≡◌, ℕ, List, Some, slice_get}

-- a text that is kept cut is that of the log type with its number
abbrev pub AreCut : List (List ℕ) → List (List ℕ) → Type 0
AreCut cut types = (number : ℕ) (text : List ℕ) → slice_get cut number ≡ Some text → slice_get types number ≡ Some text
