-- Lists of texts, as a dictionary has them: each text at its number.
use Rattle.std.specs.Prelude.{◌≡◌, ◌≢◌, ℕ, List, slice_get, Some}

-- no text has two numbers
abbrev pub AreDistinct : List (List ℕ) → Type 0
AreDistinct texts =
    (i j : ℕ) (text : List ℕ) → slice_get texts i ≡ Some text → slice_get texts j ≡ Some text → i ≡ j

-- the text has no number
abbrev pub IsNew : List (List ℕ) → List ℕ → Type 0
IsNew texts text = (i : ℕ) → slice_get texts i ≢ Some text
