-- What a search finds out of the words of an archive, before it tests its rows.
use Rattle.std.specs.Prelude.{◌≡◌, ℕ, Bool, true, List, [], Option, Some, None, MatchOption, slice_get, slice_index_or}
use Rattle.std.specs.List.{Contains}
use Rattle.wild_match.specs.Runs.{Occurs}
use Rattle.plain_list.specs.Texts.{IsNew}

-- the number of each word in which the needle stands is among these, and maybe others are
abbrev pub HaveNumbers : List ℕ → List (List ℕ) → List ℕ → Type 0
HaveNumbers needle words numbers = (n : ℕ) (text : List ℕ) → slice_get words n ≡ Some text → Occurs text needle
    → Contains numbers n

-- so it is of each needle and the list at its place
abbrev pub HaveAll : List (List ℕ) → List (List ℕ) → List (List ℕ) → Type 0
HaveAll needles words lists =
    (j : ℕ) (needle : List ℕ) → slice_get needles j ≡ Some needle → HaveNumbers needle words (slice_index_or lists j [])

-- the number is one of the word with this text, and there is none exactly where no word has this text
abbrev pub IsNumber : List (List ℕ) → List ℕ → Option ℕ → Type 0
IsNumber words text found = MatchOption found (IsNew words text) (λ n. slice_get words n ≡ Some text)

-- so it is of each text that is a variable, and the number at its place
abbrev pub AreNumbers : List (List ℕ) → List (List ℕ) → List Bool → List (Option ℕ) → Type 0
AreNumbers words texts variables found =
    (k : ℕ) (text : List ℕ) → slice_get texts k ≡ Some text → slice_get variables k ≡ Some true
    → IsNumber words text (slice_index_or found k None)
