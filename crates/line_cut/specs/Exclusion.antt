-- Which answers of a cutter exclude each other.
use Rattle.std.specs.Prelude.{◌≡◌, ◌≢◌, ◌≤◌, ℕ, Bool, false, List, [], ◌++◌, length, Option, Some}
use Rattle.line_cut.specs.Cutting.{Parts}
use Rattle.line_cut.specs.Length.{BeginsTooLong}

-- where the next line is too long no line within the limit is given
abbrev pub LongLineIsNotGiven : Type 0
LongLineIsNotGiven =
    (ended : Bool) (line before : List ℕ) (after : Option (List ℕ)) (max : ℕ)
    → length line ≤ max → Parts ended line (Some before) after → BeginsTooLong max before → ⊥

-- a line that is too long in the bytes taken is too long in all that is left
abbrev pub LongLineStaysLong : Type 0
LongLineStaysLong = (max : ℕ) (bytes rest : List ℕ) → BeginsTooLong max bytes → BeginsTooLong max (bytes ++ rest)

-- where nothing is left no line is given
abbrev pub NothingIsNotGiven : Type 0
NothingIsNotGiven =
    (ended : Bool) (line : List ℕ) (after : Option (List ℕ))
    → (ended ≡ false → line ≢ []) → Parts ended line (Some []) after → ⊥
