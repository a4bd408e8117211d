-- Texts that may stand in those of numbers.
use Rattle.std.specs.Prelude.{◌&&◌, ◌==◌, ℕ, Bool, true, false, List, [], ◌∷◌, if◌then◌else◌}
use Rattle.std.specs.Int.{is_in_range}

-- behind a `-` or none
abbrev pub unsigned : List ℕ → List ℕ
unsigned [] = []
unsigned (b ∷ t) = if b == 45 then t else b ∷ t

-- digits alone, and one point where it is allowed
abbrev pub is_digits : Bool → List ℕ → Bool
is_digits point [] = true
is_digits point (b ∷ t) = if is_in_range 48 57 b then is_digits point t else (point && (b == 46)) && is_digits false t

-- a text that may stand in that of a number
abbrev pub is_number_part : Bool → List ℕ → Bool
is_number_part point t = is_digits point (unsigned t)

-- digits alone, the first of which is no zero
abbrev pub is_plain : List ℕ → Bool
is_plain [] = false
is_plain (b ∷ t) = is_in_range 49 57 b && is_digits false t
