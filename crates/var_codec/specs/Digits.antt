-- What a text without its sign reads as.
use Rattle.std.specs.Prelude.{◌≡◌, ℕ, ◌≢◌, ◌<◌, Bool, true, false, List, ◌∷◌, ◌++◌, length}
use Rattle.std.specs.Prelude.{slice_index, Option, None, Some, ℤ, pos, ◌+ℤ◌, ◌-ℤ◌}
use Rattle.std.specs.Str.Parse.{AllDigits, digits_value}

-- digits, one point among them, and the number of the digits without the point
pub record HasPoint (bytes : List ℕ) (number point : ℕ) : Type 0 where
  pub before : List ℕ
  pub after : List ℕ
  pub joined : bytes ≡ before ++ (46 ∷ after)
  pub digits_before : AllDigits 10 before
  pub digits_after : AllDigits 10 after
  pub value : number ≡ digits_value 10 (before ++ after)
  pub place : point ≡ length before

-- nothing but digits, and their number
pub record HasDigits (bytes : List ℕ) (number : ℕ) : Type 0 where
  pub digits : AllDigits 10 bytes
  pub value : number ≡ digits_value 10 bytes

-- the bytes are digits with at most one point, which stands at this place, and this is their number
abbrev pub Reads : List ℕ → ℕ → Option ℕ → Type 0
Reads bytes number None = HasDigits bytes number
Reads bytes number (Some point) = HasPoint bytes number point

-- they are no such text
abbrev pub IsOther : List ℕ → Type 0
IsOther bytes = (number : ℕ) (point : Option ℕ) → ¬ Reads bytes number point

-- a text with its sign taken off: where there was none, it does not begin with `-`
abbrev pub IsUnsigned : Bool → List ℕ → Type 0
IsUnsigned negative digits = negative ≡ false → slice_index digits 0 ≢ 45

-- there are digits, and a 0 stands in front only where it is alone and has no sign
abbrev pub IsPlain : Bool → List ℕ → Type 0
IsPlain negative digits = (0 < length digits) × (slice_index digits 0 ≡ 48 → (negative ≡ false) × (length digits ≡ 1))

-- the number with its sign
abbrev pub signed : Bool → ℕ → ℤ
signed true number = pos 0 -ℤ pos number
signed false number = pos 0 +ℤ pos number
