-- The template of a stamp's pattern: which bytes its texts may have at which place.
use Rattle.std.specs.Prelude.{◌≡◌, ℕ, zero, suc, ◌+◌, ◌<◌, ◌≤◌, ◌==◌, Bool, IsTrue, if◌then◌else◌}
use Rattle.std.specs.Prelude.{List, [], ◌++◌, length, slice_get, slice_index, Option, Some, None}
use Rattle.std.specs.Int.{is_in_range}
use Rattle.std.specs.List.{Contains}
use Rattle.time_patterns.specs.declared.form.Form.{Form}
use Rattle.time_patterns.specs.Digits.{fields_text}
use Rattle.time_patterns.specs.Forms.{fields_of, forms, tail_text}

-- what a form prints where all its numbers are 0: a zero for each digit
abbrev pub zeros_of : Form → List ℕ
zeros_of form = fields_text (fields_of form.shape) [] ++ tail_text form 0

abbrev pub zeros_of_some : Option Form → List ℕ
zeros_of_some None = []
zeros_of_some (Some form) = zeros_of form

-- the template of a pattern, by its number, which is from 1 on; none of a number that is no pattern's
abbrev pub template_of : ℕ → List ℕ
template_of zero = []
template_of (suc k) = zeros_of_some (slice_get forms k)

-- a zero of a template allows each digit, and any other byte allows itself
abbrev pub allows : ℕ → ℕ → Bool
allows slot b = if slot == 48 then is_in_range 48 57 b else slot == b

-- the template allows the bytes of the text from this place on
abbrev pub FitsAt : List ℕ → List ℕ → ℕ → Type 0
FitsAt template text at =
    (at + length text ≤ length template)
    × ((i : ℕ) → i < length text → IsTrue (allows (slice_index template (at + i)) (slice_index text i)))

-- the template allows the bytes of the text, and has as many
abbrev pub Fits : List ℕ → List ℕ → Type 0
Fits template text =
    (length text ≡ length template)
    × ((i : ℕ) → i < length text → IsTrue (allows (slice_index template i) (slice_index text i)))

-- each place of the template from which on it allows the text is among these
abbrev pub ArePlaces : List ℕ → List ℕ → List ℕ → Type 0
ArePlaces template text places = (at : ℕ) → FitsAt template text at → Contains places at

-- the template's last bytes allow the text
abbrev pub FitsEnd : List ℕ → List ℕ → Type 0
FitsEnd template text = (at : ℕ) × (at + length text ≡ length template) × FitsAt template text at
