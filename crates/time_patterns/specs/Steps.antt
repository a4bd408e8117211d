-- What is known on the way to a stamp.
use Rattle.std.specs.Prelude.{◌≡◌, ◌≢◌, ℕ, ◌/◌, ◌%◌, ◌^◌, ◌<◌, ◌≤◌, ◌⊎◌, List, ◌++◌}
use Rattle.std.specs.Prelude.{length, map, slice_index, Option, Some, None, ℤ, pos, ◌≤ℤ◌}
use Rattle.time_patterns.specs.declared.field.Field.{Field}
use Rattle.time_patterns.specs.declared.form.Form.{Form}
use Rattle.time_patterns.specs.declared.shape.Shape.{Shape}
use Rattle.time_patterns.specs.declared.civil_time.CivilTime.{CivilTime}
use Rattle.time_patterns.specs.CivilTime.{numbers_of}
use Rattle.time_patterns.specs.Digits.{digits, field_text, fields_text, AreWithin}
use Rattle.time_patterns.specs.Forms.{fields_of, fraction_text, IsForm, tail_text}
use Rattle.time_patterns.specs.Stamps.{EndsStamp, Fits}

-- the counts of digits of fields
abbrev pub counts_of : List Field → List ℕ
counts_of fields = map (λ (f : Field). f.digits) fields

-- the digits of a fraction
abbrev pub digits_of : Option Field → ℕ
digits_of None = 0
digits_of (Some f) = f.digits

-- the text is the field with a number that has no more than its digits, and the rest
abbrev pub IsField : Field → List ℕ → ℕ → List ℕ → Type 0
IsField field text x rest = (text ≡ field_text field x ++ rest) × (x < 10 ^ field.digits)

abbrev pub LacksField : Field → List ℕ → Type 0
LacksField field text = (x : ℕ) (rest : List ℕ) → text ≢ field_text field x ++ rest

-- as a fraction has: none, three or six
abbrev pub IsFewDigits : ℕ → Type 0
IsFewDigits n = (n ≡ 0) ⊎ ((n ≡ 3) ⊎ (n ≡ 6))

-- the whole text is the number
abbrev pub IsNumber : List ℕ → ℕ → Type 0
IsNumber text x = (text ≡ digits (length text) x) × (x < 10 ^ length text)

-- the text is the fraction, if there is to be one, and the rest
abbrev pub IsFraction : Option Field → List ℕ → ℕ → List ℕ → Type 0
IsFraction fraction text x rest = (text ≡ fraction_text fraction x ++ rest) × (x < 10 ^ digits_of fraction)

abbrev pub LacksFraction : Option Field → List ℕ → Type 0
LacksFraction fraction text = (x : ℕ) (rest : List ℕ) → text ≢ fraction_text fraction x ++ rest

-- the text is six fields with these numbers, and the rest
abbrev pub AreFields : List Field → List ℕ → List ℕ → List ℕ → Type 0
AreFields fields text numbers rest =
    (text ≡ fields_text fields numbers ++ rest) × AreWithin (counts_of fields) numbers × (length numbers ≡ 6)

abbrev pub LacksFields : List Field → List ℕ → Type 0
LacksFields fields text = (numbers rest : List ℕ) → text ≢ fields_text fields numbers ++ rest

-- no other shape's fields stand at the front of the line
abbrev pub IsOnlyShape : List ℕ → Option Shape → Type 0
IsOnlyShape line shape =
    (s : Shape) (numbers rest : List ℕ) → line ≡ fields_text (fields_of s) numbers ++ rest → shape ≡ Some s

-- the time is written with these numbers, the years from the first one on; no time is
abbrev pub HasNumbers : ℕ → List ℕ → CivilTime → Type 0
HasNumbers first numbers c = (pos first ≤ℤ c.date.year) × (numbers_of first c ≡ numbers)

abbrev pub NoneHasNumbers : ℕ → List ℕ → Type 0
NoneHasNumbers first numbers = (c : CivilTime) → pos first ≤ℤ c.date.year → numbers_of first c ≢ numbers

-- as long as a stamp at least, and with `[` or a digit at the front
abbrev pub MayBegin : List ℕ → Type 0
MayBegin line =
    (17 ≤ length line) × ((slice_index line 0 ≡ 91) ⊎ ((48 ≤ slice_index line 0) × (slice_index line 0 ≤ 57)))

-- The fraction has the digits that the unit asks for, and the unit is a whole number of ticks.
abbrev pub HasUnit : ℕ → ℕ → Type 0
HasUnit digits unit =
    ((digits ≡ 0) × (unit ≡ 1_000_000)) ⊎ (((digits ≡ 3) × (unit ≡ 1000)) ⊎ ((digits ≡ 6) × (unit ≡ 1)))

abbrev pub HasTick : ℕ → ℕ → Type 0
HasTick tick unit = (tick ≡ 1) ⊎ ((tick ≡ 1000) × (unit % 1000 ≡ 0))

pub record IsSound (form : Form) : Type 0 where
  pub unit : HasUnit (digits_of form.fraction) form.unit
  pub tick : HasTick form.tick form.unit

-- the text is a tail of the form, with so many microseconds, and the rest, which ends a stamp
pub record IsTail (form : Form) (text : List ℕ) (microsecond : ℕ) (rest : List ℕ) : Type 0 where
  pub is : text ≡ tail_text form (microsecond / form.unit) ++ rest
  pub whole : microsecond % form.unit ≡ 0
  pub small : microsecond < 1_000_000
  pub ends : EndsStamp rest

abbrev pub LacksTail : Form → List ℕ → Type 0
LacksTail form text = (x : ℕ) (rest : List ℕ) → text ≡ tail_text form x ++ rest → ¬ EndsStamp rest

-- no pattern from the first to before the end has that shape and a tail there
abbrev pub LackTails : Shape → ℕ → ℕ → List ℕ → Type 0
LackTails shape first end text =
    (k : ℕ) (form : Form) → first ≤ k → k < end → IsForm k form → form.shape ≡ shape → LacksTail form text

-- pattern k is the first that does
pub record IsFirstTail (shape : Shape) (first end : ℕ) (text : List ℕ) (k tick microsecond : ℕ) (rest : List ℕ) : Type 0 where
  pub form : Form
  pub is : IsForm k form
  pub same : form.shape ≡ shape
  pub tick_is : tick ≡ form.tick
  pub from : first ≤ k
  pub to : k < end
  pub tail : IsTail form text microsecond rest
  pub least : LackTails shape first k text

-- no pattern from the first to before the end fits the line
abbrev pub NoneFits : ℕ → ℕ → List ℕ → Type 0
NoneFits first end line = (k : ℕ) (moment : ℤ) (n : ℕ) → first ≤ k → k < end → ¬ Fits line k moment n

-- pattern k is the first that does
pub record IsFirstFit (first end : ℕ) (line : List ℕ) (k : ℕ) (moment : ℤ) (n : ℕ) : Type 0 where
  pub from : first ≤ k
  pub to : k < end
  pub fits : Fits line k moment n
  pub least : NoneFits first k line
