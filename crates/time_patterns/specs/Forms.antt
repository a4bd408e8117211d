-- The twenty-six forms of time stamps.
use Rattle.std.specs.Prelude.{◌≡◌, ℕ, ◌-◌, ◌/◌, ◌%◌, ◌≤◌, List, [], ◌∷◌, ◌++◌, slice_get, Option, Some, None, ℤ, pos, ◌*ℤ◌, ◌≤ℤ◌}
use Rattle.time_patterns.specs.declared.field.Field.{Field}
use Rattle.time_patterns.specs.declared.form.Form.{Form}
use Rattle.time_patterns.specs.declared.shape.Shape.{Shape}
use Rattle.time_patterns.specs.declared.shape.Shape.TheVariants.{Dashed, Lettered, Bracketed, Slashed, Short}
use Rattle.time_patterns.specs.declared.civil_time.CivilTime.{CivilTime}
use Rattle.time_patterns.specs.CivilTime.{micros_of, numbers_of}
use Rattle.time_patterns.specs.Digits.{byte_text, field_text, fields_text}

-- a number of two digits after a byte
abbrev pub after : ℕ → Field
after byte = record { before = Some byte; digits = 2 }

-- a year of four digits at the front of the text, or after a byte
abbrev pub year : Option ℕ → Field
year before = record { before = before; digits = 4 }

-- a year, the month and the day after the byte `between`, and `HH:MM:SS` after the byte `middle`
abbrev pub day_and_time : Field → ℕ → ℕ → List Field
day_and_time year between middle =
    year ∷ after between ∷ after between ∷ after middle ∷ after 58 ∷ after 58 ∷ []

-- The fields of each shape: `-` is 45, the space 32, `T` 84, `[` 91 and `/` 47.
abbrev pub fields_of : Shape → List Field
fields_of Dashed = day_and_time (year None) 45 32  -- YYYY-MM-DD HH:MM:SS
fields_of Lettered = day_and_time (year None) 45 84  -- YYYY-MM-DDTHH:MM:SS
fields_of Bracketed = day_and_time (year (Some 91)) 45 32  -- [YYYY-MM-DD HH:MM:SS
fields_of Slashed = day_and_time (year None) 47 32  -- YYYY/MM/DD HH:MM:SS
fields_of Short = day_and_time (record { before = None; digits = 2 }) 47 32  -- YY/MM/DD HH:MM:SS

-- two digits stand for a year from 2000 to 2099
abbrev pub first_year : Shape → ℕ
first_year Dashed = 0
first_year Lettered = 0
first_year Bracketed = 0
first_year Slashed = 0
first_year Short = 2000

abbrev pub last_year : Shape → ℕ
last_year Dashed = 9999
last_year Lettered = 9999
last_year Bracketed = 9999
last_year Slashed = 9999
last_year Short = 2099

-- the fraction of the second, where a form has one
abbrev pub fraction_text : Option Field → ℕ → List ℕ
fraction_text None n = []
fraction_text (Some f) n = field_text f n

-- what stands behind the seconds: the fraction in the form's units, and the byte that ends the text
abbrev pub tail_text : Form → ℕ → List ℕ
tail_text form n = fraction_text form.fraction n ++ byte_text form.close

-- the text of a form at a time
abbrev pub text_of : Form → CivilTime → List ℕ
text_of form t =
    fields_text (fields_of form.shape) (numbers_of (first_year form.shape) t)
    ++ tail_text form (t.microsecond / form.unit)

-- the time is one of the form's: in its years, and a whole number of its units
pub record IsTimeOf (form : Form) (t : CivilTime) : Type 0 where
  pub from_year : pos (first_year form.shape) ≤ℤ t.date.year
  pub to_year : t.date.year ≤ℤ pos (last_year form.shape)
  pub unit : t.microsecond % form.unit ≡ 0

-- The text is that of the form for the moment, which counts ticks since 1970-01-01T00:00:00.
abbrev pub PrintsForm : Form → ℤ → List ℕ → Type 0
PrintsForm form moment text =
    (t : CivilTime) × (micros_of t ≡ moment *ℤ pos form.tick) × IsTimeOf form t × (text ≡ text_of form t)

-- Forms whose moments count ticks of so many microseconds: with microseconds or milliseconds after a byte, or to the
-- second. The unit is in microseconds too.
abbrev pub to_microsecond : ℕ → Shape → ℕ → Option ℕ → Form
to_microsecond tick shape point close = record {
  shape = shape;
  fraction = Some (record { before = Some point; digits = 6 });
  close = close;
  unit = 1;
  tick = tick;
}

abbrev pub to_millisecond : ℕ → Shape → ℕ → Option ℕ → Form
to_millisecond tick shape point close = record {
  shape = shape;
  fraction = Some (record { before = Some point; digits = 3 });
  close = close;
  unit = 1000;
  tick = tick;
}

abbrev pub to_second : ℕ → Shape → Option ℕ → Form
to_second tick shape close = record {
  shape = shape;
  fraction = None;
  close = close;
  unit = 1_000_000;
  tick = tick;
}

-- Ten forms, in order. `,` is 44, `.` 46, `Z` 90 and `]` 93.
abbrev pub ten_forms : ℕ → List Form
ten_forms tick =
    to_millisecond tick Dashed 44 None  -- YYYY-MM-DD HH:MM:SS,mmm
    ∷ to_millisecond tick Dashed 46 None  -- YYYY-MM-DD HH:MM:SS.mmm
    ∷ to_millisecond tick Lettered 46 (Some 90)  -- YYYY-MM-DDTHH:MM:SS.mmmZ
    ∷ to_millisecond tick Lettered 46 None  -- YYYY-MM-DDTHH:MM:SS.mmm
    ∷ to_millisecond tick Bracketed 44 (Some 93)  -- [YYYY-MM-DD HH:MM:SS,mmm]
    ∷ to_second tick Lettered (Some 90)  -- YYYY-MM-DDTHH:MM:SSZ
    ∷ to_second tick Lettered None  -- YYYY-MM-DDTHH:MM:SS
    ∷ to_second tick Dashed None  -- YYYY-MM-DD HH:MM:SS
    ∷ to_second tick Slashed None  -- YYYY/MM/DD HH:MM:SS
    ∷ to_second tick Short None  -- YY/MM/DD HH:MM:SS
    ∷ []

-- six more
abbrev pub six_forms : List Form
six_forms =
    to_microsecond 1 Dashed 44 None  -- YYYY-MM-DD HH:MM:SS,uuuuuu
    ∷ to_microsecond 1 Dashed 46 None  -- YYYY-MM-DD HH:MM:SS.uuuuuu
    ∷ to_microsecond 1 Lettered 46 (Some 90)  -- YYYY-MM-DDTHH:MM:SS.uuuuuuZ
    ∷ to_microsecond 1 Lettered 46 None  -- YYYY-MM-DDTHH:MM:SS.uuuuuu
    ∷ to_microsecond 1 Bracketed 44 (Some 93)  -- [YYYY-MM-DD HH:MM:SS,uuuuuu]
    ∷ to_microsecond 1 Slashed 46 None  -- YYYY/MM/DD HH:MM:SS.uuuuuu
    ∷ []

-- Patterns 1 to 10 count milliseconds, and 11 to 26 microseconds.
abbrev pub forms : List Form
forms = ten_forms 1000 ++ six_forms ++ ten_forms 1

-- the patterns are numbered from 1
abbrev pub IsForm : ℕ → Form → Type 0
IsForm k form = (1 ≤ k) × (slice_get forms (k - 1) ≡ Some form)
