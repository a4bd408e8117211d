-- The numbers of a shape: those of its times fit its fields, and how its texts begin.
use Rattle.std.proofs.Common.{◌≡◌, ℕ, ◌+◌, ◌-◌, ◌%◌, ◌^◌, ◌<◌, ◌≤◌, List, [], ◌∷◌, ◌++◌, length, get_or, drop, Option, Some, ℤ, pos, negsuc, ◌≤ℤ◌, unsigned_abs, refl, arith, lit≤}
use Rattle.std.specs.Prelude.{slice_index}
use Rattle.std.proofs.lemmas.List.{length-append}
use Rattle.jiff_core.proofs.CalendarLemmas.{days_in_month_bounds}
use Rattle.jiff_core.proofs.SignedLemmas.{signed_arith}
use Rattle.time_patterns.specs.declared.field.Field.{Field}
use Rattle.time_patterns.specs.declared.shape.Shape.{Shape}
use Rattle.time_patterns.specs.declared.shape.Shape.TheVariants.{Dashed, Lettered, Bracketed, Slashed, Short}
use Rattle.time_patterns.specs.declared.civil_time.CivilTime.{CivilTime}
use Rattle.time_patterns.specs.CivilTime.{numbers_of}
use Rattle.time_patterns.specs.Digits.{digits, byte_text, field_text, fields_text, AreWithin}
use Rattle.time_patterns.specs.Forms.{fields_of, first_year, last_year}
use Rattle.time_patterns.specs.Steps.{counts_of}
use Rattle.time_patterns.proofs.FieldLemmas.{length-field_text}

years_within : (y : ℤ) (first last count : ℕ) → first + count ≡ last + 1 → pos first ≤ℤ y → y ≤ℤ pos last → unsigned_abs y - first < count
years_within (pos n) first last count e low high = omega (arith, signed_arith)
years_within (negsuc n) first last count e low high = absurd (omega (arith, signed_arith))

within_numbers : (n first : ℕ) (t : CivilTime) → unsigned_abs t.date.year - first < 10 ^ n → AreWithin (n ∷ 2 ∷ 2 ∷ 2 ∷ 2 ∷ 2 ∷ []) (numbers_of first t)
unfolding AreWithin
within_numbers n first t years =
    let month = t.date.month_in in
    let day = t.date.day_in in
    let long = days_in_month_bounds t.date.year t.date.month in
    (years, (omega arith, (omega arith, (omega (arith, t.hour_in), (omega (arith, t.minute_in), (omega (arith, t.second_in), tt))))))

-- the numbers of a time in the shape's years fit its fields
pub within_shape : (s : Shape) (t : CivilTime) → pos (first_year s) ≤ℤ t.date.year → t.date.year ≤ℤ pos (last_year s) → AreWithin (counts_of (fields_of s)) (numbers_of (first_year s) t)
within_shape Dashed t low high = within_numbers 4 0 t (years_within t.date.year 0 9999 10000 refl low high)
within_shape Lettered t low high = within_numbers 4 0 t (years_within t.date.year 0 9999 10000 refl low high)
within_shape Bracketed t low high = within_numbers 4 0 t (years_within t.date.year 0 9999 10000 refl low high)
within_shape Slashed t low high = within_numbers 4 0 t (years_within t.date.year 0 9999 10000 refl low high)
within_shape Short t low high = within_numbers 2 2000 t (years_within t.date.year 2000 2099 100 refl low high)

last_of : (n first last : ℕ) (t : CivilTime) → first + 10 ^ n ≡ last + 1 → pos first ≤ℤ t.date.year → AreWithin (n ∷ 2 ∷ 2 ∷ 2 ∷ 2 ∷ 2 ∷ []) (numbers_of first t) → t.date.year ≤ℤ pos last
unfolding AreWithin
last_of n first last t e low h =
    let years : unsigned_abs t.date.year - first < 10 ^ n = h.0 in
    omega (arith, signed_arith)

-- a time whose numbers fit the fields is in the shape's years
pub in_years : (s : Shape) (t : CivilTime) → pos (first_year s) ≤ℤ t.date.year → AreWithin (counts_of (fields_of s)) (numbers_of (first_year s) t) → t.date.year ≤ℤ pos (last_year s)
in_years Dashed t low h = last_of 4 0 9999 t refl low h
in_years Lettered t low h = last_of 4 0 9999 t refl low h
in_years Bracketed t low h = last_of 4 0 9999 t refl low h
in_years Slashed t low h = last_of 4 0 9999 t refl low h
in_years Short t low h = last_of 2 2000 2099 t refl low h

-- how many bytes fields have
abbrev pub fields_len : List Field → ℕ
fields_len [] = 0
fields_len (f ∷ fs) = length (byte_text f.before) + f.digits + fields_len fs

length-fields_len : (fs : List Field) (xs : List ℕ) → length (fields_text fs xs) ≡ fields_len fs
unfolding fields_text
length-fields_len [] xs = refl
length-fields_len (f ∷ fs) xs =
    omega (arith, length-append (field_text f (slice_index xs 0)) (fields_text fs (drop 1 xs)), length-field_text f (slice_index xs 0), length-fields_len fs (drop 1 xs))

-- the bytes of a shape
abbrev pub shape_len : Shape → ℕ
shape_len Dashed = 19
shape_len Lettered = 19
shape_len Bracketed = 20
shape_len Slashed = 19
shape_len Short = 17

pub length-shape : (s : Shape) (xs : List ℕ) → length (fields_text (fields_of s) xs) ≡ shape_len s
length-shape Dashed xs = length-fields_len (fields_of Dashed) xs
length-shape Lettered xs = length-fields_len (fields_of Lettered) xs
length-shape Bracketed xs = length-fields_len (fields_of Bracketed) xs
length-shape Slashed xs = length-fields_len (fields_of Slashed) xs
length-shape Short xs = length-fields_len (fields_of Short) xs

pub shape_len-bounds : (s : Shape) → (17 ≤ shape_len s) × (shape_len s ≤ 20)
shape_len-bounds Dashed = (lit≤ tt, lit≤ tt)
shape_len-bounds Lettered = (lit≤ tt, lit≤ tt)
shape_len-bounds Bracketed = (lit≤ tt, lit≤ tt)
shape_len-bounds Slashed = (lit≤ tt, lit≤ tt)
shape_len-bounds Short = (lit≤ tt, lit≤ tt)

-- the bytes that tell the shape
abbrev IsDigit : ℕ → Type 0
IsDigit b = (48 ≤ b) × (b ≤ 57)

pub record HasFirst (line : List ℕ) : Type 0 where
  pub long : 17 ≤ length line
  pub first : IsDigit (get_or line 0 0)

abbrev pub FrontIs : Shape → List ℕ → Type 0
FrontIs Dashed line = HasFirst line × IsDigit (get_or line 2 0) × (get_or line 4 0 ≡ 45) × (get_or line 10 0 ≡ 32)
FrontIs Lettered line = HasFirst line × IsDigit (get_or line 2 0) × (get_or line 4 0 ≡ 45) × (get_or line 10 0 ≡ 84)
FrontIs Bracketed line = (17 ≤ length line) × (get_or line 0 0 ≡ 91)
FrontIs Slashed line = HasFirst line × IsDigit (get_or line 2 0) × (get_or line 4 0 ≡ 47)
FrontIs Short line = HasFirst line × (get_or line 2 0 ≡ 47)

digit : (x : ℕ) → IsDigit (48 + x % 10)
digit x = (omega arith, omega arith)

long : (s : Shape) (xs rest : List ℕ) → 17 ≤ length (fields_text (fields_of s) xs ++ rest)
long s xs rest = omega (arith, length-append (fields_text (fields_of s) xs) rest, length-shape s xs, shape_len-bounds s)

pub front_is : (s : Shape) (xs rest : List ℕ) → FrontIs s (fields_text (fields_of s) xs ++ rest)
unfolding fields_text digits
front_is Dashed xs rest = (record { long = long Dashed xs rest; first = digit _ }, digit _, refl, refl)
front_is Lettered xs rest = (record { long = long Lettered xs rest; first = digit _ }, digit _, refl, refl)
front_is Bracketed xs rest = (long Bracketed xs rest, refl)
front_is Slashed xs rest = (record { long = long Slashed xs rest; first = digit _ }, digit _, refl)
front_is Short xs rest = (record { long = long Short xs rest; first = digit _ }, refl)

-- what is so of a line for each shape that its bytes allow is so for the shape that it begins with
pub by_front : (line : List ℕ) (o : Option Shape)
    → (FrontIs Dashed line → o ≡ Some Dashed) → (FrontIs Lettered line → o ≡ Some Lettered) → (FrontIs Bracketed line → o ≡ Some Bracketed)
    → (FrontIs Slashed line → o ≡ Some Slashed) → (FrontIs Short line → o ≡ Some Short)
    → (s : Shape) (xs rest : List ℕ) → line ≡ fields_text (fields_of s) xs ++ rest → o ≡ Some s
by_front line o a b c d e Dashed xs rest is = a (rw is (front_is Dashed xs rest))
by_front line o a b c d e Lettered xs rest is = b (rw is (front_is Lettered xs rest))
by_front line o a b c d e Bracketed xs rest is = c (rw is (front_is Bracketed xs rest))
by_front line o a b c d e Slashed xs rest is = d (rw is (front_is Slashed xs rest))
by_front line o a b c d e Short xs rest is = e (rw is (front_is Short xs rest))
