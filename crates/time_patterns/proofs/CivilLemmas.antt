-- A moment is that of one time.
use Rattle.std.proofs.Common.{◌≡◌, ℕ, ◌+◌, ◌*◌, ◌<◌, ℤ, pos, ◌+ℤ◌, ◌*ℤ◌, refl, arith, FitsSigned, w64}
use Rattle.jiff_core.specs.declared.civil.date.Date.{Date}
use Rattle.jiff_core.specs.Date.{epoch_day}
use Rattle.jiff_core.proofs.DateLemmas.{epoch_day_injective, epoch_day_range, epoch_day_same}
use Rattle.jiff_core.proofs.SignedLemmas.{fits_between, signed_arith}
use Rattle.time_patterns.specs.declared.civil_time.CivilTime.{CivilTime}
use Rattle.time_patterns.specs.declared.form.Form.{Form}
use Rattle.time_patterns.specs.CivilTime.{clock_of, micros_of, numbers_of}
use Rattle.time_patterns.specs.Forms.{IsTimeOf}
use Rattle.time_patterns.specs.StepsDay.{start_of}

-- a day's clock
pub clock_small : (t : CivilTime) → clock_of t < 86_400_000_000
clock_small t = omega (arith, t.hour_in, t.minute_in, t.second_in, t.microsecond_in)

-- days and the microseconds of a day tell both
day_and_clock : (d e : ℤ) (m n : ℕ) → m < 86_400_000_000 → n < 86_400_000_000 → d *ℤ pos 86_400_000_000 +ℤ pos m ≡ e *ℤ pos 86_400_000_000 +ℤ pos n → (d ≡ e) × (m ≡ n)
day_and_clock d e m n h k same =
    let days : d ≡ e = omega (arith, signed_arith) in
    (days, omega (arith, signed_arith))

-- the parts of two times
pub record AreSame (a b : CivilTime) : Type 0 where
  pub year : a.date.year ≡ b.date.year
  pub month : a.date.month ≡ b.date.month
  pub day : a.date.day ≡ b.date.day
  pub hour : a.hour ≡ b.hour
  pub minute : a.minute ≡ b.minute
  pub second : a.second ≡ b.second
  pub microsecond : a.microsecond ≡ b.microsecond

-- times of one moment have the same parts
pub micros_of-injective : (a b : CivilTime) → micros_of a ≡ micros_of b → AreSame a b
micros_of-injective a b same =
    let both = day_and_clock (epoch_day a.date) (epoch_day b.date) (clock_of a) (clock_of b) (clock_small a) (clock_small b) same in
    let date = epoch_day_injective a.date b.date both.0 in
    let clock : clock_of a ≡ clock_of b = both.1 in
    let us : a.microsecond ≡ b.microsecond = omega (arith, a.microsecond_in, b.microsecond_in) in
    let seconds : (a.hour * 60 + a.minute) * 60 + a.second ≡ (b.hour * 60 + b.minute) * 60 + b.second = omega arith in
    let second : a.second ≡ b.second = omega (arith, a.second_in, b.second_in) in
    let minutes : a.hour * 60 + a.minute ≡ b.hour * 60 + b.minute = omega arith in
    let minute : a.minute ≡ b.minute = omega (arith, a.minute_in, b.minute_in) in
    record { year = date.0; month = date.1; day = date.2; hour = omega arith; minute = minute; second = second; microsecond = us }

-- times with the same parts have one moment
pub micros_of_same : (a b : CivilTime) → AreSame a b → micros_of a ≡ micros_of b
micros_of_same a b s =
    let day : epoch_day a.date ≡ epoch_day b.date = epoch_day_same a.date b.date s.year s.month s.day in
    rw (day, s.hour, s.minute, s.second, s.microsecond) refl

-- they are written with the same numbers
pub numbers_of_same : (first : ℕ) (a b : CivilTime) → AreSame a b → numbers_of first a ≡ numbers_of first b
numbers_of_same first a b s = rw (s.year, s.month, s.day, s.hour, s.minute, s.second) refl

-- and are times of the same forms
pub IsTimeOf_same : (form : Form) (a b : CivilTime) → AreSame a b → IsTimeOf form b → IsTimeOf form a
IsTimeOf_same form a b s h = record { from_year = rw s.year h.from_year; to_year = rw s.year h.to_year; unit = rw s.microsecond h.unit }

-- the microseconds of a time fit a word
pub micros_fit : (t : CivilTime) → FitsSigned w64 (micros_of t)
micros_fit t =
    let range = epoch_day_range t.date in
    let clock = clock_small t in
    fits_between w64 (micros_of t) (omega (arith, signed_arith), omega (arith, signed_arith))

-- the microseconds at which a day begins and ends fit a word
pub start_fits : (d : Date) → FitsSigned w64 (start_of d)
start_fits d =
    let range = epoch_day_range d in
    fits_between w64 (start_of d) (omega (arith, signed_arith), omega (arith, signed_arith))

pub end_fits : (d : Date) → FitsSigned w64 (start_of d +ℤ pos 86_399_999_999)
end_fits d =
    let range = epoch_day_range d in
    fits_between w64 (start_of d +ℤ pos 86_399_999_999) (omega (arith, signed_arith), omega (arith, signed_arith))
