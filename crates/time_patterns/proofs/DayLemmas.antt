-- Days of the calendar by their numbers: each number from 0000-01-01 to 9999-12-31 has a date, and it tells the years.
use Rattle.std.proofs.Common.{◌≡◌, ℕ, zero, suc, ◌+◌, ◌*◌, ◌/◌, ◌%◌, ◌<◌, ◌≤◌, inl, inr, ℤ, pos, neg_ℤ, ◌+ℤ◌, ◌-ℤ◌, ◌<ℤ◌, ◌≤ℤ◌, unsigned_abs, refl, sym, ap, ◌∙◌, arith, rules}
use Rattle.std.specs.Prelude.{◌↔◌}
use Rattle.std.specs.Int.{int_div_euclid, int_rem_euclid}
use Rattle.std.proofs.lemmas.Bool.{cases_lt}
use Rattle.std.proofs.lemmas.Int.{by_lt_z}
use Rattle.jiff_core.specs.declared.civil.date.Date.{Date}
use Rattle.jiff_core.specs.Calendar.{day_count, days_from_civil, days_in_month}
use Rattle.jiff_core.specs.Date.{epoch_day}
use Rattle.jiff_core.proofs.CalendarLemmas.{day_count-day_of_year, day_count-later_year, day_count-lt_year, days_from_civil-day_count, days_in_month_bounds}
use Rattle.jiff_core.proofs.DateLemmas.{civil, days_from_civil-day, days_from_civil-max, days_from_civil-next_month, days_from_civil-next_year}
use Rattle.jiff_core.proofs.MarchLemmas.{day_count-early}
use Rattle.jiff_core.proofs.SignedLemmas.{one_part, signed_arith}
use Rattle.time_patterns.specs.declared.civil_time.CivilTime.{CivilTime}
use Rattle.time_patterns.specs.CivilTime.{micros_of}

pub count-0 : day_count (pos 0) 1 1 ≡ 3_652_425
count-0 = day_count-early (pos 0) 9999 1 1 refl (omega arith) (omega arith) (omega arith)

pub count-2000 : day_count (pos 2000) 1 1 ≡ 4_382_910
count-2000 = day_count-early (pos 2000) 11999 1 1 refl (omega arith) (omega arith) (omega arith)

pub count-2100 : day_count (pos 2100) 1 1 ≡ 4_419_435
count-2100 = day_count-early (pos 2100) 12099 1 1 refl (omega arith) (omega arith) (omega arith)

-- a date is of the year or later exactly where as many days lie before it
pub from_year : (d : Date) (y : ℤ) → neg_ℤ (pos 10000) ≤ℤ y → (y ≤ℤ d.year) ↔ (day_count y 1 1 ≤ day_count d.year d.month d.day)
from_year d y low = (
  λ le. by_lt_z y d.year
      (λ lt. omega (arith, day_count-later_year y d.year low lt, day_count-day_of_year d.year d.month d.day d.day_in.0, d.day_in))
      (λ ge. let same : y ≡ d.year = omega (arith, signed_arith) in rw same (omega (arith, day_count-day_of_year d.year d.month d.day d.day_in.0, d.day_in))),
  λ le. by_lt_z d.year y
      (λ lt. absurd (omega (arith, day_count-lt_year d.year d.month d.day y 1 1 (civil d) (omega arith) lt)))
      (λ ge. ge),
)

next_year : (d : Date) → epoch_day d <ℤ pos 2_932_896 → d.month ≡ 12 → d.day ≡ 31 → (e : Date) × (epoch_day e ≡ epoch_day d +ℤ pos 1)
next_year d below month day =
    let here : epoch_day d ≡ days_from_civil d.year 12 31 = rw (month, day) refl in
    by_lt_z d.year (pos 9999)
    (λ lt.
    let step = days_from_civil-next_year d.year (d.year +ℤ pos 1) (omega (arith, signed_arith, d.year_in)) refl in
    let long = days_in_month_bounds (d.year +ℤ pos 1) 1 in (
      record {
        year = d.year +ℤ pos 1;
        month = 1;
        day = 1;
        year_in = (omega (arith, signed_arith, d.year_in), omega (arith, signed_arith));
        month_in = (omega arith, omega arith);
        day_in = (omega arith, omega arith);
      },
      step ∙ ap (λ z. z +ℤ pos 1) (sym here),
    ))
    (λ ge.
    let last : d.year ≡ pos 9999 = omega (arith, signed_arith, d.year_in) in
    let max : epoch_day d ≡ pos 2_932_896 = here ∙ ap (λ y. days_from_civil y 12 31) last ∙ days_from_civil-max in
    absurd (omega (arith, signed_arith)))

next_month : (d : Date) → epoch_day d <ℤ pos 2_932_896 → d.day ≡ days_in_month d.year d.month → (e : Date) × (epoch_day e ≡ epoch_day d +ℤ pos 1)
next_month d below last =
    elim (cases_lt d.month 12) [
      | inl lt ↦
          let long = days_in_month_bounds d.year (d.month + 1) in (
            record {
              year = d.year;
              month = d.month + 1;
              day = 1;
              year_in = d.year_in;
              month_in = (omega arith, omega arith);
              day_in = (omega arith, omega arith);
            },
            days_from_civil-next_month d.year d.month d.day d.month_in.0 last,
          )
      | inr ge ↦
          let december : d.month ≡ 12 = omega (arith, d.month_in) in
          next_year d below december (last ∙ ap (λ m. days_in_month d.year m) december)
    ]

next_day : (d : Date) → epoch_day d <ℤ pos 2_932_896 → (e : Date) × (epoch_day e ≡ epoch_day d +ℤ pos 1)
next_day d below =
    elim (cases_lt d.day (days_in_month d.year d.month)) [
      | inl lt ↦
          let step = days_from_civil-day d.year d.month (d.day + 1) d.day (omega arith) d.day_in.0 in (
            record {
              year = d.year;
              month = d.month;
              day = d.day + 1;
              year_in = d.year_in;
              month_in = d.month_in;
              day_in = (omega arith, omega arith);
            },
            omega (arith, signed_arith),
          )
      | inr ge ↦ let last : d.day ≡ days_in_month d.year d.month = omega (arith, d.day_in) in next_month d below last
    ]

day_at : (n : ℕ) → n < 3_652_425 → (d : Date) × (epoch_day d ≡ pos n -ℤ pos 719_528)
day_at zero h = (
  record { year = pos 0; month = 1; day = 1; year_in = search rules; month_in = search rules; day_in = search rules },
  omega (arith, signed_arith, days_from_civil-day_count (pos 0) 1 1, count-0),
)
day_at (suc n) h =
    let d = day_at n (omega arith) in
    let next = next_day d.0 (omega (arith, signed_arith, d.1)) in
    (next.0, omega (arith, signed_arith, d.1, next.1))

-- each day from 0000-01-01 to 9999-12-31 has a date
date_of : (z : ℤ) → neg_ℤ (pos 719_528) ≤ℤ z → z <ℤ pos 2_932_897 → (d : Date) × (epoch_day d ≡ z)
date_of z low high =
    let part = one_part (z +ℤ pos 719_528) in
    let d = day_at (unsigned_abs (z +ℤ pos 719_528)) (omega (arith, signed_arith)) in
    (d.0, omega (arith, signed_arith, d.1))

clock_parts : (c : ℕ) → ((c / 1_000_000 / 3600 * 60 + c / 1_000_000 / 60 % 60) * 60 + c / 1_000_000 % 60) * 1_000_000 + c % 1_000_000 ≡ c
clock_parts c = omega arith

-- each microsecond of those days is that of a time
pub time_of : (z : ℤ) → neg_ℤ (pos 62_167_219_200_000_000) ≤ℤ z → z <ℤ pos 253_402_300_800_000_000 → (t : CivilTime) × (micros_of t ≡ z)
time_of z low high =
    let day = int_div_euclid z (pos 86_400_000_000) in
    let c = unsigned_abs (int_rem_euclid z (pos 86_400_000_000)) in
    let d = date_of day (omega (arith, signed_arith)) (omega (arith, signed_arith)) in
    let small : c < 86_400_000_000 = omega (arith, signed_arith) in
    let parts = clock_parts c in (
      record {
        date = d.0;
        hour = c / 1_000_000 / 3600;
        minute = c / 1_000_000 / 60 % 60;
        second = c / 1_000_000 % 60;
        microsecond = c % 1_000_000;
        hour_in = omega arith;
        minute_in = omega arith;
        second_in = omega arith;
        microsecond_in = omega arith;
      },
      rw (d.1, parts) (omega (arith, signed_arith)),
    )
