-- The microseconds that count to a day and a time of that day, and the numbers that write it. Each time of a day has
-- an hour below 24, a minute and a second below 60 and a microsecond below 1000000, and each day is one of the calendar.
use Rattle.std.specs.Prelude.{ℕ, ◌+◌, ◌-◌, ◌*◌, List, [], ◌∷◌, ℤ, pos, ◌+ℤ◌, ◌*ℤ◌, unsigned_abs}
use Rattle.jiff_core.specs.Date.{epoch_day}
use Rattle.time_patterns.specs.declared.civil_time.CivilTime.{CivilTime}

-- the microseconds since the day began
abbrev pub clock_of : CivilTime → ℕ
clock_of c = ((c.hour * 60 + c.minute) * 60 + c.second) * 1_000_000 + c.microsecond

-- the microseconds since 1970-01-01T00:00:00, negative before it
abbrev pub micros_of : CivilTime → ℤ
micros_of c = epoch_day c.date *ℤ pos 86_400_000_000 +ℤ pos (clock_of c)

-- the years after a first one, the month, the day, the hour, the minute and the second
abbrev pub numbers_of : ℕ → CivilTime → List ℕ
numbers_of first_year c =
    (unsigned_abs c.date.year - first_year) ∷ c.date.month ∷ c.date.day ∷ c.hour ∷ c.minute ∷ c.second ∷ []
