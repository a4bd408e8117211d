-- The moments that patterns print, by their bounds and units.
use Rattle.std.proofs.Common.{◌≡◌, ℕ, zero, suc, ◌+◌, ◌-◌, ◌*◌, ◌%◌, ◌<◌, ◌≤◌, ◌⊎◌, inl, inr, List, [], ◌∷◌, length, take, drop, Some, ℤ, pos, neg_ℤ, ◌-ℤ◌, ◌*ℤ◌, ◌<ℤ◌, ◌≤ℤ◌, unsigned_abs, refl, sym, subst, arith}
use Rattle.std.specs.Prelude.{◌↔◌, slice_get}
use Rattle.std.specs.List.{AllByRecursion}
use Rattle.std.proofs.lemmas.Int.{by_lt_z}
use Rattle.jiff_core.specs.Calendar.{day_count}
use Rattle.jiff_core.proofs.CalendarLemmas.{days_from_civil-day_count}
use Rattle.jiff_core.proofs.DateLemmas.{epoch_day_range}
use Rattle.jiff_core.proofs.SignedLemmas.{one_part, signed_arith}
use Rattle.time_patterns.specs.declared.civil_time.CivilTime.{CivilTime}
use Rattle.time_patterns.specs.declared.form.Form.{Form}
use Rattle.time_patterns.specs.declared.shape.Shape.{Shape}
use Rattle.time_patterns.specs.declared.shape.Shape.TheVariants.{Dashed, Lettered, Bracketed, Slashed, Short}
use Rattle.time_patterns.specs.CivilTime.{micros_of}
use Rattle.time_patterns.specs.Forms.{first_year, forms, last_year, IsForm, IsTimeOf}
use Rattle.time_patterns.specs.Laws.{PrintedMoments}
use Rattle.time_patterns.specs.Stamps.{IsPrintable}
use Rattle.time_patterns.specs.Steps.{digits_of, HasUnit}
use Rattle.time_patterns.proofs.CivilLemmas.{clock_small}
use Rattle.time_patterns.proofs.DayLemmas.{count-0, count-2000, count-2100, from_year, time_of}
use Rattle.time_patterns.proofs.PlaceLemmas.{IsForm_bound, IsForm_same, IsForm_sound}
use Rattle.time_patterns.proofs.StampLemmas.{printable}

-- the microseconds of the years of a shape
abbrev first_micros : Shape → ℤ
first_micros Dashed = neg_ℤ (pos 62_167_219_200_000_000)
first_micros Lettered = neg_ℤ (pos 62_167_219_200_000_000)
first_micros Bracketed = neg_ℤ (pos 62_167_219_200_000_000)
first_micros Slashed = neg_ℤ (pos 62_167_219_200_000_000)
first_micros Short = pos 946_684_800_000_000

abbrev end_micros : Shape → ℤ
end_micros Dashed = pos 253_402_300_800_000_000
end_micros Lettered = pos 253_402_300_800_000_000
end_micros Bracketed = pos 253_402_300_800_000_000
end_micros Slashed = pos 253_402_300_800_000_000
end_micros Short = pos 4_102_444_800_000_000

abbrev AreYears : ℤ → ℤ → CivilTime → Type 0
AreYears first last t = (first ≤ℤ t.date.year) × (t.date.year ≤ℤ last)

abbrev AreMicros : ℤ → ℤ → ℤ → Type 0
AreMicros first end z = (first ≤ℤ z) × (z <ℤ end)

-- a time is of the year or later exactly where its microseconds are at least those to the year's first day
years_from : (t : CivilTime) (y : ℤ) (n : ℕ) (z : ℤ) → neg_ℤ (pos 10000) ≤ℤ y → day_count y 1 1 ≡ n → z ≡ (pos n -ℤ pos 4_371_953) *ℤ pos 86_400_000_000
    → (y ≤ℤ t.date.year) ↔ (z ≤ℤ micros_of t)
years_from t y n z low days is =
    let from = from_year t.date y low in
    let clock = clock_small t in
    let count = days_from_civil-day_count t.date.year t.date.month t.date.day in (
      λ le. let more = from.0 le in omega (arith, signed_arith),
      λ le. let more : n ≤ day_count t.date.year t.date.month t.date.day = omega (arith, signed_arith) in from.1 (omega (arith, days)),
    )

all_years : (t : CivilTime) → AreYears (pos 0) (pos 9999) t ↔ AreMicros (neg_ℤ (pos 62_167_219_200_000_000)) (pos 253_402_300_800_000_000) (micros_of t)
all_years t =
    let from = years_from t (pos 0) 3_652_425 (neg_ℤ (pos 62_167_219_200_000_000)) (omega (arith, signed_arith)) count-0 refl in
    let range = epoch_day_range t.date in
    let clock = clock_small t in (
      λ years. (from.0 years.0, omega (arith, signed_arith)),
      λ micros. (from.1 micros.0, omega (arith, signed_arith, t.date.year_in)),
    )

short_years : (t : CivilTime) → AreYears (pos 2000) (pos 2099) t ↔ AreMicros (pos 946_684_800_000_000) (pos 4_102_444_800_000_000) (micros_of t)
short_years t =
    let from = years_from t (pos 2000) 4_382_910 (pos 946_684_800_000_000) (omega (arith, signed_arith)) count-2000 refl in
    let to = years_from t (pos 2100) 4_419_435 (pos 4_102_444_800_000_000) (omega (arith, signed_arith)) count-2100 refl in (
      λ years. (
        from.0 years.0,
        by_lt_z (micros_of t) (pos 4_102_444_800_000_000) (λ lt. lt) (λ ge. let late = to.1 ge in absurd (omega (arith, signed_arith))),
      ),
      λ micros. (
        from.1 micros.0,
        by_lt_z t.date.year (pos 2100) (λ lt. omega (arith, signed_arith)) (λ ge. let late = to.0 ge in absurd (omega (arith, signed_arith))),
      ),
    )

-- the years of a shape
shape_years : (s : Shape) (t : CivilTime) → AreYears (pos (first_year s)) (pos (last_year s)) t ↔ AreMicros (first_micros s) (end_micros s) (micros_of t)
shape_years Dashed t = all_years t
shape_years Lettered t = all_years t
shape_years Bracketed t = all_years t
shape_years Slashed t = all_years t
shape_years Short t = short_years t

-- and within those of the calendar
shape_time : (s : Shape) (z : ℤ) → AreMicros (first_micros s) (end_micros s) z → (t : CivilTime) × (micros_of t ≡ z)
shape_time Dashed z h = time_of z h.0 h.1
shape_time Lettered z h = time_of z h.0 h.1
shape_time Bracketed z h = time_of z h.0 h.1
shape_time Slashed z h = time_of z h.0 h.1
shape_time Short z h = time_of z (omega (arith, signed_arith, h.0)) (omega (arith, signed_arith, h.1))

-- a time is a whole number of units exactly where its microseconds are
whole : (digits unit : ℕ) → HasUnit digits unit → (t : CivilTime) → (t.microsecond % unit ≡ 0) ↔ (unsigned_abs (micros_of t) % unit ≡ 0)
whole digits unit (inl h) t =
    let part = one_part (micros_of t) in
    rw h.1 ((λ e. omega (arith, signed_arith)), (λ e. omega (arith, signed_arith)))
whole digits unit (inr (inl h)) t =
    let part = one_part (micros_of t) in
    rw h.1 ((λ e. omega (arith, signed_arith)), (λ e. omega (arith, signed_arith)))
whole digits unit (inr (inr h)) t = rw h.1 ((λ e. omega arith), (λ e. omega arith))

-- the pattern of a form prints the whole numbers of its unit in its years
form_prints : (k : ℕ) (form : Form) → IsForm k form → (m : ℤ)
    → IsPrintable k m ↔ (AreMicros (first_micros form.shape) (end_micros form.shape) (m *ℤ pos form.tick) × (unsigned_abs (m *ℤ pos form.tick) % form.unit ≡ 0))
form_prints k form is m =
    let sound = IsForm_sound k form is in (
      λ printed.
          let theirs = subst (λ (f : Form). (u : CivilTime) × (micros_of u ≡ m *ℤ pos f.tick) × IsTimeOf f u) (IsForm_same k printed.1.0 form printed.1.1 is) (printed.1.2.0, printed.1.2.1, printed.1.2.2) in
          let t = theirs.0 in
          let years = (shape_years form.shape t).0 (theirs.2.from_year, theirs.2.to_year) in
          let units = (whole (digits_of form.fraction) form.unit sound.unit t).0 theirs.2.unit in
          subst (λ z. AreMicros (first_micros form.shape) (end_micros form.shape) z × (unsigned_abs z % form.unit ≡ 0)) theirs.1 (years, units),
      λ h.
          let t = shape_time form.shape (m *ℤ pos form.tick) h.0 in
          let years = (shape_years form.shape t.0).1 (subst (λ z. AreMicros (first_micros form.shape) (end_micros form.shape) z) (sym t.1) h.0) in
          let units = (whole (digits_of form.fraction) form.unit sound.unit t.0).1 (subst (λ z. unsigned_abs z % form.unit ≡ 0) (sym t.1) h.1) in
          (printable k form is m t.0 t.1).0 (record { from_year = years.0; to_year = years.1; unit = units }),
    )

-- the form at a place among some of a list
in_range : (P : Form → Type 0) (xs : List Form) (from count i : ℕ) → AllByRecursion P (take count (drop from xs)) → from ≤ i → i < from + count → from + count ≤ length xs → (x : Form) × (slice_get xs i ≡ Some x) × P x
in_range P [] from count i all low high long = absurd (omega arith)
in_range P (x ∷ xs) zero zero i all low high long = absurd (omega arith)
in_range P (x ∷ xs) zero (suc count) zero all low high long = (x, refl, all.0)
in_range P (x ∷ xs) zero (suc count) (suc i) all low high long = in_range P xs zero count i all.1 (omega arith) (omega arith) (omega arith)
in_range P (x ∷ xs) (suc from) count zero all low high long = absurd (omega arith)
in_range P (x ∷ xs) (suc from) count (suc i) all low high long = in_range P xs from count i all (omega arith) (omega arith) (omega arith)

-- a form of these years, tick and unit
pub record Has (first end : ℤ) (tick unit : ℕ) (form : Form) : Type 0 where
  pub from : first_micros form.shape ≡ first
  pub to : end_micros form.shape ≡ end
  pub tick_is : form.tick ≡ tick
  pub unit_is : form.unit ≡ unit

plain : (k : ℕ) (form : Form) (first end : ℤ) (tick unit : ℕ) → IsForm k form → Has first end tick unit form
    → (m : ℤ) → IsPrintable k m ↔ (AreMicros first end (m *ℤ pos tick) × (unsigned_abs (m *ℤ pos tick) % unit ≡ 0))
plain k form first end tick unit is has m = rw (← has.from, ← has.to, ← has.tick_is, ← has.unit_is) (form_prints k form is m)

-- the patterns of a range
prints_range : (first end : ℤ) (tick unit from count k : ℕ) → AllByRecursion (Has first end tick unit) (take count (drop from forms))
    → 1 + from ≤ k → k < 1 + from + count → from + count ≤ length forms
    → (m : ℤ) → IsPrintable k m ↔ (AreMicros first end (m *ℤ pos tick) × (unsigned_abs (m *ℤ pos tick) % unit ≡ 0))
prints_range first end tick unit from count k all low high long m =
    let found = in_range (Has first end tick unit) forms from count (k - 1) all (omega arith) (omega arith) long in
    plain k found.0 first end tick unit (omega arith, found.1) found.2 m

to_ms : AllByRecursion (Has (neg_ℤ (pos 62_167_219_200_000_000)) (pos 253_402_300_800_000_000) 1000 1000) (take 5 (drop 0 forms))
to_ms = (record { from = refl; to = refl; tick_is = refl; unit_is = refl }, (record { from = refl; to = refl; tick_is = refl; unit_is = refl }, (record { from = refl; to = refl; tick_is = refl; unit_is = refl }, (record { from = refl; to = refl; tick_is = refl; unit_is = refl }, (record { from = refl; to = refl; tick_is = refl; unit_is = refl }, tt)))))

to_s : AllByRecursion (Has (neg_ℤ (pos 62_167_219_200_000_000)) (pos 253_402_300_800_000_000) 1000 1000000) (take 4 (drop 5 forms))
to_s = (record { from = refl; to = refl; tick_is = refl; unit_is = refl }, (record { from = refl; to = refl; tick_is = refl; unit_is = refl }, (record { from = refl; to = refl; tick_is = refl; unit_is = refl }, (record { from = refl; to = refl; tick_is = refl; unit_is = refl }, tt))))

short_s : AllByRecursion (Has (pos 946_684_800_000_000) (pos 4_102_444_800_000_000) 1000 1000000) (take 1 (drop 9 forms))
short_s = (record { from = refl; to = refl; tick_is = refl; unit_is = refl }, tt)

micro_us : AllByRecursion (Has (neg_ℤ (pos 62_167_219_200_000_000)) (pos 253_402_300_800_000_000) 1 1) (take 6 (drop 10 forms))
micro_us = (record { from = refl; to = refl; tick_is = refl; unit_is = refl }, (record { from = refl; to = refl; tick_is = refl; unit_is = refl }, (record { from = refl; to = refl; tick_is = refl; unit_is = refl }, (record { from = refl; to = refl; tick_is = refl; unit_is = refl }, (record { from = refl; to = refl; tick_is = refl; unit_is = refl }, (record { from = refl; to = refl; tick_is = refl; unit_is = refl }, tt))))))

micro_ms : AllByRecursion (Has (neg_ℤ (pos 62_167_219_200_000_000)) (pos 253_402_300_800_000_000) 1 1000) (take 5 (drop 16 forms))
micro_ms = (record { from = refl; to = refl; tick_is = refl; unit_is = refl }, (record { from = refl; to = refl; tick_is = refl; unit_is = refl }, (record { from = refl; to = refl; tick_is = refl; unit_is = refl }, (record { from = refl; to = refl; tick_is = refl; unit_is = refl }, (record { from = refl; to = refl; tick_is = refl; unit_is = refl }, tt)))))

micro_s : AllByRecursion (Has (neg_ℤ (pos 62_167_219_200_000_000)) (pos 253_402_300_800_000_000) 1 1000000) (take 4 (drop 21 forms))
micro_s = (record { from = refl; to = refl; tick_is = refl; unit_is = refl }, (record { from = refl; to = refl; tick_is = refl; unit_is = refl }, (record { from = refl; to = refl; tick_is = refl; unit_is = refl }, (record { from = refl; to = refl; tick_is = refl; unit_is = refl }, tt))))

micro_short : AllByRecursion (Has (pos 946_684_800_000_000) (pos 4_102_444_800_000_000) 1 1000000) (take 1 (drop 25 forms))
micro_short = (record { from = refl; to = refl; tick_is = refl; unit_is = refl }, tt)

-- ticks of 1000 microseconds
by_thousand : (first end m : ℤ) (unit : ℕ) (P : Type 0) → P ↔ (AreMicros (first *ℤ pos 1000) (end *ℤ pos 1000) (m *ℤ pos 1000) × (unsigned_abs (m *ℤ pos 1000) % (unit * 1000) ≡ 0))
    → (unit ≡ 1) ⊎ (unit ≡ 1000) → P ↔ ((first ≤ℤ m) × (m <ℤ end) × (unsigned_abs m % unit ≡ 0))
by_thousand first end m unit P h (inl one) =
    let part = one_part m in (
      λ p. let b = h.0 p in (omega (arith, signed_arith, b.0), omega (arith, signed_arith, b.0), rw one (omega arith)),
      λ b. h.1 ((omega (arith, signed_arith, b.0), omega (arith, signed_arith, b.1)), rw one (omega (arith, signed_arith))),
    )
by_thousand first end m unit P h (inr thousand) =
    let part = one_part m in (
      λ p. let b = h.0 p in
          let e : unsigned_abs (m *ℤ pos 1000) % 1_000_000 ≡ 0 = rw thousand at b.1 in
          (omega (arith, signed_arith, b.0), omega (arith, signed_arith, b.0), rw thousand (omega (arith, signed_arith))),
      λ b.
          let e : unsigned_abs m % 1000 ≡ 0 = rw thousand at b.2 in
          h.1 ((omega (arith, signed_arith, b.0), omega (arith, signed_arith, b.1)), rw thousand (omega (arith, signed_arith))),
    )

-- ticks of one
by_one : (first end m : ℤ) (unit : ℕ) (P : Type 0) → P ↔ (AreMicros first end (m *ℤ pos 1) × (unsigned_abs (m *ℤ pos 1) % unit ≡ 0))
    → P ↔ ((first ≤ℤ m) × (m <ℤ end) × (unsigned_abs m % unit ≡ 0))
by_one first end m unit P h =
    let same : m *ℤ pos 1 ≡ m = omega (arith, signed_arith) in
    let plain = subst (λ z. P ↔ (AreMicros first end z × (unsigned_abs z % unit ≡ 0))) same h in
    (λ p. let b = plain.0 p in (b.0.0, b.0.1, b.1), λ b. plain.1 ((b.0, b.1), b.2))

pub printed_moments : PrintedMoments
printed_moments = record {
  patterns = λ k m printed. IsForm_bound k printed.1.0 printed.1.1;
  milliseconds = λ k low high m. by_thousand (neg_ℤ (pos 62_167_219_200_000)) (pos 253_402_300_800_000) m 1 (IsPrintable k m) (prints_range _ _ 1000 1000 0 5 k to_ms (omega arith) (omega arith) (omega arith) m) (inl refl);
  seconds = λ k low high m. by_thousand (neg_ℤ (pos 62_167_219_200_000)) (pos 253_402_300_800_000) m 1000 (IsPrintable k m) (prints_range _ _ 1000 1_000_000 5 4 k to_s (omega arith) (omega arith) (omega arith) m) (inr refl);
  short_years = λ m. by_thousand (pos 946_684_800_000) (pos 4_102_444_800_000) m 1000 (IsPrintable 10 m) (prints_range _ _ 1000 1_000_000 9 1 10 short_s (omega arith) (omega arith) (omega arith) m) (inr refl);
  micro_microseconds = λ k low high m. by_one _ _ m 1 (IsPrintable k m) (prints_range _ _ 1 1 10 6 k micro_us (omega arith) (omega arith) (omega arith) m);
  micro_milliseconds = λ k low high m. by_one _ _ m 1000 (IsPrintable k m) (prints_range _ _ 1 1000 16 5 k micro_ms (omega arith) (omega arith) (omega arith) m);
  micro_seconds = λ k low high m. by_one _ _ m 1_000_000 (IsPrintable k m) (prints_range _ _ 1 1_000_000 21 4 k micro_s (omega arith) (omega arith) (omega arith) m);
  micro_short_years = λ m. by_one _ _ m 1_000_000 (IsPrintable 26 m) (prints_range _ _ 1 1_000_000 25 1 26 micro_short (omega arith) (omega arith) (omega arith) m);
}
