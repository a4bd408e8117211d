-- Whether a pattern prints a moment can be told: each day of the calendar is found from the first on.
use Rattle.std.proofs.Common.{◌≡◌, refl, sym, ap, ap₂, subst, ◌∙◌, ◌+◌, ◌-◌, ◌/◌, ◌%◌, ◌<◌, ◌≤◌, ◌⊎◌, inl, inr, ⊎_elim, ℕ, zero, suc, [], Option, None, Some, arith, rules}
use Rattle.std.specs.Prelude.{ℤ, pos, negsuc, neg_ℤ, unsigned_abs, ◌+ℤ◌, ◌*ℤ◌, ◌<ℤ◌, ◌≤ℤ◌, slice_get}
use Rattle.std.specs.Int.{int_div_euclid, int_rem_euclid}
use Rattle.std.proofs.lemmas.Bool.{cases_eq, cases_lt}
use Rattle.std.proofs.lemmas.Int.{by_lt_z}
use Rattle.jiff_core.specs.declared.civil.date.Date.{Date}
use Rattle.jiff_core.specs.Calendar.{days_from_civil, days_in_month}
use Rattle.jiff_core.specs.Date.{epoch_day}
use Rattle.jiff_core.proofs.CalendarLemmas.{days_in_month_bounds}
use Rattle.jiff_core.proofs.DateLemmas.{days_from_civil-day, days_from_civil-max, days_from_civil-min, days_from_civil-next_month, days_from_civil-next_year, epoch_day_range}
use Rattle.jiff_core.proofs.SignedLemmas.{signed_arith}
use Rattle.time_patterns.specs.declared.civil_time.CivilTime.{CivilTime}
use Rattle.time_patterns.specs.declared.form.Form.{Form}
use Rattle.time_patterns.specs.CivilTime.{clock_of, micros_of}
use Rattle.time_patterns.specs.Forms.{IsForm, IsTimeOf, first_year, forms, last_year}
use Rattle.time_patterns.specs.Stamps.{IsPrintable}
use Rattle.time_patterns.proofs.CivilLemmas.{clock_small}
use Rattle.time_patterns.proofs.StampLemmas.{printable}
use Rattle.row_codec.specs.StepsBody.{HasStampWriting}

-- a fact that can be told
abbrev pub Decided : Type 0 → Type 0
Decided P = P ⊎ (P → ⊥)

-- ---- the days of the calendar

first_day : Date
first_day = record { year = neg_ℤ (pos 9999); month = 1; day = 1; year_in = search rules; month_in = search rules; day_in = search rules }

-- 1 January behind 31 December
new_year : (d : Date) → epoch_day d <ℤ pos 2_932_896 → d.month ≡ 12 → d.day ≡ 31 → (e : Date) × (epoch_day e ≡ epoch_day d +ℤ pos 1)
new_year d early december last =
    by_lt_z d.year (pos 9999) later last_year_is
  where
    later : d.year <ℤ pos 9999 → (e : Date) × (epoch_day e ≡ epoch_day d +ℤ pos 1)
    later lt =
        let next = d.year +ℤ pos 1 in
        let long = days_in_month_bounds next 1 in (
          record { year = next; month = 1; day = 1; year_in = (omega (arith, signed_arith, d.year_in.0, lt), omega (arith, signed_arith, lt)); month_in = (omega arith, omega arith); day_in = (omega arith, omega (arith, long.1)) },
          days_from_civil-next_year d.year next (omega (arith, signed_arith, d.year_in.0)) refl ∙ ap₂ (λ m k. days_from_civil d.year m k +ℤ pos 1) (sym december) (sym last),
        )

    last_year_is : pos 9999 ≤ℤ d.year → (e : Date) × (epoch_day e ≡ epoch_day d +ℤ pos 1)
    last_year_is ge =
        let year : d.year ≡ pos 9999 = omega (arith, signed_arith, d.year_in.1, ge) in
        let end : epoch_day d ≡ pos 2_932_896 = ap₂ (λ (y : ℤ) (m : ℕ). days_from_civil y m d.day) year december ∙ (ap (λ k. days_from_civil (pos 9999) 12 k) last ∙ days_from_civil-max) in
        absurd (omega (arith, signed_arith, early, end))

next_day : (d : Date) → epoch_day d <ℤ pos 2_932_896 → (e : Date) × (epoch_day e ≡ epoch_day d +ℤ pos 1)
next_day d early = elim (cases_lt d.day (days_in_month d.year d.month)) [
  | inl within ↦ (
    record { year = d.year; month = d.month; day = d.day + 1; year_in = d.year_in; month_in = d.month_in; day_in = (omega arith, omega (arith, within)) },
    omega (arith, signed_arith, days_from_civil-day d.year d.month (d.day + 1) d.day (omega arith) d.day_in.0),
  )
  | inr last ↦ elim (cases_lt d.month 12) [
    | inl before ↦
        let long = days_in_month_bounds d.year (d.month + 1) in
        let day : d.day ≡ days_in_month d.year d.month = omega (arith, last, d.day_in.1) in (
          record { year = d.year; month = d.month + 1; day = 1; year_in = d.year_in; month_in = (omega arith, omega (arith, before)); day_in = (omega arith, omega (arith, long.1)) },
          days_from_civil-next_month d.year d.month d.day d.month_in.0 day,
        )
    | inr december ↦
        let month : d.month ≡ 12 = omega (arith, december, d.month_in.1) in
        let most : d.day ≤ 31 = (subst (λ m. d.day ≤ days_in_month d.year m) month d.day_in.1) in
        let least : 31 ≤ d.day = (subst (λ m. days_in_month d.year m ≤ d.day) month last) in
        new_year d early month (omega (arith, most, least))
  ]
]

day_at : (n : ℕ) → n ≤ 7_304_483 → (d : Date) × (epoch_day d +ℤ pos 4_371_587 ≡ pos n)
unfolding first_day
day_at zero most = (first_day, omega (arith, signed_arith, days_from_civil-min))
day_at (suc n) most =
    let before = day_at n (omega (arith, most)) in
    let next = next_day before.0 (omega (arith, signed_arith, before.1, most)) in
    (next.0, omega (arith, signed_arith, before.1, next.1))

-- a time of a day
on_day : (d : Date) (clock : ℕ) → clock < 86_400_000_000 → (t : CivilTime) × (epoch_day t.date ≡ epoch_day d) × (clock_of t ≡ clock)
on_day d clock small = (
  record {
    date = d;
    hour = clock / 1_000_000 / 3600;
    minute = clock / 1_000_000 / 60 % 60;
    second = clock / 1_000_000 % 60;
    microsecond = clock % 1_000_000;
    hour_in = omega (arith, small);
    minute_in = omega arith;
    second_in = omega arith;
    microsecond_in = omega arith;
  },
  refl,
  omega (arith, small),
)

abbrev day_of : ℤ → ℤ
day_of m = int_div_euclid m (pos 86_400_000_000)

abs_is : (z : ℤ) → pos 0 ≤ℤ z → pos (unsigned_abs z) ≡ z
abs_is (pos n) ge = refl
abs_is (negsuc n) ge = absurd (omega (arith, signed_arith, ge))

-- the time of a count of microseconds, where the calendar reaches it
time_at : (m : ℤ) → Decided ((t : CivilTime) × (micros_of t ≡ m))
time_at m = by_lt_z (day_of m) (neg_ℤ (pos 4_371_587)) (λ lt. inr (λ has. before lt has.0 has.1)) (λ ge. by_lt_z (pos 2_932_896) (day_of m) (λ gt. inr (λ has. after gt has.0 has.1)) (λ le. inl (there ge le)))
  where
    before : day_of m <ℤ neg_ℤ (pos 4_371_587) → (t : CivilTime) → micros_of t ≡ m → ⊥
    before lt t e = let range = epoch_day_range t.date in let clock = clock_small t in omega (arith, signed_arith, range.0, clock, e, lt)

    after : pos 2_932_896 <ℤ day_of m → (t : CivilTime) → micros_of t ≡ m → ⊥
    after gt t e = let range = epoch_day_range t.date in let clock = clock_small t in omega (arith, signed_arith, range.1, clock, e, gt)

    there : neg_ℤ (pos 4_371_587) ≤ℤ day_of m → day_of m ≤ℤ pos 2_932_896 → (t : CivilTime) × (micros_of t ≡ m)
    there ge le =
        let later = day_of m +ℤ pos 4_371_587 in
        let count : pos (unsigned_abs later) ≡ later = abs_is later (omega (arith, signed_arith, ge)) in
        let day = day_at (unsigned_abs later) (omega (arith, signed_arith, count, le)) in
        let same : epoch_day day.0 ≡ day_of m = omega (arith, signed_arith, count, day.1) in
        let rest = int_rem_euclid m (pos 86_400_000_000) in
        let clock : pos (unsigned_abs rest) ≡ rest = abs_is rest (omega (arith, signed_arith)) in
        let t = on_day day.0 (unsigned_abs rest) (omega (arith, signed_arith, clock)) in
        let date : epoch_day t.0.date ≡ day_of m = t.1 ∙ same in
        let time : pos (clock_of t.0) ≡ rest = ap (λ n. pos n) t.2 ∙ clock in
        (t.0, omega (arith, signed_arith, date, time))

-- ---- stamps

dec_le_z : (a b : ℤ) → Decided (a ≤ℤ b)
dec_le_z a b = by_lt_z b a (λ lt. inr (λ le. absurd (omega (arith, signed_arith, lt, le)))) (λ le. inl le)

dec_time : (form : Form) (t : CivilTime) → Decided (IsTimeOf form t)
dec_time form t = elim (dec_le_z (pos (first_year form.shape)) t.date.year) [
  | inl low ↦ elim (dec_le_z t.date.year (pos (last_year form.shape))) [
    | inl high ↦ elim (cases_eq (t.microsecond % form.unit) 0) [ inl unit ↦ inl (record { from_year = low; to_year = high; unit = unit }) | inr none ↦ inr (λ is. none is.unit) ]
    | inr none ↦ inr (λ is. none is.to_year)
  ]
  | inr none ↦ inr (λ is. none is.from_year)
]

one_form : {o : Option Form} (a b : Form) → o ≡ Some a → o ≡ Some b → a ≡ b
one_form a b e f = cc (e, f)

dec_printable : (k : ℕ) (m : ℤ) → Decided (IsPrintable (suc k) m)
dec_printable k m = by_form (slice_get forms (suc k - 1)) refl
  where
    by_time : (form : Form) → IsForm (suc k) form → slice_get forms (suc k - 1) ≡ Some form → Decided ((t : CivilTime) × (micros_of t ≡ m *ℤ pos form.tick)) → Decided (IsPrintable (suc k) m)
    by_time form is at (inl time) =
        let prints = printable (suc k) form is m time.0 time.1 in
        ⊎_elim (λ shown. inl (prints.0 shown)) (λ none. inr (λ printed. none (prints.1 printed))) (dec_time form time.0)
    by_time form is at (inr none) = inr (λ printed. none (subst (λ (f : Form). (t : CivilTime) × (micros_of t ≡ m *ℤ pos f.tick)) (one_form printed.1.0 form printed.1.1.1 at) (printed.1.2.0, printed.1.2.1)))

    by_form : (o : Option Form) → slice_get forms (suc k - 1) ≡ o → Decided (IsPrintable (suc k) m)
    by_form None none = inr (λ printed. absurd (cc (none, printed.1.1.1)))
    by_form (Some form) at = by_time form (omega arith, at) at (time_at (m *ℤ pos form.tick))

pub dec_stamp : (pattern : ℕ) (moment : ℤ) → Decided (HasStampWriting pattern moment)
dec_stamp zero (pos zero) = inl ([], (refl, refl))
dec_stamp zero (pos (suc n)) = inr (λ has. absurd (cc has.1.0))
dec_stamp zero (negsuc n) = inr (λ has. absurd (cc has.1.0))
dec_stamp (suc k) moment = dec_printable k moment
