-- The texts of a pattern rise with the moment.
use Rattle.std.proofs.Common.{◌≡◌, ℕ, zero, suc, ◌+◌, ◌-◌, ◌*◌, ◌/◌, ◌%◌, ◌^◌, ◌<◌, ◌≤◌, ◌⊎◌, inl, inr, List, [], ◌∷◌, ◌++◌, length, Option, Some, None, ℤ, pos, negsuc, ◌*ℤ◌, ◌<ℤ◌, ◌≤ℤ◌, unsigned_abs, refl, sym, ap, subst, ◌∙◌, arith, append_assoc}
use Rattle.std.proofs.lemmas.Bool.{cases_order}
use Rattle.jiff_core.proofs.DateLemmas.{IsEarlier, cases_date, epoch_day-lt, epoch_day_same}
use Rattle.jiff_core.proofs.SignedLemmas.{signed_arith}
use Rattle.time_patterns.specs.declared.civil_time.CivilTime.{CivilTime}
use Rattle.time_patterns.specs.declared.field.Field.{Field}
use Rattle.time_patterns.specs.declared.form.Form.{Form}
use Rattle.time_patterns.specs.declared.shape.Shape.{Shape}
use Rattle.time_patterns.specs.declared.shape.Shape.TheVariants.{Dashed, Lettered, Bracketed, Slashed, Short}
use Rattle.time_patterns.specs.CivilTime.{clock_of, micros_of, numbers_of}
use Rattle.time_patterns.specs.Digits.{AreWithin, byte_text, digits, field_text, fields_text}
use Rattle.time_patterns.specs.Forms.{fields_of, first_year, fraction_text, PrintsForm, tail_text, text_of}
use Rattle.time_patterns.specs.Steps.{counts_of, digits_of, HasTick, HasUnit, IsSound}
use Rattle.time_patterns.proofs.CivilLemmas.{clock_small}
use Rattle.time_patterns.proofs.PlaceLemmas.{IsForm_same, IsForm_sound}
use Rattle.time_patterns.proofs.ShapeLemmas.{within_shape}
use Rattle.time_patterns.proofs.TailLemmas.{units_below}
use Rattle.stamp_templates.specs.Laws.{IsNotAbove, TextsRise}

-- ---- texts in order

-- the first byte that differs is less
abbrev Below : List ℕ → List ℕ → Type 0
Below [] other = ⊥
Below (a ∷ text) [] = ⊥
Below (a ∷ text) (b ∷ other) = (a < b) ⊎ ((a ≡ b) × Below text other)

below_append : (a b x y : List ℕ) → Below a b → Below (a ++ x) (b ++ y)
below_append [] b x y h = absurd h
below_append (c ∷ a) [] x y h = absurd h
below_append (c ∷ a) (d ∷ b) x y (inl less) = inl less
below_append (c ∷ a) (d ∷ b) x y (inr h) = inr (h.0, below_append a b x y h.1)

below_after : (a x y : List ℕ) → Below x y → Below (a ++ x) (a ++ y)
below_after [] x y h = h
below_after (c ∷ a) x y h = inr (refl, below_after a x y h)

front_below : (a b x y : List ℕ) → Below a b → IsNotAbove (a ++ x) (b ++ y)
front_below [] b x y h = absurd h
front_below (c ∷ a) [] x y h = absurd h
front_below (c ∷ a) (d ∷ b) x y (inl less) = inl less
front_below (c ∷ a) (d ∷ b) x y (inr h) = inr (h.0, front_below a b x y h.1)

same_front : (a x y : List ℕ) → IsNotAbove x y → IsNotAbove (a ++ x) (a ++ y)
same_front [] x y h = h
same_front (c ∷ a) x y h = inr (refl, same_front a x y h)

not_above_itself : (a : List ℕ) → IsNotAbove a a
not_above_itself [] = tt
not_above_itself (c ∷ a) = inr (refl, not_above_itself a)

-- ---- digits and fields

digits_below : (n x y : ℕ) → x < y → y < 10 ^ n → Below (digits n x) (digits n y)
unfolding digits
digits_below zero x y less small = let few : y < 1 = small in absurd (omega arith)
digits_below (suc n) x y less small =
    elim (cases_order (x / 10) (y / 10)) [
      | inl same ↦
          let last : 48 + x % 10 < 48 + y % 10 = omega arith in
          subst (λ q. Below (digits n (x / 10) ++ (48 + x % 10) ∷ []) (digits n q ++ (48 + y % 10) ∷ [])) same
          (below_after (digits n (x / 10)) ((48 + x % 10) ∷ []) ((48 + y % 10) ∷ []) (inl last))
      | inr (inl lt) ↦
          below_append (digits n (x / 10)) (digits n (y / 10)) ((48 + x % 10) ∷ []) ((48 + y % 10) ∷ []) (digits_below n (x / 10) (y / 10) lt (omega arith))
      | inr (inr gt) ↦ absurd (omega arith)
    ]

field_below : (f : Field) (x y : ℕ) → x < y → y < 10 ^ f.digits → Below (field_text f x) (field_text f y)
field_below f x y less small = below_after (byte_text f.before) (digits f.digits x) (digits f.digits y) (digits_below f.digits x y less small)

-- the first number that differs is less, or none differs and more is so
abbrev Precede : Type 0 → List ℕ → List ℕ → Type 0
Precede P [] [] = P
Precede P [] (y ∷ ys) = ⊥
Precede P (x ∷ xs) [] = ⊥
Precede P (x ∷ xs) (y ∷ ys) = (x < y) ⊎ ((x ≡ y) × Precede P xs ys)

fields_rise : (fs : List Field) (xs ys t u : List ℕ) → length xs ≡ length fs → AreWithin (counts_of fs) ys → Precede (IsNotAbove t u) xs ys
    → IsNotAbove (fields_text fs xs ++ t) (fields_text fs ys ++ u)
unfolding fields_text AreWithin
fields_rise [] [] [] t u l a h = h
fields_rise [] [] (y ∷ ys) t u l a h = absurd h
fields_rise [] (x ∷ xs) ys t u l a h = absurd (omega arith)
fields_rise (f ∷ fs) [] ys t u l a h = absurd (omega arith)
fields_rise (f ∷ fs) (x ∷ xs) [] t u l a h = absurd h
fields_rise (f ∷ fs) (x ∷ xs) (y ∷ ys) t u l a (inl less) =
    front_below (field_text f x ++ fields_text fs xs) (field_text f y ++ fields_text fs ys) t u
    (below_append (field_text f x) (field_text f y) (fields_text fs xs) (fields_text fs ys) (field_below f x y less a.0))
fields_rise (f ∷ fs) (x ∷ xs) (y ∷ ys) t u l a (inr h) =
    let p = fields_text fs xs in
    let q = fields_text fs ys in
    let rest = same_front (field_text f y) (p ++ t) (q ++ u) (fields_rise fs xs ys t u (omega arith) a.1 h.1) in
    let left : (field_text f x ++ p) ++ t ≡ field_text f y ++ (p ++ t) = append_assoc (field_text f x) p t ∙ ap (λ z. field_text f z ++ (p ++ t)) h.0 in
    subst (λ z. IsNotAbove z ((field_text f y ++ q) ++ u)) (sym left)
    (subst (λ z. IsNotAbove (field_text f y ++ (p ++ t)) z) (sym (append_assoc (field_text f y) q u)) rest)

fraction_rise : (o : Option Field) (x y : ℕ) → x ≤ y → y < 10 ^ digits_of o → (c : List ℕ) → IsNotAbove (fraction_text o x ++ c) (fraction_text o y ++ c)
fraction_rise None x y le small c = not_above_itself c
fraction_rise (Some f) x y le small c =
    elim (cases_order x y) [
      | inl same ↦ subst (λ z. IsNotAbove (field_text f x ++ c) (field_text f z ++ c)) same (not_above_itself (field_text f x ++ c))
      | inr (inl lt) ↦ front_below (field_text f x) (field_text f y) c c (field_below f x y lt small)
      | inr (inr gt) ↦ absurd (omega arith)
    ]

-- ---- times in order

seconds_precede : (P : Type 0) (s t us vs : ℕ) → us < 1_000_000 → vs < 1_000_000 → s * 1_000_000 + us ≤ t * 1_000_000 + vs → (us ≤ vs → P)
    → Precede P (s ∷ []) (t ∷ [])
seconds_precede P s t us vs a b le p =
    elim (cases_order s t) [
      | inl same ↦ inr (same, p (omega arith))
      | inr (inl lt) ↦ inl lt
      | inr (inr gt) ↦ absurd (omega arith)
    ]

minutes_precede : (P : Type 0) (m n s t us vs : ℕ) → s < 60 → t < 60 → us < 1_000_000 → vs < 1_000_000
    → (m * 60 + s) * 1_000_000 + us ≤ (n * 60 + t) * 1_000_000 + vs → (us ≤ vs → P) → Precede P (m ∷ s ∷ []) (n ∷ t ∷ [])
minutes_precede P m n s t us vs c d a b le p =
    elim (cases_order m n) [
      | inl same ↦ inr (same, seconds_precede P s t us vs a b (omega arith) p)
      | inr (inl lt) ↦ inl lt
      | inr (inr gt) ↦ absurd (omega arith)
    ]

clocks_precede : (P : Type 0) (t u : CivilTime) → clock_of t ≤ clock_of u → (t.microsecond ≤ u.microsecond → P)
    → Precede P (t.hour ∷ t.minute ∷ t.second ∷ []) (u.hour ∷ u.minute ∷ u.second ∷ [])
clocks_precede P t u le p =
    elim (cases_order t.hour u.hour) [
      | inl same ↦
          inr (same, minutes_precede P t.minute u.minute t.second u.second t.microsecond u.microsecond t.second_in u.second_in t.microsecond_in u.microsecond_in (omega arith) p)
      | inr (inl lt) ↦ inl lt
      | inr (inr gt) ↦ absurd (omega (arith, t.minute_in, u.minute_in, t.second_in, u.second_in, t.microsecond_in, u.microsecond_in))
    ]

year_less : (y z : ℤ) (first : ℕ) → pos first ≤ℤ y → y <ℤ z → unsigned_abs y - first < unsigned_abs z - first
year_less (pos n) (pos m) first low less = omega (arith, signed_arith)
year_less (pos n) (negsuc m) first low less = absurd (omega (arith, signed_arith))
year_less (negsuc n) z first low less = absurd (omega (arith, signed_arith))

earlier_precede : (P : Type 0) (first : ℕ) (t u : CivilTime) → pos first ≤ℤ t.date.year → IsEarlier t.date u.date
    → Precede P (numbers_of first t) (numbers_of first u)
earlier_precede P first t u low (inl year) = inl (year_less t.date.year u.date.year first low year)
earlier_precede P first t u low (inr (year, inl month)) = inr (ap (λ y. unsigned_abs y - first) year, inl month)
earlier_precede P first t u low (inr (year, inr day)) = inr (ap (λ y. unsigned_abs y - first) year, inr (day.0, inl day.1))

numbers_precede : (P : Type 0) (first : ℕ) (t u : CivilTime) → pos first ≤ℤ t.date.year → micros_of t ≤ℤ micros_of u
    → (t.microsecond ≤ u.microsecond → P) → Precede P (numbers_of first t) (numbers_of first u)
numbers_precede P first t u low le p =
    elim (cases_date t.date u.date) [
      | inl earlier ↦ earlier_precede P first t u low earlier
      | inr (inl later) ↦ absurd (omega (arith, signed_arith, epoch_day-lt u.date t.date later, clock_small t, clock_small u))
      | inr (inr same) ↦
          let days = epoch_day_same t.date u.date same.0 same.1 same.2 in
          let clocks : clock_of t ≤ clock_of u = omega (arith, signed_arith, days) in
          inr (ap (λ y. unsigned_abs y - first) same.0, inr (same.1, inr (same.2, clocks_precede P t u clocks p)))
    ]

-- ---- a form's texts

units_rise : (digits unit x y : ℕ) → HasUnit digits unit → x ≤ y → x / unit ≤ y / unit
units_rise digits unit x y (inl h) le = rw h.1 (omega arith)
units_rise digits unit x y (inr (inl h)) le = rw h.1 (omega arith)
units_rise digits unit x y (inr (inr h)) le = rw h.1 (omega arith)

micros_rise : (unit tick : ℕ) → HasTick tick unit → (m l z w : ℤ) → m ≤ℤ l → z ≡ m *ℤ pos tick → w ≡ l *ℤ pos tick → z ≤ℤ w
micros_rise unit tick (inl t) m l z w le a b =
    let p : z ≡ m *ℤ pos 1 = rw t at a in
    let q : w ≡ l *ℤ pos 1 = rw t at b in
    omega (arith, signed_arith)
micros_rise unit tick (inr t) m l z w le a b =
    let p : z ≡ m *ℤ pos 1000 = rw t.0 at a in
    let q : w ≡ l *ℤ pos 1000 = rw t.0 at b in
    omega (arith, signed_arith)

six_numbers : (s : Shape) (first : ℕ) (t : CivilTime) → length (numbers_of first t) ≡ length (fields_of s)
six_numbers Dashed first t = refl
six_numbers Lettered first t = refl
six_numbers Bracketed first t = refl
six_numbers Slashed first t = refl
six_numbers Short first t = refl

form_rise : (form : Form) → IsSound form → (m l : ℤ) (text other : List ℕ) → m ≤ℤ l → PrintsForm form m text → PrintsForm form l other → IsNotAbove text other
form_rise form s m l text other le a b =
    let t = a.0 in
    let u = b.0 in
    let first = first_year form.shape in
    let x = t.microsecond / form.unit in
    let y = u.microsecond / form.unit in
    let tails : t.microsecond ≤ u.microsecond → IsNotAbove (tail_text form x) (tail_text form y) = λ less.
    fraction_rise form.fraction x y (units_rise (digits_of form.fraction) form.unit t.microsecond u.microsecond s.unit less)
    (units_below form s u.microsecond u.microsecond_in) (byte_text form.close) in
    let order = numbers_precede (IsNotAbove (tail_text form x) (tail_text form y)) first t u (a.2).from_year
    (micros_rise form.unit form.tick s.tick m l _ _ le a.1 b.1) tails in
    let rise : IsNotAbove (text_of form t) (text_of form u) =
    fields_rise (fields_of form.shape) (numbers_of first t) (numbers_of first u) (tail_text form x) (tail_text form y)
    (six_numbers form.shape first t) (within_shape form.shape u (b.2).from_year (b.2).to_year) order in
    subst (λ z. IsNotAbove z other) (sym a.3) (subst (λ z. IsNotAbove (text_of form t) z) (sym b.3) rise)

pub texts_rise : TextsRise
texts_rise k m l text other le a b =
    let theirs = rw (IsForm_same k b.0 a.0 b.1 a.1) at b.2 in
    form_rise a.0 (IsForm_sound k a.0 a.1) m l text other le a.2 theirs
