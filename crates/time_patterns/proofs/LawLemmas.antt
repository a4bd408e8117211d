-- The laws of the patterns' texts.
use Rattle.std.proofs.Common.{◌≡◌, ℕ, zero, suc, ◌+◌, ◌-◌, ◌%◌, ◌/◌, ◌≤◌, Bool, true, false, ◌&&◌, List, [], ◌∷◌, ◌++◌, length, drop, Option, Some, None, ℤ, pos, negsuc, ◌≤ℤ◌, unsigned_abs, refl, sym, ap, ap₂, ◌∙◌, arith}
use Rattle.std.specs.Prelude.{IsTrue, slice_index}
use Rattle.std.specs.List.{AllByRecursion, list_all}
use Rattle.std.specs.Int.{is_in_range}
use Rattle.std.proofs.lemmas.Bool.Decides.{nat_tests}
use Rattle.std.proofs.lemmas.List.{length-append}
use Rattle.std.proofs.lemmas.List.Elements.{All-from_recursion}
use Rattle.jiff_core.proofs.SignedLemmas.{signed_arith}
use Rattle.time_patterns.specs.declared.civil_time.CivilTime.{CivilTime}
use Rattle.time_patterns.specs.declared.field.Field.{Field}
use Rattle.time_patterns.specs.declared.form.Form.{Form}
use Rattle.time_patterns.specs.declared.shape.Shape.{Shape}
use Rattle.time_patterns.specs.declared.shape.Shape.TheVariants.{Dashed, Lettered, Bracketed, Slashed, Short}
use Rattle.time_patterns.specs.CivilTime.{numbers_of}
use Rattle.time_patterns.specs.Digits.{digits, byte_text, field_text, fields_text}
use Rattle.time_patterns.specs.Forms.{fields_of, first_year, forms, fraction_text, six_forms, tail_text, ten_forms, text_of, IsTimeOf, PrintsForm}
use Rattle.time_patterns.specs.Laws.{OneMoment, OneText, ShortTexts, is_stamp_byte}
use Rattle.time_patterns.specs.Stamps.{Prints}
use Rattle.time_patterns.specs.Steps.{IsSound}
use Rattle.time_patterns.proofs.CivilLemmas.{AreSame, micros_of-injective, micros_of_same, numbers_of_same}
use Rattle.time_patterns.proofs.FieldLemmas.{fields_text-injective}
use Rattle.time_patterns.proofs.PlaceLemmas.{AllByRecursion-slice_get, in_all, IsForm_same, IsForm_sound}
use Rattle.time_patterns.proofs.ShapeLemmas.{length-shape, shape_len, shape_len-bounds, within_shape}
use Rattle.time_patterns.proofs.TailLemmas.{fraction_len, length-fraction_text, same_moment, short_tail, tail_tells, units_below, units_tell}

same_year : (y z : ℤ) (first : ℕ) → pos first ≤ℤ y → pos first ≤ℤ z → unsigned_abs y - first ≡ unsigned_abs z - first → y ≡ z
same_year (pos n) (pos m) first h j same = let e : n ≡ m = omega (arith, signed_arith) in ap pos e
same_year (pos n) (negsuc m) first h j same = absurd (omega (arith, signed_arith))
same_year (negsuc n) (pos m) first h j same = absurd (omega (arith, signed_arith))
same_year (negsuc n) (negsuc m) first h j same = absurd (omega (arith, signed_arith))

-- times of a form that are written with the same numbers and the same fraction have the same parts
same_numbers : (form : Form) → IsSound form → (a b : CivilTime) → IsTimeOf form a → IsTimeOf form b
    → numbers_of (first_year form.shape) a ≡ numbers_of (first_year form.shape) b → a.microsecond / form.unit ≡ b.microsecond / form.unit → AreSame a b
same_numbers form s a b h j same fraction =
    let first = first_year form.shape in
    let years : unsigned_abs a.date.year - first ≡ unsigned_abs b.date.year - first = cc same in
    record {
      year = same_year a.date.year b.date.year first h.from_year j.from_year years;
      month = cc same;
      day = cc same;
      hour = cc same;
      minute = cc same;
      second = cc same;
      microsecond = units_tell form s a.microsecond b.microsecond h.unit j.unit fraction;
    }

printed_once : (form : Form) → IsSound form → (m l : ℤ) (text : List ℕ) → PrintsForm form m text → PrintsForm form l text → m ≡ l
printed_once form s m l text a b =
    let t = a.0 in
    let u = b.0 in
    let xs = numbers_of (first_year form.shape) t in
    let ys = numbers_of (first_year form.shape) u in
    let both = fields_text-injective (fields_of form.shape) xs ys (tail_text form (t.microsecond / form.unit)) (tail_text form (u.microsecond / form.unit))
    (within_shape form.shape t (a.2).from_year (a.2).to_year) (within_shape form.shape u (b.2).from_year (b.2).to_year) refl (sym a.3 ∙ b.3) in
    let fraction = tail_tells form (t.microsecond / form.unit) (u.microsecond / form.unit)
    (units_below form s t.microsecond t.microsecond_in) (units_below form s u.microsecond u.microsecond_in) both.1 in
    let parts = same_numbers form s t u a.2 b.2 both.0 fraction in
    same_moment form.unit form.tick s.tick m l _ a.1 (micros_of_same t u parts ∙ b.1)

pub one_moment : OneMoment
one_moment k m l text a b =
    let theirs = rw (IsForm_same k b.0 a.0 b.1 a.1) at b.2 in
    printed_once a.0 (IsForm_sound k a.0 a.1) m l text a.2 theirs

pub one_text : OneText
one_text k m text other a b =
    let form = a.0 in
    let first = first_year form.shape in
    let theirs = rw (IsForm_same k b.0 form b.1 a.1) at b.2 in
    let t = a.2.0 in
    let u = theirs.0 in
    let same = micros_of-injective t u (a.2.1 ∙ sym theirs.1) in
    a.2.3
    ∙ ap₂ (λ xs n. fields_text (fields_of form.shape) xs ++ tail_text form n) (numbers_of_same first t u same) (ap (λ n. n / form.unit) same.microsecond)
    ∙ sym theirs.3

abbrev pub form_len : Form → ℕ
form_len form = shape_len form.shape + (fraction_len form.fraction + length (byte_text form.close))

pub length-text_of : (form : Form) (t : CivilTime) → length (text_of form t) ≡ form_len form
length-text_of form t =
    let xs = numbers_of (first_year form.shape) t in
    let n = t.microsecond / form.unit in
    omega (
      arith,
      length-append (fields_text (fields_of form.shape) xs) (tail_text form n),
      length-shape form.shape xs,
      length-append (fraction_text form.fraction n) (byte_text form.close),
      length-fraction_text form.fraction n,
    )

-- the texts of a form are equally long
pub same_length : (k : ℕ) (m l : ℤ) (text other : List ℕ) → Prints k m text → Prints k l other → length text ≡ length other
same_length k m l text other a b =
    let form = a.0 in
    let theirs = rw (IsForm_same k b.0 form b.1 a.1) at b.2 in
    ap length a.2.3 ∙ length-text_of form a.2.0 ∙ sym (length-text_of form theirs.0) ∙ sym (ap length theirs.3)

abbrev pub IsByte : ℕ → Type 0
IsByte b = IsTrue (is_stamp_byte b)

and_split : (a b : Bool) → (a && b) ≡ true → (a ≡ true) × (b ≡ true)
and_split true b h = (refl, h)
and_split false b h = cc

bytes_from_test : (xs : List ℕ) → list_all is_stamp_byte xs ≡ true → AllByRecursion IsByte xs
bytes_from_test [] h = tt
bytes_from_test (x ∷ xs) h =
    let both = and_split (is_stamp_byte x) (list_all is_stamp_byte xs) h in (both.0, bytes_from_test xs both.1)

bytes-append : (xs ys : List ℕ) → AllByRecursion IsByte xs → AllByRecursion IsByte ys → AllByRecursion IsByte (xs ++ ys)
bytes-append [] ys h j = j
bytes-append (x ∷ xs) ys h j = (h.0, bytes-append xs ys h.1 j)

digit_test : (b : ℕ) → 48 ≤ b → b ≤ 57 → is_in_range 48 57 b ≡ true
digit_test b h j = grind (arith, nat_tests)

digit_byte : (x : ℕ) → IsByte (48 + x % 10)
digit_byte x =
    let small : 48 + x % 10 ≤ 57 = omega arith in
    rw (digit_test (48 + x % 10) (omega arith) small) refl

bytes-digits : (n x : ℕ) → AllByRecursion IsByte (digits n x)
unfolding digits
bytes-digits zero x = tt
bytes-digits (suc n) x = bytes-append (digits n (x / 10)) ((48 + x % 10) ∷ []) (bytes-digits n (x / 10)) (digit_byte x, tt)

abbrev before_test : Field → Bool
before_test f = list_all is_stamp_byte (byte_text f.before)

bytes-fields_text : (fs : List Field) (xs : List ℕ) → list_all before_test fs ≡ true → AllByRecursion IsByte (fields_text fs xs)
unfolding fields_text
bytes-fields_text [] xs h = tt
bytes-fields_text (f ∷ fs) xs h =
    let both = and_split (before_test f) (list_all before_test fs) h in
    let x = slice_index xs 0 in
    bytes-append (field_text f x) (fields_text fs (drop 1 xs))
    (bytes-append (byte_text f.before) (digits f.digits x) (bytes_from_test (byte_text f.before) both.0) (bytes-digits f.digits x))
    (bytes-fields_text fs (drop 1 xs) both.1)

shape_test : (s : Shape) → list_all before_test (fields_of s) ≡ true
shape_test Dashed = refl
shape_test Lettered = refl
shape_test Bracketed = refl
shape_test Slashed = refl
shape_test Short = refl

abbrev fraction_test : Option Field → Bool
fraction_test None = true
fraction_test (Some f) = before_test f

bytes-fraction_text : (f : Option Field) (n : ℕ) → fraction_test f ≡ true → AllByRecursion IsByte (fraction_text f n)
bytes-fraction_text None n h = tt
bytes-fraction_text (Some f) n h =
    bytes-append (byte_text f.before) (digits f.digits n) (bytes_from_test (byte_text f.before) h) (bytes-digits f.digits n)

-- a form's fixed bytes are ones that a stamp may have
abbrev form_test : Form → Bool
form_test form = fraction_test form.fraction && list_all is_stamp_byte (byte_text form.close)

abbrev HasBytes : Form → Type 0
HasBytes form = form_test form ≡ true

ten_bytes : (tick : ℕ) → AllByRecursion HasBytes (ten_forms tick)
ten_bytes tick = (refl, (refl, (refl, (refl, (refl, (refl, (refl, (refl, (refl, (refl, tt))))))))))

six_bytes : AllByRecursion HasBytes six_forms
six_bytes = (refl, (refl, (refl, (refl, (refl, (refl, tt))))))

pub short_texts : ShortTexts
short_texts k m text a =
    let form = a.0 in
    let t = a.2.0 in
    let xs = numbers_of (first_year form.shape) t in
    let n = t.microsecond / form.unit in
    let fixed = AllByRecursion-slice_get HasBytes forms (k - 1) form a.1.1 (in_all HasBytes (ten_bytes 1000) six_bytes (ten_bytes 1)) in
    let parts = and_split (fraction_test form.fraction) (list_all is_stamp_byte (byte_text form.close)) fixed in
    let tail = bytes-append (fraction_text form.fraction n) (byte_text form.close) (bytes-fraction_text form.fraction n parts.0) (bytes_from_test (byte_text form.close) parts.1) in
    let bytes = bytes-append (fields_text (fields_of form.shape) xs) (tail_text form n) (bytes-fields_text (fields_of form.shape) xs (shape_test form.shape)) tail in
    let long : length text ≡ length (fields_text (fields_of form.shape) xs) + length (tail_text form n) = ap length a.2.3 ∙ length-append (fields_text (fields_of form.shape) xs) (tail_text form n) in
    let front = length-shape form.shape xs in
    let bounds = shape_len-bounds form.shape in
    let short = short_tail form (IsForm_sound k form a.1) n in
    (omega arith, omega arith, All-from_recursion IsByte text (rw a.2.3 bytes))
