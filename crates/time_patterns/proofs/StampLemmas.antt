-- The stamp of a line, by what its front was read as.
use Rattle.std.proofs.Common.{◌≡◌, ℕ, ◌+◌, ◌/◌, ◌≤◌, inl, inr, List, ◌++◌, length, Option, Some, None, ℤ, pos, ◌*ℤ◌, ◌≤ℤ◌, refl, sym, ap, ◌∙◌, subst, arith, append_assoc}
use Rattle.std.specs.Prelude.{◌↔◌, IfSome, IfNone}
use Rattle.std.proofs.lemmas.Bool.{cases_lt}
use Rattle.std.proofs.lemmas.List.{length-append}
use Rattle.time_patterns.specs.declared.civil_time.CivilTime.{CivilTime}
use Rattle.time_patterns.specs.declared.form.Form.{Form}
use Rattle.time_patterns.specs.declared.shape.Shape.{Shape}
use Rattle.time_patterns.specs.CivilTime.{micros_of, numbers_of}
use Rattle.time_patterns.specs.Digits.{fields_text, AreWithin}
use Rattle.time_patterns.specs.Forms.{fields_of, first_year, tail_text, text_of, IsForm, IsTimeOf}
use Rattle.time_patterns.specs.Stamps.{EndsStamp, Fits, IsPrintable, IsStampOf, HasNoStamp, first_pattern, last_pattern}
use Rattle.time_patterns.specs.declared.stamps.Stamp.{Stamp}
use Rattle.time_patterns.specs.Steps.{counts_of, IsFirstFit, IsFirstTail, IsTail, LacksTail, LackTails, NoneFits}
use Rattle.time_patterns.proofs.CivilLemmas.{micros_of-injective, IsTimeOf_same}
use Rattle.time_patterns.proofs.FieldLemmas.{fields_text-injective}
use Rattle.time_patterns.proofs.PlaceLemmas.{IsForm_same, IsForm_sound}
use Rattle.time_patterns.proofs.ShapeLemmas.{within_shape, in_years, length-shape, shape_len-bounds}
use Rattle.time_patterns.proofs.TailLemmas.{short_tail}

-- the line begins with the fields of the shape
pub record BeginsAs (s : Shape) (line : List ℕ) : Type 0 where
  pub numbers : List ℕ
  pub rest : List ℕ
  pub is : line ≡ fields_text (fields_of s) numbers ++ rest

-- a line that a pattern fits begins with the fields of its shape
abbrev pub begins_as : (line : List ℕ) (k : ℕ) (m : ℤ) (n : ℕ) → (fits : Fits line k m n) → BeginsAs (fits.1.0).shape line
begins_as line k m n fits =
    let form = fits.1.0 in
    let t = fits.1.2.0 in
    let xs = numbers_of (first_year form.shape) t in
    let tail = tail_text form (t.microsecond / form.unit) in
    record {
      numbers = xs;
      rest = tail ++ fits.2.0;
      is = fits.2.1 ∙ ap (λ x. x ++ fits.2.0) fits.1.2.3 ∙ append_assoc (fields_text (fields_of form.shape) xs) tail fits.2.0;
    }

-- what was read at the front of the line: the only shape that can stand there, and its numbers
pub record Front (shape : Shape) (line numbers behind : List ℕ) : Type 0 where
  pub only : (s : Shape) (xs rest : List ℕ) → line ≡ fields_text (fields_of s) xs ++ rest → Some shape ≡ Some s
  pub read : line ≡ fields_text (fields_of shape) numbers ++ behind
  pub within : AreWithin (counts_of (fields_of shape)) numbers
  pub six : length numbers ≡ 6

-- a pattern that fits the line has that shape, a time with these numbers, and a tail behind them
pub record FitsThere (shape : Shape) (numbers behind : List ℕ) (k : ℕ) : Type 0 where
  pub form : Form
  pub is : IsForm k form
  pub same : form.shape ≡ shape
  pub time : CivilTime
  pub from : pos (first_year shape) ≤ℤ time.date.year
  pub numbers_are : numbers_of (first_year shape) time ≡ numbers
  pub units : ℕ
  pub rest : List ℕ
  pub tail : behind ≡ tail_text form units ++ rest
  pub ends : EndsStamp rest

there : (line numbers behind : List ℕ) (k : ℕ) (m : ℤ) (n : ℕ) → (fits : Fits line k m n)
    → line ≡ fields_text (fields_of (fits.1.0).shape) numbers ++ behind → AreWithin (counts_of (fields_of (fits.1.0).shape)) numbers → length numbers ≡ 6
    → FitsThere (fits.1.0).shape numbers behind k
there line numbers behind k m n fits read within six =
    let form = fits.1.0 in
    let t = fits.1.2.0 in
    let time = fits.1.2.2 in
    let begins = begins_as line k m n fits in
    let both = fields_text-injective (fields_of form.shape) numbers begins.numbers behind begins.rest within (within_shape form.shape t time.from_year time.to_year) six (sym read ∙ begins.is) in
    record {
      form = form;
      is = fits.1.1;
      same = refl;
      time = t;
      from = time.from_year;
      numbers_are = sym both.0;
      units = t.microsecond / form.unit;
      rest = fits.2.0;
      tail = both.1;
      ends = fits.2.2;
    }

pub fits_there : (shape : Shape) (line numbers behind : List ℕ) → Front shape line numbers behind → (k : ℕ) (m : ℤ) (n : ℕ) → Fits line k m n → FitsThere shape numbers behind k
fits_there shape line numbers behind front k m n fits =
    let begins = begins_as line k m n fits in
    let told : Some shape ≡ Some (fits.1.0).shape = front.only (fits.1.0).shape begins.numbers begins.rest begins.is in
    let same : shape ≡ (fits.1.0).shape = cc in
    subst (λ s. FitsThere s numbers behind k) (sym same)
    (there line numbers behind k m n fits (subst (λ s. line ≡ fields_text (fields_of s) numbers ++ behind) same front.read) (subst (λ s. AreWithin (counts_of (fields_of s)) numbers) same front.within) front.six)

-- where the shape's numbers are those of no time, nothing fits
pub no_time : (shape : Shape) (line numbers behind : List ℕ) → Front shape line numbers behind
    → ((t : CivilTime) → pos (first_year shape) ≤ℤ t.date.year → ¬ (numbers_of (first_year shape) t ≡ numbers))
    → (first end : ℕ) → NoneFits first end line
no_time shape line numbers behind front none first end k m n from to fits =
    let there = fits_there shape line numbers behind front k m n fits in
    none there.time there.from there.numbers_are

-- nor where no tail stands behind them
pub no_tail : (shape : Shape) (line numbers behind : List ℕ) → Front shape line numbers behind
    → (first end : ℕ) → LackTails shape first end behind → NoneFits first end line
no_tail shape line numbers behind front first end lack k m n from to fits =
    let there = fits_there shape line numbers behind front k m n fits in
    lack k there.form from to there.is there.same there.units there.rest there.tail there.ends

here : (form : Form) (k : ℕ) → IsForm k form → (line numbers behind : List ℕ)
    → line ≡ fields_text (fields_of form.shape) numbers ++ behind → AreWithin (counts_of (fields_of form.shape)) numbers
    → (t : CivilTime) → pos (first_year form.shape) ≤ℤ t.date.year → numbers_of (first_year form.shape) t ≡ numbers
    → (rest : List ℕ) → IsTail form behind t.microsecond rest
    → (moment : ℤ) → micros_of t ≡ moment *ℤ pos form.tick → (n : ℕ) → n + length rest ≡ length line
    → Fits line k moment n
here form k is line numbers behind read within t from same rest tail moment count n long =
    let front = fields_text (fields_of form.shape) in
    let xs = numbers_of (first_year form.shape) t in
    let last = tail_text form (t.microsecond / form.unit) in
    let cut : line ≡ text_of form t ++ rest =
    read ∙ ap (λ l. front numbers ++ l) tail.is ∙ ap (λ ys. front ys ++ (last ++ rest)) (sym same) ∙ sym (append_assoc (front xs) last rest) in
    let time : IsTimeOf form t = record {
      from_year = from;
      to_year = in_years form.shape t from (rw same within);
      unit = tail.whole;
    } in (
      text_of form t,
      (form, is, (t, count, time, refl)),
      (rest, cut, tail.ends, omega (arith, ap length cut, length-append (text_of form t) rest)),
    )

-- the first pattern whose tail stands behind the numbers of a time is the first that fits
pub first_fit : (shape : Shape) (line numbers behind : List ℕ) → Front shape line numbers behind
    → (t : CivilTime) → pos (first_year shape) ≤ℤ t.date.year → numbers_of (first_year shape) t ≡ numbers
    → (first end k tick microsecond : ℕ) (rest : List ℕ) → IsFirstTail shape first end behind k tick microsecond rest → t.microsecond ≡ microsecond
    → (moment : ℤ) → micros_of t ≡ moment *ℤ pos tick → (n : ℕ) → n + length rest ≡ length line
    → IsFirstFit first end line k moment n
first_fit shape line numbers behind front t from same first end k tick microsecond rest found micro moment count n long =
    let form = found.form in
    let back = sym found.same in
    record {
      from = found.from;
      to = found.to;
      fits = here form k found.is line numbers behind
          (subst (λ s. line ≡ fields_text (fields_of s) numbers ++ behind) back front.read)
          (subst (λ s. AreWithin (counts_of (fields_of s)) numbers) back front.within)
          t
          (subst (λ s. pos (first_year s) ≤ℤ t.date.year) back from)
          (subst (λ s. numbers_of (first_year s) t ≡ numbers) back same)
          rest
          (subst (λ u. IsTail form behind u rest) (sym micro) found.tail)
          moment
          (subst (λ u. micros_of t ≡ moment *ℤ pos u) found.tick_is count)
          n
          long;
      least = no_tail shape line numbers behind front first k found.least;
    }

-- and the stamp is short
pub short_stamp : (shape : Shape) (line numbers behind : List ℕ) → Front shape line numbers behind
    → (first end k tick microsecond : ℕ) (rest : List ℕ) → IsFirstTail shape first end behind k tick microsecond rest
    → (length rest ≤ length line) × (length line ≤ 28 + length rest)
short_stamp shape line numbers behind front first end k tick microsecond rest found =
    let form = found.form in
    let fields = fields_text (fields_of shape) numbers in
    let last = tail_text form (microsecond / form.unit) in
    let cut : length line ≡ length fields + length behind = ap length front.read ∙ length-append fields behind in
    let tail : length behind ≡ length last + length rest = ap length found.tail.is ∙ length-append last rest in
    let short : length last ≤ 8 = short_tail form (IsForm_sound k form found.is) (microsecond / form.unit) in
    let long : length fields ≤ 20 = omega (arith, length-shape shape numbers, shape_len-bounds shape) in
    (omega arith, omega arith)

-- one pattern more that has another shape, or no tail there
pub lack_more : (shape : Shape) (first p : ℕ) (text : List ℕ) → LackTails shape first p text
    → (form : Form) → IsForm p form → (form.shape ≡ shape → LacksTail form text) → LackTails shape first (p + 1) text
lack_more shape first p text before form is none k other low high theirs same =
    elim (cases_lt k p) [
      | inl lt ↦ before k other low lt theirs same
      | inr ge ↦
          let here : k ≡ p = omega arith in
          let one : form ≡ other = IsForm_same p form other is (subst (λ j. IsForm j other) here theirs) in
          subst (λ (f : Form). f.shape ≡ shape → LacksTail f text) one none same
    ]

-- of a version's patterns the first that fits gives the stamp
pub stamp_of : (version : ℕ) (line : List ℕ) (o : Option Stamp)
    → IfSome o (λ s. IsFirstFit (first_pattern version) (last_pattern version + 1) line s.pattern s.moment s.len)
    → IfSome o (λ s. IsStampOf version line s.pattern s.moment s.len)
stamp_of version line None h = tt
stamp_of version line (Some s) h = record {
  pattern = (h.from, omega (arith, h.to));
  fits = h.fits;
  least = λ j m l is lt. h.least j m l is.0 lt;
}

pub no_stamp : (version : ℕ) (line : List ℕ) (o : Option Stamp)
    → IfNone o (NoneFits (first_pattern version) (last_pattern version + 1) line) → IfNone o (HasNoStamp version line)
no_stamp version line None h = λ k m n is. h k m n is.0 (omega (arith, is.1))
no_stamp version line (Some s) h = tt

-- a time of a moment is one of the form's exactly where the pattern prints the moment
pub printable : (k : ℕ) (form : Form) → IsForm k form → (m : ℤ) (t : CivilTime) → micros_of t ≡ m *ℤ pos form.tick → IsTimeOf form t ↔ IsPrintable k m
printable k form is m t e = (
  λ shown. (text_of form t, (form, is, (t, e, shown, refl))),
  λ printed.
      let theirs = subst (λ (f : Form). (u : CivilTime) × (micros_of u ≡ m *ℤ pos f.tick) × IsTimeOf f u) (IsForm_same k printed.1.0 form printed.1.1 is) (printed.1.2.0, printed.1.2.1, printed.1.2.2) in
      IsTimeOf_same form t theirs.0 (micros_of-injective t theirs.0 (e ∙ sym theirs.1)) theirs.2,
)
