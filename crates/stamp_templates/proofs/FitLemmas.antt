-- What a form prints fits the form's zeros.
use Rattle.std.proofs.Common.{◌≡◌, ℕ, zero, suc, ◌+◌, ◌-◌, ◌%◌, ◌/◌, ◌<◌, List, [], ◌∷◌, ◌++◌, length, drop, refl, sym, ap, subst, ◌∙◌, arith}
use Rattle.std.specs.Prelude.{true, slice_get, slice_index, Option, Some, None}
use Rattle.time_patterns.specs.declared.field.Field.{Field}
use Rattle.time_patterns.specs.declared.form.Form.{Form}
use Rattle.time_patterns.specs.Digits.{byte_text, digits, field_text, fields_text}
use Rattle.time_patterns.specs.Forms.{fields_of, forms, fraction_text, tail_text}
use Rattle.stamp_templates.specs.Laws.{TextsFit}
use Rattle.stamp_templates.specs.Templates.{Fits, allows, zeros_of, zeros_of_some}

-- byte by byte
abbrev Each : List ℕ → List ℕ → Type 0
Each [] [] = Unit {0}
Each [] (c ∷ text) = ⊥
Each (b ∷ slots) [] = ⊥
Each (b ∷ slots) (c ∷ text) = (allows b c ≡ true) × Each slots text

each_append : (a x b y : List ℕ) → Each a x → Each b y → Each (a ++ b) (x ++ y)
each_append [] [] b y h j = j
each_append [] (c ∷ x) b y h j = absurd h
each_append (s ∷ a) [] b y h j = absurd h
each_append (s ∷ a) (c ∷ x) b y h j = (h.0, each_append a x b y h.1 j)

each_length : (a x : List ℕ) → Each a x → length x ≡ length a
each_length [] [] h = refl
each_length [] (c ∷ x) h = absurd h
each_length (s ∷ a) [] h = absurd h
each_length (s ∷ a) (c ∷ x) h = ap suc (each_length a x h.1)

each_at : (a x : List ℕ) → Each a x → (i : ℕ) → i < length x → allows (slice_index a i) (slice_index x i) ≡ true
each_at [] [] h i small = absurd (omega (arith, small))
each_at [] (c ∷ x) h i small = absurd h
each_at (s ∷ a) [] h i small = absurd h
each_at (s ∷ a) (c ∷ x) h zero small = h.0
each_at (s ∷ a) (c ∷ x) h (suc i) small = each_at a x h.1 i (omega (arith, small))

fits_of : (a x : List ℕ) → Each a x → Fits a x
fits_of a x h = let same = each_length a x h in (same, λ i small. each_at a x h i small)

-- ---- bytes and digits

allows_digit : (x : ℕ) → allows 48 (48 + x % 10) ≡ true
allows_digit x = grind arith

allows_itself : (b : ℕ) → allows b b ≡ true
allows_itself b = grind arith

digits_each : (n x : ℕ) → Each (digits n 0) (digits n x)
unfolding digits
digits_each zero x = tt
digits_each (suc n) x = each_append (digits n 0) (digits n (x / 10)) (48 ∷ []) ((48 + x % 10) ∷ []) (digits_each n (x / 10)) (allows_digit x, tt)

byte_each : (o : Option ℕ) → Each (byte_text o) (byte_text o)
byte_each None = tt
byte_each (Some b) = (allows_itself b, tt)

field_each : (f : Field) (x : ℕ) → Each (field_text f 0) (field_text f x)
field_each f x = each_append (byte_text f.before) (byte_text f.before) (digits f.digits 0) (digits f.digits x) (byte_each f.before) (digits_each f.digits x)

fields_each : (fs : List Field) (xs : List ℕ) → Each (fields_text fs []) (fields_text fs xs)
unfolding fields_text
fields_each [] xs = tt
fields_each (f ∷ fs) xs =
    each_append (field_text f 0) (field_text f (slice_index xs 0)) (fields_text fs []) (fields_text fs (drop 1 xs))
    (field_each f (slice_index xs 0)) (fields_each fs (drop 1 xs))

fraction_each : (o : Option Field) (n : ℕ) → Each (fraction_text o 0) (fraction_text o n)
fraction_each None n = tt
fraction_each (Some f) n = field_each f n

-- ---- a form's text

form_each : (form : Form) (xs : List ℕ) (n : ℕ) → Each (zeros_of form) (fields_text (fields_of form.shape) xs ++ tail_text form n)
form_each form xs n =
    each_append (fields_text (fields_of form.shape) []) (fields_text (fields_of form.shape) xs) (tail_text form 0) (tail_text form n)
    (fields_each (fields_of form.shape) xs)
    (each_append (fraction_text form.fraction 0) (fraction_text form.fraction n) (byte_text form.close) (byte_text form.close)
    (fraction_each form.fraction n) (byte_each form.close))

less_one : (k : ℕ) → suc k - 1 ≡ k
less_one k = omega arith

pub texts_fit : TextsFit
texts_fit zero m stamp p = absurd (omega (arith, p.1.0))
texts_fit (suc k) m stamp p =
    let form : Form = p.0 in
    let is : slice_get forms k ≡ Some form = ap (λ i. slice_get forms i) (sym (less_one k)) ∙ p.1.1 in
    let fits : Fits (zeros_of form) stamp = subst (Fits (zeros_of form)) (sym p.2.3) (fits_of (zeros_of form) _ (form_each form _ _)) in
    subst (λ o. Fits (zeros_of_some o) stamp) (sym is) fits
