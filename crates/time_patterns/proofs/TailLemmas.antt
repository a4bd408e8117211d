-- What stands behind the seconds of a stamp.
use Rattle.std.proofs.Common.{◌≡◌, ℕ, ◌+◌, ◌*◌, ◌/◌, ◌%◌, ◌^◌, ◌<◌, ◌≤◌, ◌⊎◌, inl, inr, List, ◌++◌, length, Option, Some, None, ℤ, pos, ◌*ℤ◌, refl, sym, ◌∙◌, arith, append_assoc}
use Rattle.std.proofs.lemmas.List.{append_cancel_left, length-append}
use Rattle.jiff_core.proofs.SignedLemmas.{signed_arith}
use Rattle.time_patterns.specs.declared.field.Field.{Field}
use Rattle.time_patterns.specs.declared.form.Form.{Form}
use Rattle.time_patterns.specs.Digits.{byte_text, digits}
use Rattle.time_patterns.specs.Forms.{fraction_text, tail_text}
use Rattle.time_patterns.specs.Steps.{digits_of, HasTick, HasUnit, IsSound}
use Rattle.time_patterns.proofs.DigitLemmas.{append_split, digits-injective}
use Rattle.time_patterns.proofs.FieldLemmas.{length-field_text, length-byte_text}

-- a fraction is equally long at each number, and short
abbrev pub fraction_len : Option Field → ℕ
fraction_len None = 0
fraction_len (Some f) = length (byte_text f.before) + f.digits

pub length-fraction_text : (f : Option Field) (x : ℕ) → length (fraction_text f x) ≡ fraction_len f
length-fraction_text None x = refl
length-fraction_text (Some f) x = length-field_text f x

pub short_fraction : (f : Option Field) → fraction_len f ≤ digits_of f + 1
short_fraction None = omega arith
short_fraction (Some f) = omega (arith, length-byte_text f.before)

digits_small : (digits unit : ℕ) → HasUnit digits unit → digits ≤ 6
digits_small digits unit (inl h) = omega (arith, h.0)
digits_small digits unit (inr (inl h)) = omega (arith, h.0)
digits_small digits unit (inr (inr h)) = omega (arith, h.0)

-- six digits at most
pub few_digits : (form : Form) → IsSound form → digits_of form.fraction ≤ 6
few_digits form s = digits_small (digits_of form.fraction) form.unit s.unit

-- a tail has eight bytes at most
pub short_tail : (form : Form) → IsSound form → (x : ℕ) → length (tail_text form x) ≤ 8
short_tail form s x =
    omega (arith, length-append (fraction_text form.fraction x) (byte_text form.close), length-fraction_text form.fraction x, short_fraction form.fraction, few_digits form s, length-byte_text form.close)

-- where a fraction was read, what is behind it is what is behind every fraction there
pub behind_fraction : (form : Form) (n x : ℕ) (text after rest : List ℕ)
    → text ≡ fraction_text form.fraction n ++ after → text ≡ tail_text form x ++ rest → after ≡ byte_text form.close ++ rest
behind_fraction form n x text after rest read is =
    (append_split (fraction_text form.fraction n) (fraction_text form.fraction x) after (byte_text form.close ++ rest)
    (sym read ∙ is ∙ append_assoc (fraction_text form.fraction x) (byte_text form.close) rest)
    (length-fraction_text form.fraction n ∙ sym (length-fraction_text form.fraction x))).1

-- the number of a fraction is a count of units below a second
counted : (digits unit n : ℕ) → HasUnit digits unit → n < 10 ^ digits → (n * unit / unit ≡ n) × (n * unit % unit ≡ 0) × (n * unit < 1_000_000)
counted digits unit n (inl h) small =
    let few : n < 10 ^ 0 = rw h.0 at small in
    let none : n ≡ 0 = omega arith in
    rw (none, h.1) (refl, refl, omega arith)
counted digits unit n (inr (inl h)) small =
    let few : n < 10 ^ 3 = rw h.0 at small in
    let below : n < 1000 = few in
    rw (h.1) (omega arith, omega arith, omega arith)
counted digits unit n (inr (inr h)) small =
    let few : n < 10 ^ 6 = rw h.0 at small in
    let below : n < 1_000_000 = few in
    rw (h.1) (omega arith, omega arith, omega arith)

pub units : (form : Form) → IsSound form → (n : ℕ) → n < 10 ^ digits_of form.fraction
    → (n * form.unit / form.unit ≡ n) × (n * form.unit % form.unit ≡ 0) × (n * form.unit < 1_000_000)
units form s n small = counted (digits_of form.fraction) form.unit n s.unit small

by_tick : (digits unit tick us : ℕ) → HasUnit digits unit → HasTick tick unit → us % unit ≡ 0 → (tick ≡ 1) ⊎ ((tick ≡ 1000) × (us % 1000 ≡ 0))
by_tick digits unit tick us h (inl t) whole = inl t
by_tick digits unit tick us (inl h) (inr t) whole =
    let million : us % 1_000_000 ≡ 0 = rw h.1 at whole in inr (t.0, omega arith)
by_tick digits unit tick us (inr (inl h)) (inr t) whole = inr (t.0, rw h.1 at whole)
by_tick digits unit tick us (inr (inr h)) (inr t) whole =
    let one : 1 % 1000 ≡ 0 = rw h.1 at t.1 in absurd (omega arith)

-- whole numbers of units are whole numbers of ticks
pub ticks : (form : Form) → IsSound form → (us : ℕ) → us % form.unit ≡ 0 → (form.tick ≡ 1) ⊎ ((form.tick ≡ 1000) × (us % 1000 ≡ 0))
ticks form s us whole = by_tick (digits_of form.fraction) form.unit form.tick us s.unit s.tick whole

below : (digits unit us : ℕ) → HasUnit digits unit → us < 1_000_000 → us / unit < 10 ^ digits
below digits unit us (inl h) small =
    let few : us / 1_000_000 < 1 = omega arith in rw (h.0, h.1) few
below digits unit us (inr (inl h)) small =
    let few : us / 1000 < 1000 = omega arith in rw (h.0, h.1) few
below digits unit us (inr (inr h)) small =
    let few : us / 1 < 1_000_000 = omega arith in rw (h.0, h.1) few

-- microseconds of a second have no more units than the digits can write
pub units_below : (form : Form) → IsSound form → (us : ℕ) → us < 1_000_000 → us / form.unit < 10 ^ digits_of form.fraction
units_below form s us small = below (digits_of form.fraction) form.unit us s.unit small

counts_tell : (digits unit us vs : ℕ) → HasUnit digits unit → us % unit ≡ 0 → vs % unit ≡ 0 → us / unit ≡ vs / unit → us ≡ vs
counts_tell digits unit us vs (inl h) a b same =
    let p : us % 1_000_000 ≡ 0 = rw h.1 at a in
    let q : vs % 1_000_000 ≡ 0 = rw h.1 at b in
    let e : us / 1_000_000 ≡ vs / 1_000_000 = rw h.1 at same in
    omega arith
counts_tell digits unit us vs (inr (inl h)) a b same =
    let p : us % 1000 ≡ 0 = rw h.1 at a in
    let q : vs % 1000 ≡ 0 = rw h.1 at b in
    let e : us / 1000 ≡ vs / 1000 = rw h.1 at same in
    omega arith
counts_tell digits unit us vs (inr (inr h)) a b same =
    let e : us / 1 ≡ vs / 1 = rw h.1 at same in
    omega arith

-- whole numbers of units are told by their counts
pub units_tell : (form : Form) → IsSound form → (us vs : ℕ) → us % form.unit ≡ 0 → vs % form.unit ≡ 0 → us / form.unit ≡ vs / form.unit → us ≡ vs
units_tell form s us vs a b same = counts_tell (digits_of form.fraction) form.unit us vs s.unit a b same

fraction_tells : (f : Option Field) (x y : ℕ) → x < 10 ^ digits_of f → y < 10 ^ digits_of f → fraction_text f x ≡ fraction_text f y → x ≡ y
fraction_tells None x y p q e =
    let a : x < 1 = p in
    let b : y < 1 = q in
    omega arith
fraction_tells (Some f) x y p q e = digits-injective f.digits x y p q (append_cancel_left (byte_text f.before) (digits f.digits x) (digits f.digits y) e)

-- and so are tails
pub tail_tells : (form : Form) (x y : ℕ) → x < 10 ^ digits_of form.fraction → y < 10 ^ digits_of form.fraction → tail_text form x ≡ tail_text form y → x ≡ y
tail_tells form x y p q e =
    let split = append_split (fraction_text form.fraction x) (fraction_text form.fraction y) (byte_text form.close) (byte_text form.close) e
    (length-fraction_text form.fraction x ∙ sym (length-fraction_text form.fraction y)) in
    fraction_tells form.fraction x y p q split.0

-- two moments with the same microseconds are one
pub same_moment : (unit tick : ℕ) → HasTick tick unit → (m l z : ℤ) → z ≡ m *ℤ pos tick → z ≡ l *ℤ pos tick → m ≡ l
same_moment unit tick (inl t) m l z a b =
    let p : z ≡ m *ℤ pos 1 = rw t at a in
    let q : z ≡ l *ℤ pos 1 = rw t at b in
    omega (arith, signed_arith)
same_moment unit tick (inr t) m l z a b =
    let p : z ≡ m *ℤ pos 1000 = rw t.0 at a in
    let q : z ≡ l *ℤ pos 1000 = rw t.0 at b in
    omega (arith, signed_arith)
