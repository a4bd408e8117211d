-- No bytes spell two columns of numbers, nor two fixed parts.
use Rattle.std.proofs.Common.{◌≡◌, ◌<◌, ℕ, ◌+◌, ◌*◌, ◌%◌, ◌/◌, ◌^◌, ℤ, List, [], ◌∷◌, ◌++◌, Bool, true, false, eqb, length, take, drop, get_or, All, refl, sym, ap, ◌∙◌, arith, length-append, to_z-of_z}
use Rattle.std.specs.List.{flat_map}
use Rattle.std.specs.Int.{w64, cast_signed, cast_unsigned}
use Rattle.std.specs.Int.RustNames.{FitsSigned}
use Rattle.std.proofs.Math.Facts.{Fits-of_z}
use Rattle.std.proofs.lemmas.List.{take_at, drop_at}
use Rattle.std.proofs.lemmas.List.Concat.{flat_map-cons}
use Rattle.std.proofs.lemmas.List.Elements.{All-head, All-tail}
use Rattle.byteorder.specs.Endian.{little_bytes, little_number}
use Rattle.byteorder.specs.Numbers.{little_number-reads_back}
use Rattle.record_format.specs.Lists.{four_bytes}
use Rattle.record_format.proofs.ListLemmas.{length-four_bytes, same_number}
use Rattle.segment_format.specs.declared.fixed.Fixed.{Fixed}
use Rattle.segment_format.specs.Layout.{eight_bytes, moment_bytes, flags, fixed_bytes, IsFixed}
use Rattle.segment_format.proofs.FixedLemmas.{length-eight_bytes, length-moment_bytes}

-- ---- parts

pub same_parts : {X : Type 0} (a b x y : List X) → length a ≡ length b → a ++ x ≡ b ++ y → (a ≡ b) × (x ≡ y)
same_parts {X} a b x y long e = (
  sym (take_at a x (length a) refl) ∙ ap (take (length a)) e ∙ take_at b y (length a) (sym long),
  sym (drop_at a x (length a) refl) ∙ ap (drop (length a)) e ∙ drop_at b y (length a) (sym long),
)

-- ---- one number

-- a spelling of n bytes that tells the values that fit
pub record Tells {X : Type 0} (n : ℕ) (spell : X → List ℕ) (Fit : X → Type 0) : Type 0 where
  pub long : (x : X) → length (spell x) ≡ n
  pub once : (x y : X) → Fit x → Fit y → spell x ≡ spell y → x ≡ y

number_once : (x y : ℕ) → x < 2 ^ 32 → y < 2 ^ 32 → four_bytes x ≡ four_bytes y → x ≡ y
number_once x y fit_x fit_y e = (same_number x y [] [] fit_x fit_y (ap (λ (l : List ℕ). l ++ []) e)).0

long_once : (x y : ℕ) → x < 2 ^ 64 → y < 2 ^ 64 → eight_bytes x ≡ eight_bytes y → x ≡ y
unfolding eight_bytes
long_once x y fit_x fit_y e =
    let back : (n : ℕ) → n < 2 ^ 64 → little_number 8 (little_bytes 8 n ++ []) ≡ n = λ n fit. little_number-reads_back 8 n [] fit in
    sym (back x fit_x) ∙ ap (λ (l : List ℕ). little_number 8 (l ++ [])) e ∙ back y fit_y

bits_once : (x y : ℕ) → x < 2 ^ 64 → y < 2 ^ 64 → little_bytes 8 x ≡ little_bytes 8 y → x ≡ y
unfolding eight_bytes
bits_once x y fit_x fit_y e = long_once x y fit_x fit_y e

unsigned_fits : (z : ℤ) → FitsSigned w64 z → cast_unsigned w64 z < 2 ^ 64
unsigned_fits z fit = omega (arith, Fits-of_z {w = w64} {z = z} fit)

moment_once : (x y : ℤ) → FitsSigned w64 x → FitsSigned w64 y → moment_bytes x ≡ moment_bytes y → x ≡ y
unfolding moment_bytes
moment_once x y fit_x fit_y e =
    let bits : cast_unsigned w64 x ≡ cast_unsigned w64 y = bits_once (cast_unsigned w64 x) (cast_unsigned w64 y) (unsigned_fits x fit_x) (unsigned_fits y fit_y) e in
    sym (to_z-of_z {w = w64} {z = x} fit_x) ∙ ap (cast_signed w64) bits ∙ to_z-of_z {w = w64} {z = y} fit_y

pub numbers_tell : Tells 4 four_bytes (λ n. n < 2 ^ 32)
numbers_tell = record { long = length-four_bytes; once = number_once }

pub longs_tell : Tells 8 eight_bytes (λ n. n < 2 ^ 64)
longs_tell = record { long = length-eight_bytes; once = long_once }

pub moments_tell : Tells 8 moment_bytes (FitsSigned w64)
moments_tell = record { long = length-moment_bytes; once = moment_once }

-- ---- a column

pub length_column : {X : Type 0} (n : ℕ) (spell : X → List ℕ) → ((x : X) → length (spell x) ≡ n) → (xs : List X) → length (flat_map spell xs) ≡ n * length xs
length_column n spell long [] = omega arith
length_column n spell long (x ∷ xs) =
    let others = length_column n spell long xs in
    let step : n * length (x ∷ xs) ≡ n + n * length xs = omega arith in
    ap (λ (l : List ℕ). length l) (flat_map-cons spell x xs) ∙ omega (arith, length-append (spell x) (flat_map spell xs), long x, others, step)

pub column_once : {X : Type 0} (n : ℕ) (spell : X → List ℕ) (Fit : X → Type 0) → Tells n spell Fit → (xs ys : List X) → All Fit xs → All Fit ys → length xs ≡ length ys
    → flat_map spell xs ≡ flat_map spell ys → xs ≡ ys
column_once n spell Fit tells [] [] fit_xs fit_ys long e = refl
column_once n spell Fit tells [] (y ∷ ys) fit_xs fit_ys long e = absurd (omega (arith, long))
column_once n spell Fit tells (x ∷ xs) [] fit_xs fit_ys long e = absurd (omega (arith, long))
column_once {X = X} n spell Fit tells (x ∷ xs) (y ∷ ys) fit_xs fit_ys long e =
    let parts = same_parts (spell x) (spell y) (flat_map spell xs) (flat_map spell ys) (tells.long x ∙ sym (tells.long y)) (sym (flat_map-cons spell x xs) ∙ e ∙ flat_map-cons spell y ys) in
    let first : x ≡ y = tells.once x y (All-head Fit x xs fit_xs) (All-head Fit y ys fit_ys) parts.0 in
    let others : xs ≡ ys = column_once n spell Fit tells xs ys (All-tail Fit x xs fit_xs) (All-tail Fit y ys fit_ys) (omega (arith, long)) parts.1 in
    ap (λ (z : X). z ∷ xs) first ∙ ap (λ (l : List X). y ∷ l) others

-- ---- a fixed part

last_told : (l e s : Bool) → eqb (flags l e s % 2) 1 ≡ l
last_told false false false = refl
last_told false false true = refl
last_told false true false = refl
last_told false true true = refl
last_told true false false = refl
last_told true false true = refl
last_told true true false = refl
last_told true true true = refl

ended_told : (l e s : Bool) → eqb (flags l e s / 2 % 2) 1 ≡ e
ended_told false false false = refl
ended_told false false true = refl
ended_told false true false = refl
ended_told false true true = refl
ended_told true false false = refl
ended_told true false true = refl
ended_told true true false = refl
ended_told true true true = refl

stamped_told : (l e s : Bool) → eqb (flags l e s / 4) 1 ≡ s
stamped_told false false false = refl
stamped_told false false true = refl
stamped_told false true false = refl
stamped_told false true true = refl
stamped_told true false false = refl
stamped_told true false true = refl
stamped_told true true false = refl
stamped_told true true true = refl

same_fixed : {f g : Fixed} → f.file ≡ g.file → f.first ≡ g.first → f.rows ≡ g.rows → f.last ≡ g.last → f.ended ≡ g.ended → f.stamped ≡ g.stamped → f.least ≡ g.least
    → f.greatest ≡ g.greatest → f.types ≡ g.types → f.words ≡ g.words → f.variables ≡ g.variables → f ≡ g
same_fixed file first rows last ended stamped least greatest types words variables = λ i. record {
  file = file i;
  first = first i;
  rows = rows i;
  last = last i;
  ended = ended i;
  stamped = stamped i;
  least = least i;
  greatest = greatest i;
  types = types i;
  words = words i;
  variables = variables i;
}

pub fixed_once : (f g : Fixed) → IsFixed f → IsFixed g → fixed_bytes f ≡ fixed_bytes g → f ≡ g
unfolding fixed_bytes
fixed_once f g is_f is_g e =
    let fours : (x y : ℕ) (r s : List ℕ) → four_bytes x ++ r ≡ four_bytes y ++ s → (four_bytes x ≡ four_bytes y) × (r ≡ s) =
    λ x y r s h. same_parts (four_bytes x) (four_bytes y) r s (length-four_bytes x ∙ sym (length-four_bytes y)) h in
    let eights : (x y : ℕ) (r s : List ℕ) → eight_bytes x ++ r ≡ eight_bytes y ++ s → (eight_bytes x ≡ eight_bytes y) × (r ≡ s) =
    λ x y r s h. same_parts (eight_bytes x) (eight_bytes y) r s (length-eight_bytes x ∙ sym (length-eight_bytes y)) h in
    let moments : (x y : ℤ) (r s : List ℕ) → moment_bytes x ++ r ≡ moment_bytes y ++ s → (moment_bytes x ≡ moment_bytes y) × (r ≡ s) =
    λ x y r s h. same_parts (moment_bytes x) (moment_bytes y) r s (length-moment_bytes x ∙ sym (length-moment_bytes y)) h in
    let p1 = fours f.file g.file _ _ e in
    let p2 = eights f.first g.first _ _ p1.1 in
    let p3 = fours f.rows g.rows _ _ p2.1 in
    let b : flags f.last f.ended f.stamped ≡ flags g.last g.ended g.stamped = ap (λ (l : List ℕ). get_or l 0 0) p3.1 in
    let p5 = moments f.least g.least _ _ (ap (drop 1) p3.1) in
    let p6 = moments f.greatest g.greatest _ _ p5.1 in
    let p7 = fours f.types g.types _ _ p6.1 in
    let p8 = fours f.words g.words _ _ p7.1 in
    same_fixed
    (number_once f.file g.file is_f.file is_g.file p1.0)
    (long_once f.first g.first is_f.first is_g.first p2.0)
    (number_once f.rows g.rows is_f.rows is_g.rows p3.0)
    (sym (last_told f.last f.ended f.stamped) ∙ ap (λ (n : ℕ). eqb (n % 2) 1) b ∙ last_told g.last g.ended g.stamped)
    (sym (ended_told f.last f.ended f.stamped) ∙ ap (λ (n : ℕ). eqb (n / 2 % 2) 1) b ∙ ended_told g.last g.ended g.stamped)
    (sym (stamped_told f.last f.ended f.stamped) ∙ ap (λ (n : ℕ). eqb (n / 4) 1) b ∙ stamped_told g.last g.ended g.stamped)
    (moment_once f.least g.least is_f.least is_g.least p5.0)
    (moment_once f.greatest g.greatest is_f.greatest is_g.greatest p6.0)
    (number_once f.types g.types is_f.types is_g.types p7.0)
    (number_once f.words g.words is_f.words is_g.words p8.0)
    (number_once f.variables g.variables is_f.variables is_g.variables p8.1)
