-- One bit of a word, and whether one of some bits is set.
use Rattle.std.proofs.Common.{◌≡◌, ℕ, zero, suc, ◌+◌, ◌-◌, ◌*◌, ◌/◌, ◌%◌, ◌^◌, ◌<◌, ◌≤◌, Bool, true, false, not, ◌&&◌, ◌||◌, ◌==◌, List, get_or, cond, inl, inr, refl, sym, ap, ◌∙◌, subst, arith, w64, nat_eq, bit_and, ap₂, pow_pos, pow_mono, mod-lt, zero-lt-suc, le_of_suc-le-suc, not-suc-le-zero}
use Rattle.std.specs.Int.{bit_at}
use Rattle.std.proofs.lemmas.Nat.Bits.{bit_at_not, bit_at_above, bit_at_and, bit_at_ones, bit_at_ones_above, bit_at-zero, bit_at-trailing_zeros}
use Rattle.std.proofs.lemmas.Nat.{shr-shr}
use Rattle.std.proofs.Math.Nat.{two-pow-succ, div-le_self}
use Rattle.std.proofs.lemmas.Simd.{bit_mask_l}
use Rattle.std.proofs.lemmas.Bool.{both_ways, cases_lt, cases_order, ne_eqb}
use lib.Bits.{and_le_r}
use Rattle.std.specs.Int.Count.{count_trailing_zeros, trailing_of_zero}
use lib.Pow.{field, mod-mod-pow}
use lib.Lanes.{mask_l}
use Rattle.token_rules.specs.StepsOfWindows.{test, all_bits, any_bit}

bit_cases : (P : ℕ → Type 0) → P 0 → P 1 → (x : ℕ) → x < 2 → P x
bit_cases P p q zero h = p
bit_cases P p q (suc zero) h = q
bit_cases P p q (suc (suc r)) h = absurd (not-suc-le-zero (le_of_suc-le-suc (le_of_suc-le-suc h)))

bit_lt : (n i : ℕ) → bit_at n i < 2
bit_lt n i = mod-lt (n / 2 ^ i) (zero-lt-suc 1)

-- the word with each bit turned
abbrev pub turned : ℕ → ℕ
turned a = 2 ^ 64 - 1 - a

pub test-turned : (a i : ℕ) → a < 2 ^ 64 → i < 64 → test (turned a) i ≡ not (test a i)
unfolding test
test-turned a i ha hi = ap (λ n. n == 1) (bit_at_not w64 a i ha hi) ∙ bit_cases (λ x. ((1 - x) == 1) ≡ not (x == 1)) refl refl (bit_at a i) (bit_lt a i)

pub test-mod : (n i : ℕ) → i < 64 → test (n % 2 ^ 64) i ≡ test n i
unfolding test
test-mod n i h =
    let m = 63 - i in
    let e : m + 1 + i ≡ 64 = omega arith in
    ap (λ x. x == 1) (subst (λ w. bit_at (n % 2 ^ w) i ≡ bit_at n i) e (ap (λ x. x % 2) (field n (m + 1) i) ∙ mod-mod-pow (n / 2 ^ i) m 1))

pub test-mask_l : (ms : List Bool) (i : ℕ) → test (mask_l ms) i ≡ get_or ms i false
unfolding test
test-mask_l ms i = ap (λ x. x == 1) (bit_mask_l ms i) ∙ back (get_or ms i false)
  where
    back : (b : Bool) → (cond b 1 0 == 1) ≡ b
    back true = refl
    back false = refl

-- a set bit is 1, and one that is not set is 0
pub set_is_one : (n i : ℕ) → test n i ≡ true → bit_at n i ≡ 1
unfolding test
set_is_one n i = bit_cases (λ x. (x == 1) ≡ true → x ≡ 1) (λ no. absurd (both_ways (0 == 1) refl no)) (λ _. refl) (bit_at n i) (bit_lt n i)

pub one_is_set : (n i : ℕ) → bit_at n i ≡ 1 → test n i ≡ true
unfolding test
one_is_set n i is = ap (λ x. x == 1) is

pub zero_is_clear : (n i : ℕ) → bit_at n i ≡ 0 → test n i ≡ false
unfolding test
zero_is_clear n i is = ap (λ x. x == 1) is

shl_one : (n : ℕ) → n < 64 → 1 * 2 ^ n % 2 ^ 64 ≡ 2 ^ n
shl_one n l =
    let small : 2 ^ n < 2 ^ 64 = omega (arith, two-pow-succ n, pow_pos n, pow_mono {i = suc n} {j = 64} (omega arith)) in
    omega arith

-- the low bits of a word
low_kept : (m n k : ℕ) → k < n → bit_at (bit_and m (2 ^ n - 1)) k ≡ bit_at m k
low_kept m n k l = omega (arith, bit_at_and m (2 ^ n - 1) k, bit_at_ones n k l)

low_only : (m n k : ℕ) → bit_at (bit_and m (2 ^ n - 1)) k ≡ 1 → k < n
low_only m n k set = elim (cases_lt k n) [
  | inl l ↦ l
  | inr ge ↦ absurd (omega (arith, bit_at_and m (2 ^ n - 1) k, bit_at_ones_above n k ge))
]

-- where the lowest set bit of a word is, at 64 where it has none
pub lowest_set : (y : ℕ) → y < 2 ^ 64 → (count_trailing_zeros 64 y ≤ 64) × ((k : ℕ) → k < count_trailing_zeros 64 y → bit_at y k ≡ 0) × (count_trailing_zeros 64 y < 64 → bit_at y (count_trailing_zeros 64 y) ≡ 1)
lowest_set zero small = (omega (arith, trailing_of_zero 64), λ k _. bit_at-zero k, λ low. absurd (omega (arith, low, trailing_of_zero 64)))
lowest_set (suc n) small =
    let found = bit_at-trailing_zeros w64 (suc n) (omega arith) small in
    (omega (arith, found.0), found.2, λ _. found.1)

-- a bit of a word that is moved down
pub bit_at-moved : (m by k : ℕ) → bit_at (m / 2 ^ by) k ≡ bit_at m (by + k)
bit_at-moved m by k = ap (λ x. x % 2) (shr-shr m by k)

pub test-moved : (m by k : ℕ) → test (m / 2 ^ by) k ≡ test m (by + k)
unfolding test
test-moved m by k = ap (λ x. x == 1) (bit_at-moved m by k)

pub test-above : (m k : ℕ) → m < 2 ^ 64 → 64 ≤ k → test m k ≡ false
test-above m k small high = zero_is_clear m k (bit_at_above m 64 k small high)

any_none : (bits from count : ℕ) → ((k : ℕ) → k < count → test bits (from + k) ≡ false) → any_bit bits from count ≡ false
unfolding any_bit
any_none bits from zero none = refl
any_none bits from (suc n) none = ap₂ (λ x y. x || y) (any_none bits from n (λ k l. none k (omega arith))) (none n (omega arith))

or_true : (b : Bool) → (b || true) ≡ true
or_true true = refl
or_true false = refl

any_some : (bits from count k : ℕ) → k < count → test bits (from + k) ≡ true → any_bit bits from count ≡ true
unfolding any_bit
any_some bits from zero k l set = absurd (omega arith)
any_some bits from (suc n) k l set = elim (cases_order k n) [
  | inl same ↦ ap (λ b. any_bit bits from n || b) (subst (λ j. test bits (from + j) ≡ true) same set) ∙ or_true (any_bit bits from n)
  | inr (inl less) ↦ ap (λ b. b || test bits (from + n)) (any_some bits from n k less set)
  | inr (inr more) ↦ absurd (omega arith)
]

-- the test that the code makes
pub any_tested : (bits from count : ℕ) → count < 64 → not (nat_eq (bit_and (bits / 2 ^ from) (1 * 2 ^ count % 2 ^ 64 - 1)) 0) ≡ any_bit bits from count
any_tested bits from count within =
    ap (λ x. not (nat_eq (bit_and (bits / 2 ^ from) (x - 1)) 0)) (shl_one count within) ∙ go (bit_and (bits / 2 ^ from) (2 ^ count - 1)) refl
  where
    small : (x : ℕ) → x ≡ bit_and (bits / 2 ^ from) (2 ^ count - 1) → x < 2 ^ 64
    small x is = omega (arith, is, and_le_r (bits / 2 ^ from) (2 ^ count - 1), pow_pos count, pow_mono {i = count} {j = 64} (omega arith))

    go : (x : ℕ) → x ≡ bit_and (bits / 2 ^ from) (2 ^ count - 1) → not (nat_eq x 0) ≡ any_bit bits from count
    go zero is = sym (any_none bits from count (λ k l. zero_is_clear bits (from + k) (sym (bit_at-moved bits from k) ∙ sym (low_kept (bits / 2 ^ from) count k l) ∙ sym (ap (λ y. bit_at y k) is) ∙ bit_at-zero k)))
    go (suc n) is =
        let found = bit_at-trailing_zeros w64 (suc n) (omega arith) (small (suc n) is) in
        let k = count_trailing_zeros 64 (suc n) in
        let one : bit_at (bit_and (bits / 2 ^ from) (2 ^ count - 1)) k ≡ 1 = sym (ap (λ y. bit_at y k) is) ∙ found.1 in
        let low = low_only (bits / 2 ^ from) count k one in
        ap not (ne_eqb (suc n) 0 (λ e. absurd (omega (arith, e)))) ∙ sym (any_some bits from count k low (one_is_set bits (from + k) (sym (bit_at-moved bits from k) ∙ sym (low_kept (bits / 2 ^ from) count k low) ∙ one)))

-- the run of set bits from a place on, by the lowest set bit of the others
pub set_run : (bits from : ℕ) → bits < 2 ^ 64 → from < 64 → (from + count_trailing_zeros 64 (turned (bits / 2 ^ from)) ≤ 64)
    × ((k : ℕ) → k < count_trailing_zeros 64 (turned (bits / 2 ^ from)) → test bits (from + k) ≡ true)
    × (from + count_trailing_zeros 64 (turned (bits / 2 ^ from)) < 64 → test bits (from + count_trailing_zeros 64 (turned (bits / 2 ^ from))) ≡ false)
set_run bits from small low =
    let moved : bits / 2 ^ from < 2 ^ 64 = omega (arith, div-le_self bits (2 ^ from), small) in
    let y = turned (bits / 2 ^ from) in
    let t = count_trailing_zeros 64 y in
    let found = lowest_set y (omega (arith, moved)) in
    let set : (k : ℕ) → k < t → test bits (from + k) ≡ true =
    λ k l. one_is_set bits (from + k) (sym (bit_at-moved bits from k) ∙ omega (arith, found.1 k l, bit_at_not w64 (bits / 2 ^ from) k moved (omega (arith, l, found.0)), bit_lt (bits / 2 ^ from) k)) in (
      elim (cases_lt 64 (from + t)) [
        | inl past ↦
            let last : from + (64 - from) ≡ 64 = omega arith in
            absurd (both_ways (test bits (from + (64 - from))) (test-above bits (from + (64 - from)) small (omega arith)) (set (64 - from) (omega arith)))
        | inr within ↦ within
      ],
      set,
      λ inside. zero_is_clear bits (from + t) (sym (bit_at-moved bits from t) ∙ omega (arith, found.2 (omega (arith, inside)), bit_at_not w64 (bits / 2 ^ from) t moved (omega (arith, inside)), bit_lt (bits / 2 ^ from) t)),
    )

-- each is set where none of the turned ones is
pub all_turned : (bits from count : ℕ) → bits < 2 ^ 64 → from + count ≤ 64 → not (any_bit (turned bits) from count) ≡ all_bits bits from count
unfolding any_bit all_bits
all_turned bits from zero small inside = refl
all_turned bits from (suc n) small inside =
    ap (λ b. not (any_bit (turned bits) from n || b)) (test-turned bits (from + n) small (omega arith))
    ∙ neither (any_bit (turned bits) from n) (test bits (from + n)) ∙ ap (λ b. b && test bits (from + n)) (all_turned bits from n small (omega arith))
  where
    neither : (a b : Bool) → not (a || not b) ≡ (not a && b)
    neither true b = refl
    neither false true = refl
    neither false false = refl
