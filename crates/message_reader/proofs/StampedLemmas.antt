-- Whether a line has a stamp: of each pattern and moment there is one text at most, and the moments are finitely many.
use Rattle.std.proofs.Common.{◌≡◌, ◌⊎◌, inl, inr, ℕ, zero, suc, ◌%◌, ◌<◌, ◌≤◌, Bool, true, false, List, [], ◌∷◌, ◌++◌, length, ℤ, pos, negsuc, neg_ℤ, ◌≤ℤ◌, ◌<ℤ◌, unsigned_abs, refl, sym, subst, arith}
use Rattle.std.specs.Prelude.{IsFalse, T, nat_le, if◌then◌else◌}
use Rattle.std.specs.Int.Signed.{le_z, lt_z}
use Rattle.std.proofs.lemmas.Bool.{cases_lt}
use Rattle.std.proofs.lemmas.Bool.Decides.{eqb_tells}
use Rattle.jiff_core.proofs.SignedLemmas.{signed_arith}
use Rattle.token_rules.specs.Tokens.{is_token_byte}
use Rattle.time_patterns.specs.Laws.{PrintsFrom, end_micro, end_milli, first_micro, first_milli}
use Rattle.time_patterns.specs.Stamps.{EndsStamp, Fits, IsPatternOf, IsPrintable, IsStamped, first_pattern, last_pattern}
use Rattle.time_patterns.proofs.BoundLemmas.{printed_moments}
use Rattle.time_patterns.proofs.LawLemmas.{one_text}
use Rattle.message_reader.specs.Versions.{IsHead}

-- it holds, or it does not
abbrev Decided : Type 0 → Type 0
Decided P = P ⊎ (P → ⊥)

both : (P Q : Type 0) → Decided P → Decided Q → Decided (P × Q)
both P Q (inl p) (inl q) = inl (p, q)
both P Q (inl p) (inr fails) = inr (λ h. fails h.1)
both P Q (inr fails) q = inr (λ h. fails h.0)

by_truth : (b : Bool) → Decided (T b)
by_truth true = inl tt
by_truth false = inr (λ t. absurd t)

by_falsity : (b : Bool) → Decided (IsFalse b)
by_falsity true = inr (λ f. absurd (cc (f)))
by_falsity false = inl refl

by_order : (a b : ℕ) → Decided (a ≤ b)
by_order a b = elim (cases_lt b a) as (λ z. Decided (a ≤ b)) [
  | inl above ↦ inr (λ le. absurd (omega (arith, above, le)))
  | inr le ↦ inl le
]

by_equality : (a b : ℕ) → Decided (a ≡ b)
by_equality a b = elim (eqb_tells a b) as (λ z. Decided (a ≡ b)) [
  | inl same ↦ inl same.1
  | inr other ↦ inr other.1
]

-- the least number below a bound
abbrev Least : (ℕ → Type 0) → ℕ → Type 0
Least P n = (i : ℕ) × (i < n) × P i × ((j : ℕ) → j < i → P j → ⊥)

least_below : (P : ℕ → Type 0) → ((i : ℕ) → Decided (P i)) → (n : ℕ) → Least P n ⊎ ((i : ℕ) → i < n → P i → ⊥)
least_below P d zero = inr (λ i low p. absurd (omega (arith, low)))
least_below P d (suc n) = elim (least_below P d n) as (λ z. Least P (suc n) ⊎ ((i : ℕ) → i < suc n → P i → ⊥)) [
  | inl l ↦ inl (l.0, omega (arith, l.1), l.2, l.3)
  | inr none ↦ elim (d n) as (λ z. Least P (suc n) ⊎ ((i : ℕ) → i < suc n → P i → ⊥)) [
    | inl is ↦ inl (n, omega arith, is, none)
    | inr fails ↦ inr (λ i low p. elim (cases_lt i n) as (λ z. ⊥) [
      | inl less ↦ none i less p
      | inr more ↦ let same : i ≡ n = omega (arith, low, more) in fails (subst P same p)
    ])
  ]
]

-- ---- a text at the front of a line

ends_or_not : (rest : List ℕ) → Decided (EndsStamp rest)
ends_or_not [] = inl tt
ends_or_not (b ∷ rest) = by_falsity (is_token_byte b)

abbrev Begins : List ℕ → List ℕ → Type 0
Begins text line = (rest : List ℕ) × (line ≡ text ++ rest) × EndsStamp rest

begins_or_not : (text line : List ℕ) → Decided (Begins text line)
begins_or_not [] line = elim (ends_or_not line) as (λ z. Decided (Begins [] line)) [
  | inl ends ↦ inl (line, refl, ends)
  | inr fails ↦ inr (λ b. fails (subst EndsStamp (sym b.1) b.2))
]
begins_or_not (c ∷ text) [] = inr (λ b. absurd (cc (b.1)))
begins_or_not (c ∷ text) (d ∷ line) = elim (by_equality d c) as (λ z. Decided (Begins (c ∷ text) (d ∷ line))) [
  | inl same ↦ elim (begins_or_not text line) as (λ z. Decided (Begins (c ∷ text) (d ∷ line))) [
    | inl b ↦ inl (b.0, cc (same, b.1), b.2)
    | inr fails ↦ inr (λ b. fails (b.0, cc (b.1), b.2))
  ]
  | inr other ↦ inr (λ b. other (cc (b.1)))
]

-- ---- the moments of a pattern

-- the moments of a pattern, none as far from zero as the bound
record Moments (k bound : ℕ) : Type 0 where
  first : ℤ
  end : ℤ
  unit : ℕ
  prints : PrintsFrom k first end unit
  near : (m : ℤ) → first ≤ℤ m → m <ℤ end → unsigned_abs m < bound

near_zero : (m : ℤ) (first end bound : ℕ) → neg_ℤ (pos first) ≤ℤ m → m <ℤ pos end → first < bound → end < bound → unsigned_abs m < bound
near_zero (pos i) first end bound from to low high = omega (arith, signed_arith, to)
near_zero (negsuc i) first end bound from to low high = omega (arith, signed_arith, from)

above_zero : (m : ℤ) (first end bound : ℕ) → pos first ≤ℤ m → m <ℤ pos end → end < bound → unsigned_abs m < bound
above_zero (pos i) first end bound from to high = omega (arith, signed_arith, to)
above_zero (negsuc i) first end bound from to high = absurd (omega (arith, signed_arith, from))

moments_of : (k : ℕ) → 1 ≤ k → k ≤ 26 → Moments k 253_402_300_800_000_001
moments_of k one most = elim (cases_lt k 6) as (λ z. Moments k 253_402_300_800_000_001) [
  | inl low ↦ record { first = first_milli; end = end_milli; unit = 1; prints = printed_moments.milliseconds k one (omega (arith, low)); near = λ m from to. near_zero m 62_167_219_200_000 253_402_300_800_000 _ from to (omega arith) (omega arith) }
  | inr six ↦ elim (cases_lt k 10) as (λ z. Moments k 253_402_300_800_000_001) [
    | inl low ↦ record { first = first_milli; end = end_milli; unit = 1000; prints = printed_moments.seconds k six (omega (arith, low)); near = λ m from to. near_zero m 62_167_219_200_000 253_402_300_800_000 _ from to (omega arith) (omega arith) }
    | inr ten ↦ elim (cases_lt k 11) as (λ z. Moments k 253_402_300_800_000_001) [
      | inl low ↦ let is : 10 ≡ k = omega (arith, ten, low) in subst (λ n. Moments n 253_402_300_800_000_001) is (record { first = pos 946_684_800_000; end = pos 4_102_444_800_000; unit = 1000; prints = printed_moments.short_years; near = λ m from to. above_zero m 946_684_800_000 4_102_444_800_000 _ from to (omega arith) })
      | inr eleven ↦ elim (cases_lt k 17) as (λ z. Moments k 253_402_300_800_000_001) [
        | inl low ↦ record { first = first_micro; end = end_micro; unit = 1; prints = printed_moments.micro_microseconds k eleven (omega (arith, low)); near = λ m from to. near_zero m 62_167_219_200_000_000 253_402_300_800_000_000 _ from to (omega arith) (omega arith) }
        | inr seventeen ↦ elim (cases_lt k 22) as (λ z. Moments k 253_402_300_800_000_001) [
          | inl low ↦ record { first = first_micro; end = end_micro; unit = 1000; prints = printed_moments.micro_milliseconds k seventeen (omega (arith, low)); near = λ m from to. near_zero m 62_167_219_200_000_000 253_402_300_800_000_000 _ from to (omega arith) (omega arith) }
          | inr more ↦ elim (cases_lt k 26) as (λ z. Moments k 253_402_300_800_000_001) [
            | inl low ↦ record { first = first_micro; end = end_micro; unit = 1_000_000; prints = printed_moments.micro_seconds k more (omega (arith, low)); near = λ m from to. near_zero m 62_167_219_200_000_000 253_402_300_800_000_000 _ from to (omega arith) (omega arith) }
            | inr last ↦ let is : 26 ≡ k = omega (arith, last, most) in subst (λ n. Moments n 253_402_300_800_000_001) is (record { first = pos 946_684_800_000_000; end = pos 4_102_444_800_000_000; unit = 1_000_000; prints = printed_moments.micro_short_years; near = λ m from to. above_zero m 946_684_800_000_000 4_102_444_800_000_000 _ from to (omega arith) })
          ]
        ]
      ]
    ]
  ]
]

from_int : (a b : ℤ) → Decided (a ≤ℤ b)
from_int a b = elim (by_truth (le_z a b)) as (λ z. Decided (a ≤ℤ b)) [
  | inl yes_it_is ↦ inl (record { le = yes_it_is })
  | inr fails ↦ inr (λ h. fails h.le)
]

before_int : (a b : ℤ) → Decided (a <ℤ b)
before_int a b = elim (by_truth (lt_z a b)) as (λ z. Decided (a <ℤ b)) [
  | inl yes_it_is ↦ inl (record { lt = yes_it_is })
  | inr fails ↦ inr (λ h. fails h.lt)
]

printable_or_not : (k bound : ℕ) (m : ℤ) → Moments k bound → Decided (IsPrintable k m)
printable_or_not k bound m r =
    elim (both (r.first ≤ℤ m) ((m <ℤ r.end) × (unsigned_abs m % r.unit ≡ 0)) (from_int r.first m) (both (m <ℤ r.end) (unsigned_abs m % r.unit ≡ 0) (before_int m r.end) (by_equality (unsigned_abs m % r.unit) 0))) as (λ z. Decided (IsPrintable k m)) [
      | inl in_range ↦ inl ((r.prints m).1 (in_range.0, in_range.1.0, in_range.1.1))
      | inr fails ↦ inr (λ p. let h = (r.prints m).0 p in fails (h.0, (h.1, h.2)))
    ]

-- ---- a pattern at the front of a line

abbrev FitsAt : List ℕ → ℕ → ℤ → Type 0
FitsAt line k m = (n : ℕ) × Fits line k m n

fits_at_or_not : (line : List ℕ) (k bound : ℕ) (m : ℤ) → Moments k bound → Decided (FitsAt line k m)
fits_at_or_not line k bound m r = elim (printable_or_not k bound m r) as (λ z. Decided (FitsAt line k m)) [
  | inl p ↦ elim (begins_or_not p.0 line) as (λ z. Decided (FitsAt line k m)) [
    | inl b ↦ inl (length p.0, (p.0, p.1, (b.0, b.1, b.2, refl)))
    | inr fails ↦ inr (λ f. fails (subst (λ t. Begins t line) (one_text k m f.1.0 p.0 f.1.1 p.1) (f.1.2.0, f.1.2.1, f.1.2.2)))
  ]
  | inr none ↦ inr (λ f. none (f.1.0, f.1.1))
]

abbrev FitsSome : List ℕ → ℕ → Type 0
FitsSome line k = (m : ℤ) × FitsAt line k m

neither : (line : List ℕ) (k bound : ℕ) → Moments k bound → ((i : ℕ) → i < bound → FitsAt line k (pos i) → ⊥) → ((i : ℕ) → i < bound → FitsAt line k (negsuc i) → ⊥) → (m : ℤ) → FitsAt line k m → ⊥
neither line k bound r high low (pos i) f =
    let within = (r.prints (pos i)).0 (f.1.0, f.1.1) in high i (r.near (pos i) within.0 within.1) f
neither line k bound r high low (negsuc i) f =
    let within = (r.prints (negsuc i)).0 (f.1.0, f.1.1) in low i (omega (arith, r.near (negsuc i) within.0 within.1)) f

fits_or_not : (line : List ℕ) (k bound : ℕ) → Moments k bound → Decided (FitsSome line k)
fits_or_not line k bound r = elim (least_below (λ i. FitsAt line k (pos i)) (λ i. fits_at_or_not line k bound (pos i) r) bound) as (λ z. Decided (FitsSome line k)) [
  | inl l ↦ inl (pos l.0, l.2)
  | inr high ↦ elim (least_below (λ i. FitsAt line k (negsuc i)) (λ i. fits_at_or_not line k bound (negsuc i) r) bound) as (λ z. Decided (FitsSome line k)) [
    | inl l ↦ inl (negsuc l.0, l.2)
    | inr low ↦ inr (λ f. neither line k bound r high low f.0 f.1)
  ]
]

-- ---- the least pattern

abbrev FitsIn : ℕ → List ℕ → ℕ → Type 0
FitsIn version line k = IsPatternOf version k × FitsSome line k

of_version : (version k : ℕ) → IsPatternOf version k → (1 ≤ k) × (k ≤ 26)
of_version version k is = bounds (nat_le 3 version) is.0 is.1
  where
    bounds : (b : Bool) → (if b then 11 else 1) ≤ k → k ≤ (if b then 26 else 10) → (1 ≤ k) × (k ≤ 26)
    bounds true low high = (omega (arith, low), high)
    bounds false low high = (low, omega (arith, high))

fits_in_or_not : (version : ℕ) (line : List ℕ) (k : ℕ) → Decided (FitsIn version line k)
fits_in_or_not version line k = elim (both (first_pattern version ≤ k) (k ≤ last_pattern version) (by_order (first_pattern version) k) (by_order k (last_pattern version))) as (λ z. Decided (FitsIn version line k)) [
  | inl is ↦ elim (fits_or_not line k 253_402_300_800_000_001 (moments_of k (of_version version k is).0 (of_version version k is).1)) as (λ z. Decided (FitsIn version line k)) [
    | inl fits ↦ inl (is, fits)
    | inr fails ↦ inr (λ h. fails h.1)
  ]
  | inr fails ↦ inr (λ h. fails h.0)
]

pub stamped_or_not : (version : ℕ) (line : List ℕ) → IsStamped version line ⊎ (IsStamped version line → ⊥)
stamped_or_not version line = elim (least_below (FitsIn version line) (fits_in_or_not version line) 27) as (λ z. IsStamped version line ⊎ (IsStamped version line → ⊥)) [
  | inl l ↦ inl (
    l.0,
    l.2.1.0,
    l.2.1.1.0,
    record {
      pattern = l.2.0;
      fits = l.2.1.1.1;
      least = λ j m n is less fits. l.3 j less (is, (m, (n, fits)));
    },
  )
  | inr none ↦ inr (λ s. none s.0 (omega (arith, (of_version version s.0 s.3.pattern).1)) (s.3.pattern, (s.1, (s.2, s.3.fits))))
]

pub head_or_not : (version : ℕ) (line : List ℕ) → IsHead version line ⊎ (¬ IsHead version line)
head_or_not version line = elim (cases_lt 1 version) as (λ z. IsHead version line ⊎ (¬ IsHead version line)) [
  | inl above ↦ elim (stamped_or_not version line) as (λ z. IsHead version line ⊎ (¬ IsHead version line)) [
    | inl is ↦ inl (above, is)
    | inr fails ↦ inr (λ head. fails head.1)
  ]
  | inr low ↦ inr (λ head. absurd (omega (arith, low, head.0)))
]
