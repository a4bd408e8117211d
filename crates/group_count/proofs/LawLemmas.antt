-- Rows that are encodings have the keys of their messages, and shapes are those of symbols.
use Rattle.std.proofs.Common.{◌≡◌, ◌-◌, ◌%◌, ◌<◌, ◌≤◌, ◌↔◌, ◌∷◌, ℕ, zero, suc, ℤ, pos, negsuc, neg_ℤ, ◌-ℤ◌, ◌≤ℤ◌, ◌<ℤ◌, Bool, true, false, nat_le, IsTrue, if◌then◌else◌, List, [], length, map, All, slice_index_or, Some, inl, inr, arith, refl, ap, sym, subst, ◌∙◌}
use Rattle.std.specs.Int.{int_rem_euclid, saturate_signed, w64}
use Rattle.std.proofs.lemmas.Bool.{cases_lt, cond-false, cond-true, false_from_ne_true, false≢true, le-leb, leb-true}
use Rattle.std.proofs.lemmas.Int.{ints}
use Rattle.std.proofs.lemmas.List.Elements.{All-cons, All-nil}
use Rattle.std.proofs.lemmas.Option.{get_or_from_slice_get, slice_get_within}
use Rattle.time_patterns.specs.Laws.{PrintedMoments}
use Rattle.time_patterns.specs.Stamps.{HasStamp, IsPrintable}
use Rattle.logtype_text.specs.Parts.{symbol_of}
use Rattle.logtype_text.specs.TypeText.{type_text}
use Rattle.column_store.specs.declared.row.Row.{Row}
use Rattle.row_codec.specs.Means.{AreCanonical, IsCanonical}
use Rattle.row_codec.specs.Messages.{IsTypeOf}
use Rattle.search_meaning.specs.Groups.{HaveMinutes, HaveTypes, minute_len, minute_of}
use Rattle.group_count.specs.Laws.{minutes_of, numbers_of}
use Rattle.group_count.specs.Tables.{minute_at, texts_at}

-- ---- log types

type_is : (version : ℕ) (row : Row) (types words : List (List ℕ)) (message : List ℕ) → IsCanonical version row types words message
    → IsTypeOf version message (slice_index_or types row.log_type [])
type_is version row types words message canonical =
    let means = canonical.means in (
      means.parts,
      record {
        stamp = means.stamp;
        pattern = row.pattern;
        moment = row.moment;
        stamped = canonical.stamp;
        is = means.is;
        body = canonical.body;
      },
      get_or_from_slice_get types row.log_type (type_text (map symbol_of means.parts)) [] means.typed,
    )

pub types_are : (version : ℕ) (types words : List (List ℕ)) (rows : List Row) (messages : List (List ℕ)) → AreCanonical version rows types words messages
    → HaveTypes version messages (texts_at types (numbers_of rows))
types_are version types words [] [] are = are
types_are version types words [] (m ∷ messages) are = absurd are
types_are version types words (r ∷ rows) [] are = absurd are
types_are version types words (r ∷ rows) (m ∷ messages) are =
    (type_is version r types words m are.0, types_are version types words rows messages are.1)

pub types_within : (version : ℕ) (types words : List (List ℕ)) (rows : List Row) (messages : List (List ℕ)) → AreCanonical version rows types words messages
    → All (λ n. n < length types) (numbers_of rows)
types_within version types words [] messages are = All-nil (λ n. n < length types)
types_within version types words (r ∷ rows) [] are = absurd are
types_within version types words (r ∷ rows) (m ∷ messages) are =
    All-cons (λ n. n < length types) r.log_type (numbers_of rows) (slice_get_within types r.log_type _ are.0.means.typed) (types_within version types words rows messages are.1)

-- ---- minutes

-- far from the ends of 64 bits
record IsNear (m : ℤ) : Type 0 where
  low : neg_ℤ (pos 253_402_300_800_000_000) ≤ℤ m
  high : m <ℤ pos 253_402_300_800_000_000

near_from : (m : ℤ) (first end : ℕ) → neg_ℤ (pos first) ≤ℤ m → m <ℤ pos end → first ≤ 253_402_300_800_000_000 → end ≤ 253_402_300_800_000_000 → IsNear m
near_from m first end from to a b = record { low = omega (arith, ints); high = omega (arith, ints) }

near_above : (m : ℤ) (first end : ℕ) → pos first ≤ℤ m → m <ℤ pos end → end ≤ 253_402_300_800_000_000 → IsNear m
near_above m first end from to b = record { low = omega (arith, ints); high = omega (arith, ints) }

module _ (printed : PrintedMoments) where
  near_of : (k : ℕ) (m : ℤ) → 1 ≤ k → k ≤ 26 → IsPrintable k m → IsNear m
  near_of k m one most printable = elim (cases_lt k 6) as (λ z. IsNear m) [
    | inl low ↦ let h = (printed.milliseconds k one (omega (arith, low)) m).0 printable in near_from m 62_167_219_200_000 253_402_300_800_000 h.0 h.1 (omega arith) (omega arith)
    | inr six ↦ elim (cases_lt k 10) as (λ z. IsNear m) [
      | inl low ↦ let h = (printed.seconds k six (omega (arith, low)) m).0 printable in near_from m 62_167_219_200_000 253_402_300_800_000 h.0 h.1 (omega arith) (omega arith)
      | inr ten ↦ elim (cases_lt k 11) as (λ z. IsNear m) [
        | inl low ↦
            let is : k ≡ 10 = omega (arith, ten, low) in
            let h = (printed.short_years m).0 (subst (λ n. IsPrintable n m) is printable) in
            near_above m 946_684_800_000 4_102_444_800_000 h.0 h.1 (omega arith)
        | inr eleven ↦ elim (cases_lt k 17) as (λ z. IsNear m) [
          | inl low ↦ let h = (printed.micro_microseconds k eleven (omega (arith, low)) m).0 printable in near_from m 62_167_219_200_000_000 253_402_300_800_000_000 h.0 h.1 (omega arith) (omega arith)
          | inr seventeen ↦ elim (cases_lt k 22) as (λ z. IsNear m) [
            | inl low ↦ let h = (printed.micro_milliseconds k seventeen (omega (arith, low)) m).0 printable in near_from m 62_167_219_200_000_000 253_402_300_800_000_000 h.0 h.1 (omega arith) (omega arith)
            | inr more ↦ elim (cases_lt k 26) as (λ z. IsNear m) [
              | inl low ↦ let h = (printed.micro_seconds k more (omega (arith, low)) m).0 printable in near_from m 62_167_219_200_000_000 253_402_300_800_000_000 h.0 h.1 (omega arith) (omega arith)
              | inr last ↦
                  let is : k ≡ 26 = omega (arith, last, most) in
                  let h = (printed.micro_short_years m).0 (subst (λ n. IsPrintable n m) is printable) in
                  near_above m 946_684_800_000_000 4_102_444_800_000_000 h.0 h.1 (omega arith)
            ]
          ]
        ]
      ]
    ]
  ]

rem_is : (m : ℤ) (d : ℕ) → 0 < d → (r : ℕ) × (int_rem_euclid m (pos d) ≡ pos r) × (r < d)
rem_is (pos a) d some = (a % d, refl, omega arith)
rem_is (negsuc a) d some = (d - 1 - a % d, refl, omega arith)

fits_is : (z : ℤ) → neg_ℤ (pos 4_000_000_000_000_000_000) ≤ℤ z → z <ℤ pos 4_000_000_000_000_000_000 → saturate_signed w64 z ≡ z
fits_is (pos n) low high = ap pos (omega (arith, ints))
fits_is (negsuc n) low high = ap negsuc (omega (arith, ints))

start_exact : (m : ℤ) (d : ℕ) → 0 < d → d ≤ 60_000_000 → IsNear m → saturate_signed w64 (m -ℤ int_rem_euclid m (pos d)) ≡ m -ℤ int_rem_euclid m (pos d)
start_exact m d some most near =
    let rest = rem_is m d some in
    let below = rest.2 in
    let low = near.low in
    let high = near.high in
    rw (rest.1) (fits_is (m -ℤ pos rest.0) (omega (arith, ints)) (omega (arith, ints)))

unit_is : (version : ℕ) (micro : Bool) → IsTrue micro ↔ (3 ≤ version) → (if micro then pos 60_000_000 else pos 60_000) ≡ pos (minute_len version)
unit_is version true told = ap pos (sym (cond-true (nat_le 3 version) 60_000_000 60_000 (le-leb 3 version (told.0 refl))))
unit_is version false told =
    ap pos (sym (cond-false (nat_le 3 version) 60_000_000 60_000 (false_from_ne_true (nat_le 3 version) (λ e. false≢true (told.1 (leb-true 3 version e))))))

len_some : (version : ℕ) → (0 < minute_len version) × (minute_len version ≤ 60_000_000)
len_some version = some_of_two (nat_le 3 version) where
  some_of_two : (b : Bool) → (0 < (if b then 60_000_000 else 60_000)) × ((if b then 60_000_000 else 60_000) ≤ 60_000_000)
  some_of_two true = (omega arith, omega arith)
  some_of_two false = (omega arith, omega arith)

module _ (printed : PrintedMoments) where
  minute_same : (version : ℕ) (micro : Bool) (message : List ℕ) (k : ℕ) (moment : ℤ) (n : ℕ) → IsTrue micro ↔ (3 ≤ version)
      → HasStamp version message k moment n → minute_at micro k moment ≡ minute_of version k moment
  minute_same version micro message zero moment n told stamp = refl
  minute_same version micro message (suc k) moment n told stamp =
      let printable : IsPrintable (suc k) moment = (stamp.fits.0, stamp.fits.1) in
      let bounds = printed.patterns (suc k) moment printable in
      let near = near_of printed (suc k) moment bounds.0 bounds.1 printable in
      let len = len_some version in
      ap Some (ap (λ d. saturate_signed w64 (moment -ℤ int_rem_euclid moment d)) (unit_is version micro told)
      ∙ start_exact moment (minute_len version) len.0 len.1 near)

  pub minutes_are : (version : ℕ) (micro : Bool) (types words : List (List ℕ)) (rows : List Row) (messages : List (List ℕ)) → IsTrue micro ↔ (3 ≤ version)
      → AreCanonical version rows types words messages → HaveMinutes version messages (minutes_of micro rows)
  minutes_are version micro types words [] [] told are = are
  minutes_are version micro types words [] (m ∷ messages) told are = absurd are
  minutes_are version micro types words (r ∷ rows) [] told are = absurd are
  minutes_are version micro types words (r ∷ rows) (m ∷ messages) told are = (
    (r.pattern, r.moment, length are.0.means.stamp, are.0.stamp, minute_same version micro m r.pattern r.moment (length are.0.means.stamp) told are.0.stamp),
    minutes_are version micro types words rows messages told are.1,
  )
