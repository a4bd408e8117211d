-- The fixed part of a head: what was read is spelled so, and no bytes spell two.
use Rattle.std.proofs.Common.{◌≡◌, ◌≤◌, ℕ, ◌+◌, ℤ, List, [], ◌∷◌, ◌++◌, length, take, drop, get_or, refl, sym, ap, ◌∙◌, append_assoc, arith}
use Rattle.std.specs.Int.{w64, cast_signed, cast_unsigned}
use Rattle.std.proofs.lemmas.List.{take_at, drop_more, drop-drop, length-drop}
use Rattle.byteorder.specs.Endian.{little_bytes, little_number}
use Rattle.byteorder.specs.Numbers.{length-bytes_low_first}
use Rattle.record_format.specs.Lists.{four_bytes}
use Rattle.record_format.proofs.NumberLemmas.{IsBytes, IsBytes-drop, number_at_place}
use Rattle.segment_format.specs.declared.fixed.Fixed.{Fixed}
use Rattle.segment_format.specs.Layout.{eight_bytes, moment_bytes, flags, fixed_bytes}
use Rattle.segment_format.proofs.ColumnLemmas.{moment_in_front}

pub length-eight_bytes : (n : ℕ) → length (eight_bytes n) ≡ 8
unfolding eight_bytes
length-eight_bytes n = length-bytes_low_first 0 8 n

pub length-moment_bytes : (m : ℤ) → length (moment_bytes m) ≡ 8
unfolding moment_bytes
length-moment_bytes m = length-bytes_low_first 0 8 (cast_unsigned w64 m)

pub length-fixed_bytes : (f : Fixed) → length (fixed_bytes f) ≡ 45
unfolding fixed_bytes four_bytes eight_bytes moment_bytes
length-fixed_bytes f = refl

pub flags_there : (f : Fixed) → get_or (fixed_bytes f) 16 0 ≡ flags f.last f.ended f.stamped
unfolding fixed_bytes four_bytes eight_bytes moment_bytes
flags_there f = refl

-- ---- what stands at a place

four_at : (k m n : ℕ) (bytes : List ℕ) → IsBytes bytes → m ≡ k + 4 → m ≤ length bytes → n ≡ little_number 4 (drop k bytes) → drop k bytes ≡ four_bytes n ++ drop m bytes
unfolding four_bytes
four_at k m n bytes fits step long is =
    number_at_place 4 k m bytes fits (omega (arith, step, long)) step ∙ ap (λ (x : ℕ). little_bytes 4 x ++ drop m bytes) (sym is)

eight_at : (k m n : ℕ) (bytes : List ℕ) → IsBytes bytes → m ≡ k + 8 → m ≤ length bytes → n ≡ little_number 8 (drop k bytes) → drop k bytes ≡ eight_bytes n ++ drop m bytes
unfolding eight_bytes
eight_at k m n bytes fits step long is =
    number_at_place 8 k m bytes fits (omega (arith, step, long)) step ∙ ap (λ (x : ℕ). little_bytes 8 x ++ drop m bytes) (sym is)

moment_at : (k m : ℕ) (z : ℤ) (bytes : List ℕ) → IsBytes bytes → m ≡ k + 8 → m ≤ length bytes → z ≡ cast_signed w64 (little_number 8 (drop k bytes))
    → drop k bytes ≡ moment_bytes z ++ drop m bytes
moment_at k m z bytes fits step long is =
    moment_in_front (drop k bytes) (IsBytes-drop k bytes fits) (omega (arith, length-drop k bytes, step, long))
    ∙ ap (λ (x : ℤ). moment_bytes x ++ drop 8 (drop k bytes)) (sym is)
    ∙ ap (λ (l : List ℕ). moment_bytes z ++ l) (drop-drop 8 k bytes ∙ ap (λ (j : ℕ). drop j bytes) (sym step))

-- one field, and then the others
and_then : {x y : List ℕ} (a r z : List ℕ) → x ≡ a ++ y → y ≡ r ++ z → x ≡ (a ++ r) ++ z
and_then a r z first others = first ∙ ap (λ (l : List ℕ). a ++ l) others ∙ sym (append_assoc a r z)

pub fixed_in_front : (f : Fixed) (bytes : List ℕ) → IsBytes bytes → 45 ≤ length bytes → f.file ≡ little_number 4 bytes → f.first ≡ little_number 8 (drop 4 bytes)
    → f.rows ≡ little_number 4 (drop 12 bytes) → get_or bytes 16 0 ≡ flags f.last f.ended f.stamped → f.least ≡ cast_signed w64 (little_number 8 (drop 17 bytes))
    → f.greatest ≡ cast_signed w64 (little_number 8 (drop 25 bytes)) → f.types ≡ little_number 4 (drop 33 bytes) → f.words ≡ little_number 4 (drop 37 bytes)
    → f.variables ≡ little_number 4 (drop 41 bytes) → take 45 bytes ≡ fixed_bytes f
unfolding fixed_bytes
fixed_in_front f bytes fits long file first rows three least greatest types words variables =
    let z = drop 45 bytes in
    let b = flags f.last f.ended f.stamped in
    let at_flags : drop 16 bytes ≡ (b ∷ []) ++ drop 17 bytes = drop_more bytes 16 0 (omega (arith, long)) ∙ ap (λ (x : ℕ). x ∷ drop 17 bytes) three in
    let r9 = four_bytes f.variables in
    let r8 = four_bytes f.words ++ r9 in
    let r7 = four_bytes f.types ++ r8 in
    let r6 = moment_bytes f.greatest ++ r7 in
    let r5 = moment_bytes f.least ++ r6 in
    let r4 = b ∷ r5 in
    let r3 = four_bytes f.rows ++ r4 in
    let r2 = eight_bytes f.first ++ r3 in
    let e9 : drop 41 bytes ≡ r9 ++ z = four_at 41 45 f.variables bytes fits (omega arith) long variables in
    let e8 : drop 37 bytes ≡ r8 ++ z = and_then (four_bytes f.words) r9 z (four_at 37 41 f.words bytes fits (omega arith) (omega (arith, long)) words) e9 in
    let e7 : drop 33 bytes ≡ r7 ++ z = and_then (four_bytes f.types) r8 z (four_at 33 37 f.types bytes fits (omega arith) (omega (arith, long)) types) e8 in
    let e6 : drop 25 bytes ≡ r6 ++ z = and_then (moment_bytes f.greatest) r7 z (moment_at 25 33 f.greatest bytes fits (omega arith) (omega (arith, long)) greatest) e7 in
    let e5 : drop 17 bytes ≡ r5 ++ z = and_then (moment_bytes f.least) r6 z (moment_at 17 25 f.least bytes fits (omega arith) (omega (arith, long)) least) e6 in
    let e4 : drop 16 bytes ≡ r4 ++ z = and_then (b ∷ []) r5 z at_flags e5 in
    let e3 : drop 12 bytes ≡ r3 ++ z = and_then (four_bytes f.rows) r4 z (four_at 12 16 f.rows bytes fits (omega arith) (omega (arith, long)) rows) e4 in
    let e2 : drop 4 bytes ≡ r2 ++ z = and_then (eight_bytes f.first) r3 z (eight_at 4 12 f.first bytes fits (omega arith) (omega (arith, long)) first) e3 in
    let e1 : bytes ≡ (four_bytes f.file ++ r2) ++ z = and_then (four_bytes f.file) r2 z (four_at 0 4 f.file bytes fits (omega arith) (omega (arith, long)) file) e2 in
    ap (λ (l : List ℕ). take 45 l) e1 ∙ take_at (four_bytes f.file ++ r2) z 45 (length-fixed_bytes f)

-- ---- what was appended

-- a field that was put before the others
pub put_before : {x y : List ℕ} (o a r : List ℕ) → x ≡ o ++ a → y ≡ x ++ r → y ≡ o ++ (a ++ r)
put_before o a r first others = others ∙ ap (λ (l : List ℕ). l ++ r) first ∙ append_assoc o a r
