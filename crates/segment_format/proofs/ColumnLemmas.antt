-- Columns of numbers: what was read is spelled so.
use Rattle.std.proofs.Common.{◌≡◌, ◌≤◌, ℕ, suc, ◌+◌, ◌-◌, ◌*◌, ℤ, List, [], ◌∷◌, ◌++◌, length, take, drop, sym, ap, ◌∙◌, arith, length-append}
use Rattle.std.specs.List.{flat_map}
use Rattle.std.specs.Int.{w64, cast_signed, cast_unsigned}
use Rattle.std.proofs.lemmas.List.{drop-drop, drop_all, length-drop, length-take, nil_from_length, get_or_default, append-nil, take_at, take_all}
use borrow.Rule.Slice.PartMut.{put_mid, post_of}
use Rattle.std.proofs.lemmas.List.Concat.{flat_map-cons}
use Rattle.std.proofs.lemmas.Int.{of_z-to_z}
use Rattle.byteorder.specs.Endian.{little_bytes, little_number, IsRead, IsReadBy}
use Rattle.byteorder.specs.Numbers.{little_from-lt}
use Rattle.record_format.specs.Lists.{four_bytes}
use Rattle.record_format.proofs.NumberLemmas.{IsBytes, number_in_front, IsBytes-drop}
use Rattle.segment_format.specs.Layout.{eight_bytes, moment_bytes}

-- ---- a column of values of n bytes each

-- bytes that a value was read from are its spelling, and then the bytes behind it
abbrev pub ReadsBack : {X : Type 0} → ℕ → (List ℕ → X) → (X → List ℕ) → Type 0
ReadsBack n value spell = (bytes : List ℕ) → IsBytes bytes → n ≤ length bytes → bytes ≡ spell (value bytes) ++ drop n bytes

pub column_spelled : {X : Type 0} (n : ℕ) (value : List ℕ → X) (spell : X → List ℕ) → ReadsBack n value spell → (src : List ℕ) (dst : List X) → IsBytes src
    → length src ≡ n * length dst → IsReadBy value n src dst → src ≡ flat_map spell dst
column_spelled n value spell back src [] fits long read = nil_from_length src (long ∙ omega arith)
column_spelled {X = X} n value spell back src (x ∷ xs) fits long read =
    let room : n * length (x ∷ xs) ≡ n + n * length xs = omega arith in
    let none : n * 0 ≡ 0 = omega arith in
    let first : x ≡ value src = read x 0 (omega arith) ∙ ap (λ (k : ℕ). value (drop k src)) none in
    let front : src ≡ spell (value src) ++ drop n src = back src fits (omega (arith, long, room)) in
    let after : IsReadBy value n (drop n src) xs = λ d k lt.
    let step : n + n * k ≡ n * suc k = omega arith in
    read d (suc k) (omega (arith, lt)) ∙ ap value (sym (drop-drop (n * k) n src ∙ ap (λ (j : ℕ). drop j src) step)) in
    let rest : drop n src ≡ flat_map spell xs = column_spelled n value spell back (drop n src) xs (IsBytes-drop n src fits) (omega (arith, length-drop n src, long, room)) after in
    front ∙ ap (λ (y : X). spell y ++ drop n src) (sym first) ∙ ap (λ (l : List ℕ). spell x ++ l) rest ∙ sym (flat_map-cons spell x xs)

read_by : (n : ℕ) (src dst : List ℕ) → IsRead little_number n src dst → IsReadBy (little_number n) n src dst
read_by n src dst read d k lt = get_or_default dst k d 0 lt ∙ read k lt

pub numbers_spelled : (src dst : List ℕ) → IsBytes src → length src ≡ 4 * length dst → IsRead little_number 4 src dst → src ≡ flat_map four_bytes dst
unfolding four_bytes
numbers_spelled src dst fits long read = column_spelled 4 (little_number 4) (little_bytes 4) (number_in_front 4) src dst fits long (read_by 4 src dst read)

pub longs_spelled : (src dst : List ℕ) → IsBytes src → length src ≡ 8 * length dst → IsRead little_number 8 src dst → src ≡ flat_map eight_bytes dst
unfolding eight_bytes
longs_spelled src dst fits long read = column_spelled 8 (little_number 8) (little_bytes 8) (number_in_front 8) src dst fits long (read_by 8 src dst read)

moment_of : List ℕ → ℤ
moment_of bytes = cast_signed w64 (little_number 8 bytes)

pub moment_in_front : (bytes : List ℕ) → IsBytes bytes → 8 ≤ length bytes → bytes ≡ moment_bytes (cast_signed w64 (little_number 8 bytes)) ++ drop 8 bytes
unfolding moment_bytes
moment_in_front bytes fits long =
    let back : cast_unsigned w64 (cast_signed w64 (little_number 8 bytes)) ≡ little_number 8 bytes = of_z-to_z w64 (little_number 8 bytes) (little_from-lt 0 8 bytes fits) in
    number_in_front 8 bytes fits long ∙ ap (λ (k : ℕ). little_bytes 8 k ++ drop 8 bytes) (sym back)

pub moments_spelled : (src : List ℕ) (dst : List ℤ) → IsBytes src → length src ≡ 8 * length dst → IsReadBy (λ bytes. cast_signed w64 (little_number 8 bytes)) 8 src dst
    → src ≡ flat_map moment_bytes dst
moments_spelled src dst fits long read = column_spelled 8 (λ bytes. cast_signed w64 (little_number 8 bytes)) moment_bytes moment_in_front src dst fits long read

-- ---- what was written behind what stood there

pub wrote_behind : (old d w behind : List ℕ) (s n : ℕ) → take s d ≡ old → length d ≡ n → s ≤ n → length w ≡ n - s
    → take n (put_mid s (length d - s) d w ++ behind) ≡ old ++ w
wrote_behind old d w behind s n front long le wrote =
    let post : post_of s (length d - s) d ≡ [] = drop-drop (length d - s) s d ∙ drop_all (s + (length d - s)) d (omega (arith, long, le)) in
    let mid : put_mid s (length d - s) d w ≡ old ++ w =
    ap (λ (l : List ℕ). take s d ++ (w ++ l)) post ∙ ap (λ (l : List ℕ). take s d ++ l) (append-nil w) ∙ ap (λ (l : List ℕ). l ++ w) front in
    let count : length (old ++ w) ≡ n = omega (arith, length-append old w, ap (λ (l : List ℕ). length l) front, length-take s d, long, le, wrote) in
    ap (λ (l : List ℕ). take n (l ++ behind)) mid ∙ take_at (old ++ w) behind n count

-- room that was made leaves what stood there
pub room_made : (old : List ℕ) (s m : ℕ) → length old ≡ s → (more : List ℕ) → take s (take (s + m) old ++ more) ≡ old
room_made old s m long more =
    ap (λ (l : List ℕ). take s (l ++ more)) (take_all (s + m) old (omega (arith, long))) ∙ take_at old more s long
