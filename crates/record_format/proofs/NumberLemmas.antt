-- Numbers with their lowest byte first: what is written is read back, and what is read was written.
use Rattle.std.proofs.Common.{◌≡◌, ℕ, zero, suc, ◌+◌, ◌*◌, ◌/◌, ◌%◌, ◌^◌, ◌<◌, ◌≤◌, List, [], ◌∷◌, ◌++◌, length, get_or, take, drop, refl, sym, ap, ◌∙◌, arith, inl, inr}
use Rattle.std.proofs.Math.Nat.{div-div-eq-div-mul, div-one, pow-succ'}
use Rattle.std.proofs.lemmas.List.{take-append-drop, drop-drop, length-take, length-drop, get_or-take, get_or-drop, get_or_past}
use Rattle.std.proofs.lemmas.Bool.{cases_lt}
use Rattle.std.specs.Int.{byte_at, bytes_low_first}
use Rattle.byteorder.specs.Endian.{little_bytes, little_number, little_from}
use Rattle.byteorder.specs.Numbers.{little_from-cons, little_from-take}

abbrev pub IsBytes : List ℕ → Type 0
IsBytes bytes = (i : ℕ) → get_or bytes i 0 < 256

byte_at-pow : (k x : ℕ) → byte_at k x ≡ x / 256 ^ k % 256
byte_at-pow zero x = ap (λ (y : ℕ). y % 256) (sym (div-one x))
byte_at-pow (suc k) x = refl

-- the byte above is the byte of the number without its lowest
byte_at-suc : (j x : ℕ) → byte_at (suc j) x ≡ byte_at j (x / 256)
byte_at-suc j x =
    let power : 256 ^ suc j ≡ 256 * 256 ^ j = pow-succ' 256 j in
    let shift : x / 256 ^ suc j ≡ x / 256 / 256 ^ j = ap (λ (p : ℕ). x / p) power ∙ sym (div-div-eq-div-mul x 256 (256 ^ j)) in
    ap (λ (y : ℕ). y % 256) shift ∙ sym (byte_at-pow j (x / 256))

bytes_low_first-suc : (n j x : ℕ) → bytes_low_first (suc j) n x ≡ bytes_low_first j n (x / 256)
bytes_low_first-suc zero j x = refl
bytes_low_first-suc (suc n) j x = rw (byte_at-suc j x, bytes_low_first-suc n (suc j) x) refl

-- bytes are the spelling of the number that they read as
pub little_bytes-number : (n : ℕ) (bytes : List ℕ) → length bytes ≡ n → IsBytes bytes → little_bytes n (little_number n bytes) ≡ bytes
little_bytes-number zero [] len fits = refl
little_bytes-number zero (b ∷ bytes) len fits = absurd (omega (arith, len))
little_bytes-number (suc n) [] len fits = absurd (omega (arith, len))
little_bytes-number (suc n) (b ∷ bytes) len fits =
    let first : b < 256 = fits 0 in
    let moved = little_from-cons 0 n b bytes in
    let low : (b + 256 * little_from 1 n (b ∷ bytes)) % 256 ≡ b = omega arith in
    let high : (b + 256 * little_from 1 n (b ∷ bytes)) / 256 ≡ little_from 0 n bytes = omega (arith, moved) in
    let others : bytes_low_first 0 n (little_from 0 n bytes) ≡ bytes = little_bytes-number n bytes (omega (arith, len)) (λ i. fits (suc i)) in
    let rest : bytes_low_first 1 n (b + 256 * little_from 1 n (b ∷ bytes)) ≡ bytes = bytes_low_first-suc n 0 (b + 256 * little_from 1 n (b ∷ bytes)) ∙ ap (bytes_low_first 0 n) high ∙ others in
    rw (low, rest) refl

pub IsBytes-take : (n : ℕ) (bytes : List ℕ) → IsBytes bytes → IsBytes (take n bytes)
IsBytes-take n bytes h i = elim (cases_lt i n) [
  | inl lt ↦ rw (get_or-take n bytes i 0 lt) (h i)
  | inr le ↦ rw (get_or_past (take n bytes) i 0 (omega (arith, length-take n bytes))) (omega arith)
]

pub IsBytes-drop : (n : ℕ) (bytes : List ℕ) → IsBytes bytes → IsBytes (drop n bytes)
IsBytes-drop n bytes h i = rw get_or-drop (h (n + i))

-- what stands in front is the spelling of the number that it reads as
pub number_in_front : (n : ℕ) (bytes : List ℕ) → IsBytes bytes → n ≤ length bytes → bytes ≡ little_bytes n (little_number n bytes) ++ drop n bytes
number_in_front n bytes fits long =
    let len : length (take n bytes) ≡ n = omega (arith, length-take n bytes) in
    let front : little_bytes n (little_number n (take n bytes)) ≡ take n bytes = little_bytes-number n (take n bytes) len (IsBytes-take n bytes fits) in
    let same : little_number n (take n bytes) ≡ little_number n bytes = little_from-take 0 n n bytes (omega arith) in
    sym (take-append-drop n bytes) ∙ ap (λ (x : List ℕ). x ++ drop n bytes) (sym front ∙ ap (little_bytes n) same)

-- the same at a later place
pub number_at_place : (n k m : ℕ) (bytes : List ℕ) → IsBytes bytes → k + n ≤ length bytes → m ≡ k + n → drop k bytes ≡ little_bytes n (little_number n (drop k bytes)) ++ drop m bytes
number_at_place n k m bytes fits long e =
    let front = number_in_front n (drop k bytes) (IsBytes-drop k bytes fits) (omega (arith, length-drop k bytes)) in
    front ∙ ap (λ (x : List ℕ). little_bytes n (little_number n (drop k bytes)) ++ x) (drop-drop n k bytes ∙ ap (λ (j : ℕ). drop j bytes) (omega arith))
