-- Numbers with all their digits: how long they are, what they are made of, and that they tell the number.
use Rattle.std.proofs.Common.{◌≡◌, ℕ, zero, suc, ◌+◌, ◌*◌, ◌/◌, ◌%◌, ◌^◌, ◌<◌, ◌≤◌, inl, inr, List, [], ◌∷◌, ◌++◌, length, get_or, refl, arith, add-one}
use Rattle.std.proofs.lemmas.List.{length_push, get_or_append_left, get_or_push}
use Rattle.std.proofs.lemmas.Bool.{cases_lt}
use Rattle.time_patterns.specs.Digits.{digits}

-- of two equal lists whose fronts are equally long the fronts are equal and the rests too
pub append_split : {X : Type 0} (xs ys ps qs : List X) → xs ++ ps ≡ ys ++ qs → length xs ≡ length ys → (xs ≡ ys) × (ps ≡ qs)
append_split [] [] ps qs e l = (refl, e)
append_split [] (y ∷ ys) ps qs e l = absurd (omega arith)
append_split (x ∷ xs) [] ps qs e l = absurd (omega arith)
append_split (x ∷ xs) (y ∷ ys) ps qs e l =
    let tails : xs ++ ps ≡ ys ++ qs = cc in
    let rest = append_split xs ys ps qs tails (omega arith) in
    let first : x ≡ y = cc in
    ((cc (first, rest.0)), rest.1)

pub length-digits : (n x : ℕ) → length (digits n x) ≡ n
unfolding digits
length-digits zero x = refl
length-digits (suc n) x = omega (arith, length_push (digits n (x / 10)) (48 + x % 10), length-digits n (x / 10))

-- one more digit at the end
pub digits-more : (n x d : ℕ) → d < 10 → digits (n + 1) (x * 10 + d) ≡ digits n x ++ (48 + d) ∷ []
unfolding digits
digits-more n x d h =
    let front : (x * 10 + d) / 10 ≡ x = omega arith in
    let last : (x * 10 + d) % 10 ≡ d = omega arith in
    rw (add-one) (rw (front, last) refl)

-- each byte is a digit
pub digit_at : (n x k : ℕ) → k < n → (48 ≤ get_or (digits n x) k 0) × (get_or (digits n x) k 0 ≤ 57)
unfolding digits
digit_at zero x k h = absurd (omega arith)
digit_at (suc n) x k h =
    let long = length-digits n (x / 10) in
    elim (cases_lt k n) [
      | inl lt ↦ rw (get_or_append_left (digits n (x / 10)) ((48 + x % 10) ∷ []) 0 k (omega arith)) (digit_at n (x / 10) k lt)
      | inr ge ↦ let same : length (digits n (x / 10)) ≡ k = omega arith in rw (get_or_push (digits n (x / 10)) (48 + x % 10) 0 k same) (omega arith, omega arith)
    ]

-- numbers of at most n digits differ in them
pub digits-injective : (n x y : ℕ) → x < 10 ^ n → y < 10 ^ n → digits n x ≡ digits n y → x ≡ y
unfolding digits
digits-injective zero x y p q e = omega arith
digits-injective (suc n) x y p q e =
    let split = append_split (digits n (x / 10)) (digits n (y / 10)) ((48 + x % 10) ∷ []) ((48 + y % 10) ∷ []) e (omega (arith, length-digits n (x / 10), length-digits n (y / 10))) in
    let last : 48 + x % 10 ≡ 48 + y % 10 = cc (split.1) in
    let front = digits-injective n (x / 10) (y / 10) (omega arith) (omega arith) split.0 in
    omega arith

-- a list of six numbers is these
pub six : (xs : List ℕ) → length xs ≡ 6 → xs ≡ get_or xs 0 0 ∷ get_or xs 1 0 ∷ get_or xs 2 0 ∷ get_or xs 3 0 ∷ get_or xs 4 0 ∷ get_or xs 5 0 ∷ []
six (a ∷ b ∷ c ∷ d ∷ e ∷ f ∷ []) l = refl
six [] l = absurd (omega arith)
six (a ∷ []) l = absurd (omega arith)
six (a ∷ b ∷ []) l = absurd (omega arith)
six (a ∷ b ∷ c ∷ []) l = absurd (omega arith)
six (a ∷ b ∷ c ∷ d ∷ []) l = absurd (omega arith)
six (a ∷ b ∷ c ∷ d ∷ e ∷ []) l = absurd (omega arith)
six (a ∷ b ∷ c ∷ d ∷ e ∷ f ∷ g ∷ xs) l = absurd (omega arith)
