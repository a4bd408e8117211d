-- How often numbers stand among numbers.
use Rattle.std.proofs.Common.{◌≡◌, ◌+◌, ◌<◌, ◌≤◌, ◌&&◌, ◌∷◌, ℕ, Bool, true, false, List, [], map, cond, nat_lt, nat_eq, All, Contains, get_or, arith, refl, ap, sym, ◌∙◌, count_by}
use Rattle.std.proofs.lemmas.Bool.Decides.{nat_tests}
use Rattle.std.proofs.lemmas.List.Sums.{sum_by-cons, get_or-le-sum_by}
use Rattle.std.proofs.lemmas.List.Elements.{All-head, All-tail}

-- of a list with one more in front
pub count_cons : {X : Type 0} (p : X → Bool) (x : X) (xs : List X) → count_by p (x ∷ xs) ≡ cond (p x) 1 0 + count_by p xs
count_cons p x xs = sum_by-cons (λ y. cond (p y) 1 0) x xs

-- of a list that a function gives
pub count_map : {X Y : Type 0} (p : Y → Bool) (f : X → Y) (xs : List X) → count_by p (map f xs) ≡ count_by (λ x. p (f x)) xs
count_map p f [] = refl
count_map p f (x ∷ xs) =
    count_cons p (f x) (map f xs) ∙ ap (λ n. cond (p (f x)) 1 0 + n) (count_map p f xs) ∙ sym (count_cons (λ y. p (f y)) x xs)

one_below : (p : ℕ → Bool) (n x : ℕ)
    → cond (p x && nat_lt x (n + 1)) 1 0 ≡ cond (p x && nat_lt x n) 1 0 + cond (p n) (cond (nat_eq x n) 1 0) 0
one_below p n x = grind (arith, nat_tests)

join_cond : (b : Bool) (i j k l : ℕ) → (i + cond b j 0) + (k + cond b l 0) ≡ (i + k) + cond b (j + l) 0
join_cond true i j k l = omega arith
join_cond false i j k l = omega arith

-- those that are below n + 1 are those below n, and n
pub count_below_more : (p : ℕ → Bool) (n : ℕ) (xs : List ℕ)
    → count_by (λ m. p m && nat_lt m (n + 1)) xs ≡ count_by (λ m. p m && nat_lt m n) xs + cond (p n) (count_by (λ m. nat_eq m n) xs) 0
count_below_more p n [] = grind arith
count_below_more p n (x ∷ xs) =
    let a = count_cons (λ m. p m && nat_lt m (n + 1)) x xs in
    let b = count_cons (λ m. p m && nat_lt m n) x xs in
    let c = count_cons (λ m. nat_eq m n) x xs in
    let d = one_below p n x in
    let e = count_below_more p n xs in
    let j = join_cond (p n) (cond (p x && nat_lt x n) 1 0) (cond (nat_eq x n) 1 0) (count_by (λ m. p m && nat_lt m n) xs) (count_by (λ m. nat_eq m n) xs) in
    rw (a, b, c, d, e) j

here_all : (b c : Bool) → c ≡ true → cond {A = ℕ} (b && c) 1 0 ≡ cond b 1 0
here_all true c e = ap (λ (x : Bool). cond {A = ℕ} x 1 0) e
here_all false c e = refl

-- where none is at or above n, those below n are all
pub count_below_all : (p : ℕ → Bool) (n : ℕ) (xs : List ℕ) → ((m : ℕ) → n ≤ m → count_by (λ x. nat_eq x m) xs ≡ 0)
    → count_by (λ m. p m && nat_lt m n) xs ≡ count_by p xs
count_below_all p n [] none = refl
count_below_all p n (x ∷ xs) none =
    let a = count_cons (λ m. p m && nat_lt m n) x xs in
    let b = count_cons p x xs in
    let tail : (m : ℕ) → n ≤ m → count_by (λ y. nat_eq y m) xs ≡ 0 = λ m h. omega (arith, none m h, count_cons (λ y. nat_eq y m) x xs) in
    let e = count_below_all p n xs tail in
    let here : nat_lt x n ≡ true = grind (arith, nat_tests, none x, count_cons (λ y. nat_eq y x) x xs) in
    let f = here_all (p x) (nat_lt x n) here in
    rw (a, b, f, e) refl

-- where all are below n, none is a number at or above it
pub count_none : (n t : ℕ) (xs : List ℕ) → All (λ x. x < n) xs → n ≤ t → count_by (λ x. nat_eq x t) xs ≡ 0
count_none n t [] all h = refl
count_none n t (x ∷ xs) all h =
    let a = count_cons (λ y. nat_eq y t) x xs in
    let b = All-head (λ y. y < n) x xs all in
    let c = count_none n t xs (All-tail (λ y. y < n) x xs all) h in
    grind (arith, nat_tests)

-- a list that has an element which passes has one or more
pub count_some : {X : Type 0} (p : X → Bool) (xs : List X) (x : X) → Contains xs x → p x ≡ true → 0 < count_by p xs
count_some p xs x (k, below, is) passing =
    let at = get_or-le-sum_by (λ y. cond (p y) 1 0) xs k x below in
    let passes : p (get_or xs k x) ≡ true = ap p is ∙ passing in
    omega (arith, rw passes at at)
