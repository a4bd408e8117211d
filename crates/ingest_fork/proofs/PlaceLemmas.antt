-- What stands at a place of a list: joined lists, and a list with one element set.
use Rattle.std.proofs.Common.{◌≡◌, ◌≢◌, ℕ, zero, suc, ◌+◌, ◌-◌, ◌<◌, ◌≤◌, List, [], ◌∷◌, ◌++◌, length, set, sym, refl, ap, ◌∙◌, subst, arith, Some, slice_get, length-append, append-nil}
use mathlib.Core.List.{IsPrefix}
use Rattle.turn_lock.proofs.FrontLemmas.{prefix_get, prefix_trans}

module _ {X : Type 0} where
  pub at_left : (xs ys : List X) (i : ℕ) (x : X) → slice_get xs i ≡ Some x → slice_get (xs ++ ys) i ≡ Some x
  at_left [] ys i x at = absurd (cc (at))
  at_left (y ∷ xs) ys zero x at = at
  at_left (y ∷ xs) ys (suc i) x at = at_left xs ys i x at

  pub at_right : (xs ys : List X) (i : ℕ) → slice_get (xs ++ ys) (length xs + i) ≡ slice_get ys i
  at_right [] ys i = ap (λ (j : ℕ). slice_get ys j) (omega arith)
  at_right (y ∷ xs) ys i = ap (λ (j : ℕ). slice_get (y ∷ (xs ++ ys)) j) (let e : length (y ∷ xs) + i ≡ suc (length xs + i) = omega arith in e) ∙ at_right xs ys i

  pub in_left : (xs ys : List X) (i : ℕ) → i < length xs → slice_get (xs ++ ys) i ≡ slice_get xs i
  in_left [] ys i lt = absurd (omega arith)
  in_left (y ∷ xs) ys zero lt = refl
  in_left (y ∷ xs) ys (suc i) lt = in_left xs ys i (omega arith)

  pub in_right : (xs ys : List X) (i : ℕ) → length xs ≤ i → slice_get (xs ++ ys) i ≡ slice_get ys (i - length xs)
  in_right xs ys i le = ap (λ (j : ℕ). slice_get (xs ++ ys) j) (let e : i ≡ length xs + (i - length xs) = omega arith in e) ∙ at_right xs ys (i - length xs)

  pub set_at : (xs : List X) (i : ℕ) (x : X) → i < length xs → slice_get (set xs i x) i ≡ Some x
  set_at [] i x lt = absurd (omega arith)
  set_at (y ∷ xs) zero x lt = refl
  set_at (y ∷ xs) (suc i) x lt = set_at xs i x (omega arith)

  pub set_off : (xs : List X) (i n : ℕ) (x : X) → n ≢ i → slice_get (set xs i x) n ≡ slice_get xs n
  set_off [] i n x ne = refl
  set_off (y ∷ xs) zero zero x ne = absurd (ne refl)
  set_off (y ∷ xs) zero (suc n) x ne = refl
  set_off (y ∷ xs) (suc i) zero x ne = refl
  set_off (y ∷ xs) (suc i) (suc n) x ne = set_off xs i n x (λ e. ne (ap (λ (k : ℕ). suc k) e))

  -- the element between two lists
  pub at_seam : (xs ys : List X) (x : X) → slice_get (xs ++ x ∷ ys) (length xs) ≡ Some x
  at_seam [] ys x = refl
  at_seam (y ∷ xs) ys x = at_seam xs ys x

  -- what stands behind a list begins with the element at its end
  pub first_behind : (xs ys : List X) (x : X) → slice_get (xs ++ ys) (length xs) ≡ Some x → (more : List X) × (ys ≡ x ∷ more)
  first_behind [] [] x at = absurd (cc (at))
  first_behind [] (y ∷ ys) x at = let same : y ≡ x = cc (at) in (ys, ap (λ (z : X). z ∷ ys) same)
  first_behind (z ∷ xs) ys x at = first_behind xs ys x at

  -- nothing stands behind a list that is as long as the whole
  pub all_of : (all xs ys : List X) → all ≡ xs ++ ys → length all ≤ length xs → all ≡ xs
  all_of all xs [] is le = is ∙ append-nil xs
  all_of all xs (y ∷ ys) is le = let count = ap length is ∙ length-append xs (y ∷ ys) in absurd (omega arith)

  pub there_is : (xs : List X) (i : ℕ) → i < length xs → (x : X) × (slice_get xs i ≡ Some x)
  there_is [] i lt = absurd (omega arith)
  there_is (y ∷ xs) zero lt = (y, refl)
  there_is (y ∷ xs) (suc i) lt = there_is xs i (omega arith)

  -- the last element of a beginning
  pub last_of : (all xs ys : List X) (x : X) → IsPrefix xs all → xs ≡ ys ++ x ∷ [] → slice_get all (length ys) ≡ Some x
  last_of all xs ys x front is = let here : slice_get (ys ++ x ∷ []) (length ys) ≡ Some x = ap (λ (n : ℕ). slice_get (ys ++ x ∷ []) n) (let e : length ys ≡ length ys + 0 = omega arith in e) ∙ at_right ys (x ∷ []) 0 in
      prefix_get xs all (length ys) x front (subst (λ l. slice_get l (length ys) ≡ Some x) (sym is) here)

  pub before_last : (all xs ys : List X) (x : X) → IsPrefix xs all → xs ≡ ys ++ x ∷ [] → IsPrefix ys all
  before_last all xs ys x front is = prefix_trans ys xs all (x ∷ [], sym is) front

  pub one_longer : (xs ys : List X) (x : X) → xs ≡ ys ++ x ∷ [] → length xs ≡ length ys + 1
  one_longer xs ys x is = ap length is ∙ length-append ys (x ∷ [])
