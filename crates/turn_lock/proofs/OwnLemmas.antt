-- The own list of a number, as the history grows.
use Rattle.std.proofs.Common.{◌≡◌, ◌≢◌, ℕ, zero, suc, ◌+◌, Bool, true, false, cond, List, [], ◌∷◌, ◌++◌, length, sym, refl, ap, ◌∙◌, subst, arith, Option, Some, None, slice_get, append-nil, eq-eqb, eqb-true, ne_eqb}
use mathlib.Core.Option.{some, some-injective, some-ne-none}
use mathlib.Core.List.{IsPrefix}
use lib.ListN.{get_elem?}
use Rattle.turn_lock.specs.History.{Mark, entries_of, unmarked, is_number, own_from, own, places, StandsIn}
use Rattle.turn_lock.specs.Grown.{Stands}
use Rattle.turn_lock.specs.StepPlays.{marked}
use Rattle.turn_lock.proofs.TurnLemmas.{some_same}

pub number_is : (o : Option ℕ) (n : ℕ) → o ≡ Some n → is_number o n ≡ true
number_is None n e = absurd (cc (e))
number_is (Some m) n e = eq-eqb m n (some_same m n e)

pub number_not : (o : Option ℕ) (n : ℕ) → o ≢ Some n → is_number o n ≡ false
number_not None n ne = refl
number_not (Some m) n ne = ne_eqb m n (λ e. ne (ap (λ (k : ℕ). Some k) e))

is_number_of : (o : Option ℕ) (n : ℕ) → is_number o n ≡ true → o ≡ Some n
is_number_of None n e = absurd (cc (e))
is_number_of (Some m) n e = ap (λ (k : ℕ). Some k) (eqb-true m n e)

module _ {E : Type 0} where
  -- nothing in the list was added under the number
  pub own_none : (n k : ℕ) (xs : List (Mark E)) → ((i : ℕ) (x : Mark E) → get_elem? xs i ≡ some x → x.1 ≢ Some n) → own_from n k xs ≡ []
  own_none n k [] none = refl
  own_none n k (x ∷ xs) none = ap (λ b. cond b ((k, x.0) ∷ own_from n (k + 1) xs) (own_from n (k + 1) xs)) (number_not x.1 n (none 0 x refl)) ∙ own_none n (k + 1) xs (λ i y at. none (suc i) y at)

  pub own_both : (n k : ℕ) (xs ys : List (Mark E)) → own_from n k (xs ++ ys) ≡ own_from n k xs ++ own_from n (k + length xs) ys
  own_both n k [] ys = ap (λ (j : ℕ). own_from n j ys) (omega arith)
  own_both n k (x ∷ xs) ys = let r = own_both n (k + 1) xs ys ∙ ap (λ (j : ℕ). own_from n (k + 1) xs ++ own_from n j ys) (let e : k + 1 + length xs ≡ k + length (x ∷ xs) = omega arith in e) in
      split (is_number x.1 n) r
    where
      split : (b : Bool) → own_from n (k + 1) (xs ++ ys) ≡ own_from n (k + 1) xs ++ own_from n (k + length (x ∷ xs)) ys
          → cond b ((k, x.0) ∷ own_from n (k + 1) (xs ++ ys)) (own_from n (k + 1) (xs ++ ys)) ≡ cond b ((k, x.0) ∷ own_from n (k + 1) xs) (own_from n (k + 1) xs) ++ own_from n (k + length (x ∷ xs)) ys
      split true r = ap (λ l. (k, x.0) ∷ l) r
      split false r = r

  pub own_marked : (n k : ℕ) (es : List E) → own_from n k (marked (Some n) es) ≡ places k es
  own_marked n k [] = refl
  own_marked n k (e ∷ es) = ap (λ b. cond b ((k, e) ∷ own_from n (k + 1) (marked (Some n) es)) (own_from n (k + 1) (marked (Some n) es))) (number_is (Some n) n refl) ∙ ap (λ l. (k, e) ∷ l) (own_marked n (k + 1) es)

  -- what follows was not added under the number
  pub own_same : (n : ℕ) (xs ys : List (Mark E)) → IsPrefix xs ys → Stands ys n (length xs) → own n ys ≡ own n xs
  own_same n xs ys p st = let none : own_from n (0 + length xs) p.0 ≡ [] = own_none n (0 + length xs) p.0 (λ i x at is. let far = st (length xs + i) x (subst (λ (l : List (Mark E)). get_elem? l (length xs + i) ≡ some x) p.1 (after xs p.0 i x at)) is in omega arith) in
      ap (own n) (sym p.1) ∙ (own_both n 0 xs p.0 ∙ (ap (λ l. own n xs ++ l) none ∙ append-nil (own n xs)))
    where
      after : (l m : List (Mark E)) (i : ℕ) (x : Mark E) → get_elem? m i ≡ some x → get_elem? (l ++ m) (length l + i) ≡ some x
      after [] m i x at = subst (λ (j : ℕ). get_elem? m j ≡ some x) (omega arith) at
      after (y ∷ ys) m i x at = subst (λ (j : ℕ). get_elem? (y ∷ (ys ++ m)) j ≡ some x) (let e : suc (length ys + i) ≡ length (y ∷ ys) + i = omega arith in e) (after ys m i x at)

  -- what follows was added under the number
  pub own_more : (n : ℕ) (xs : List (Mark E)) (es : List E) → own n (xs ++ marked (Some n) es) ≡ own n xs ++ places (length xs) es
  own_more n xs es = own_both n 0 xs (marked (Some n) es) ∙ (ap (λ l. own n xs ++ l) (own_marked n (0 + length xs) es) ∙ ap (λ (k : ℕ). own n xs ++ places k es) (omega arith))

  pub own_has : (n k : ℕ) (xs : List (Mark E)) (j : ℕ) (x : Mark E) → get_elem? xs j ≡ some x → x.1 ≡ Some n → StandsIn (own_from n k xs) (k + j) x.0
  own_has n k [] j x at is = absurd (some-ne-none x (sym at))
  own_has n k (y ∷ ys) zero x at is = let same : y ≡ x = some-injective y x at in
      subst (λ b. StandsIn (cond b ((k, y.0) ∷ own_from n (k + 1) ys) (own_from n (k + 1) ys)) (k + 0) x.0) (sym (number_is y.1 n (ap (λ (z : Mark E). z.1) same ∙ is)))
      (0, ap (λ (z : ℕ × E). Some z) (λ i. ((let e : k ≡ k + 0 = omega arith in e) i, (ap (λ (z : Mark E). z.0) same) i)))
  own_has n k (y ∷ ys) (suc j) x at is = let r = own_has n (k + 1) ys j x at is in
      let r' : StandsIn (own_from n (k + 1) ys) (k + suc j) x.0 = subst (λ (p : ℕ). StandsIn (own_from n (k + 1) ys) p x.0) (omega arith) r in later (is_number y.1 n) r'
    where
      later : (b : Bool) → StandsIn (own_from n (k + 1) ys) (k + suc j) x.0 → StandsIn (cond b ((k, y.0) ∷ own_from n (k + 1) ys) (own_from n (k + 1) ys)) (k + suc j) x.0
      later true r = (suc r.0, r.1)
      later false r = r

  pair_same : (p q : ℕ × E) → Some p ≡ Some q → p ≡ q
  pair_same p q e = cc

  -- what the own list of a number has was added under the number
  pub own_only : (n k : ℕ) (xs : List (Mark E)) (j : ℕ) (e : E) → StandsIn (own_from n k xs) j e → (i : ℕ) × (x : Mark E) × (j ≡ k + i) × (get_elem? xs i ≡ some x) × (x.1 ≡ Some n) × (x.0 ≡ e)
  own_only n k [] j e s = absurd (cc (s.1))
  own_only n k (y ∷ ys) j e s = split (λ t. let r = own_only n (k + 1) ys j e t in let place = r.2 in (suc r.0, r.1, omega arith, r.3, r.4, r.5)) (is_number y.1 n) refl s.0 s.1
    where
      Found : Type 0
      Found = (i : ℕ) × (x : Mark E) × (j ≡ k + i) × (get_elem? (y ∷ ys) i ≡ some x) × (x.1 ≡ Some n) × (x.0 ≡ e)

      split : (StandsIn (own_from n (k + 1) ys) j e → Found) → (b : Bool) → is_number y.1 n ≡ b → (i : ℕ) → slice_get (cond b ((k, y.0) ∷ own_from n (k + 1) ys) (own_from n (k + 1) ys)) i ≡ Some (j, e) → Found
      split later true is zero at = let same = pair_same (k, y.0) (j, e) at in let place : k ≡ j = ap (λ (z : ℕ × E). z.0) same in (0, y, omega arith, refl, is_number_of y.1 n is, ap (λ (z : ℕ × E). z.1) same)
      split later true is (suc i) at = later (i, at)
      split later false is i at = later (i, at)

  -- an element of a list is one of its entries
  entry_of : (xs : List (Mark E)) (i : ℕ) (x : Mark E) → get_elem? xs i ≡ some x → slice_get (entries_of xs) i ≡ Some x.0
  entry_of [] i x at = absurd (some-ne-none x (sym at))
  entry_of (y ∷ ys) zero x at = ap (λ (z : Mark E). Some z.0) (some-injective y x at)
  entry_of (y ∷ ys) (suc i) x at = entry_of ys i x at

  pub own_seen : (n : ℕ) (xs : List (Mark E)) (j : ℕ) (e : E) → StandsIn (own n xs) j e → slice_get (entries_of xs) j ≡ Some e
  own_seen n xs j e s = let r = own_only n 0 xs j e s in let place = r.2 in
      subst (λ (p : ℕ). slice_get (entries_of xs) p ≡ Some e) (omega arith) (entry_of xs r.0 r.1 r.3 ∙ ap (λ (z : E). Some z) r.5)

  -- a place stands in the own list of one number
  pub one_owner : (n m : ℕ) (xs : List (Mark E)) (j : ℕ) (d e : E) → StandsIn (own n xs) j d → StandsIn (own m xs) j e → n ≡ m
  one_owner n m xs j d e s t = let a = own_only n 0 xs j d s in let b = own_only m 0 xs j e t in let here = a.2 in let there = b.2 in
      let place : a.0 ≡ b.0 = omega arith in let same : a.1 ≡ b.1 = some-injective a.1 b.1 (sym a.3 ∙ (ap (λ (p : ℕ). get_elem? xs p) place ∙ b.3)) in
      some_same n m (sym a.4 ∙ (ap (λ (z : Mark E). z.1) same ∙ b.4))

  -- an entry of a list of elements is of one of them
  pub entry_at : (xs : List (Mark E)) (j : ℕ) (e : E) → slice_get (entries_of xs) j ≡ Some e → (x : Mark E) × (get_elem? xs j ≡ some x) × (x.0 ≡ e)
  entry_at [] j e at = absurd (cc (at))
  entry_at (x ∷ xs) zero e at = (x, refl, cc (at))
  entry_at (x ∷ xs) (suc j) e at = entry_at xs j e at

  pub entries_marked : (o : Option ℕ) (xs : List (Mark E)) (es : List E) → entries_of (xs ++ marked o es) ≡ entries_of xs ++ es
  entries_marked o [] [] = refl
  entries_marked o [] (e ∷ es) = ap (λ l. e ∷ l) (entries_marked o [] es)
  entries_marked o (x ∷ xs) es = ap (λ l. x.0 ∷ l) (entries_marked o xs es)

  pub entries_unmarked : (es : List E) → entries_of (unmarked es) ≡ es
  entries_unmarked [] = refl
  entries_unmarked (e ∷ es) = ap (λ l. e ∷ l) (entries_unmarked es)
