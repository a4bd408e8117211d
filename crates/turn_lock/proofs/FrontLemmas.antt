-- Beginnings of one list.
use Rattle.std.proofs.Common.{◌≡◌, ◌⊎◌, ℕ, zero, suc, ◌≤◌, List, [], ◌∷◌, ◌++◌, map, length, drop, Some, slice_get, refl, ap, sym, ◌∙◌, subst, ⊎_elim, inl, inr, arith, append_assoc, length-append}
use mathlib.Core.List.{IsPrefix}
use mathlib.Core.Option.{some}
use lib.ListN.{get_elem?}
use Rattle.atomic_table.proofs.Lists.{at_longer}
use Rattle.turn_lock.specs.StepPlays.{longer}

module _ {A : Type 0} where
  -- each list begins with itself
  pub prefix_self : (xs : List A) → IsPrefix xs xs
  prefix_self [] = ([], refl)
  prefix_self (x ∷ xs) = (let r = prefix_self xs in r.0, ap (λ ys. x ∷ ys) (prefix_self xs).1)

  pub prefix_trans : (xs ys zs : List A) → IsPrefix xs ys → IsPrefix ys zs → IsPrefix xs zs
  prefix_trans xs ys zs p q = (p.0 ++ q.0, sym (append_assoc xs p.0 q.0) ∙ (ap (λ w. w ++ q.0) p.1 ∙ q.1))

  -- a beginning as long as the whole is the whole
  pub prefix_whole : (xs ys : List A) → IsPrefix xs ys → length ys ≤ length xs → xs ≡ ys
  prefix_whole [] [] p le = refl
  prefix_whole [] (y ∷ ys) p le = absurd (omega arith)
  prefix_whole (x ∷ xs) [] p le = absurd (cc (p.1))
  prefix_whole (x ∷ xs) (y ∷ ys) p le = let rest = prefix_whole xs ys (p.0, cc (p.1)) (omega arith) in cc (p.1, rest)

  pub prefix_length : (xs ys : List A) → IsPrefix xs ys → length xs ≤ length ys
  prefix_length xs ys p = omega (arith, sym (ap length p.1) ∙ length-append xs p.0)

  -- what stands in a beginning stands in the whole, at the same place
  pub prefix_at : (xs ys : List A) (k : ℕ) (x : A) → IsPrefix xs ys → get_elem? xs k ≡ some x → get_elem? ys k ≡ some x
  prefix_at xs ys k x p h = subst (λ (zs : List A). get_elem? zs k ≡ some x) p.1 (at_longer xs p.0 k x h)

  pub prefix_get : (xs ys : List A) (k : ℕ) (x : A) → IsPrefix xs ys → slice_get xs k ≡ Some x → slice_get ys k ≡ Some x
  prefix_get [] ys k x p h = absurd cc
  prefix_get (y ∷ xs) [] k x p h = absurd (cc (p.1))
  prefix_get (y ∷ xs) (z ∷ ys) zero x p h = cc (p.1, h)
  prefix_get (y ∷ xs) (z ∷ ys) (suc k) x p h = prefix_get xs ys k x (p.0, cc (p.1)) h

  -- of two beginnings of one list, each begins the longer, which begins the list
  pub longer_left : (xs ys h : List A) → IsPrefix xs h → IsPrefix ys h → IsPrefix xs (longer xs ys)
  longer_left [] ys h p q = (ys, refl)
  longer_left (x ∷ xs) [] h p q = prefix_self (x ∷ xs)
  longer_left (x ∷ xs) (y ∷ ys) [] p q = absurd (cc (p.1))
  longer_left (x ∷ xs) (y ∷ ys) (z ∷ zs) p q = let r = longer_left xs ys zs (p.0, cc (p.1)) (q.0, cc (q.1)) in (r.0, cc (r.1))

  pub longer_right : (xs ys h : List A) → IsPrefix xs h → IsPrefix ys h → IsPrefix ys (longer xs ys)
  longer_right [] ys h p q = prefix_self ys
  longer_right (x ∷ xs) [] h p q = (x ∷ xs, refl)
  longer_right (x ∷ xs) (y ∷ ys) [] p q = absurd (cc (p.1))
  longer_right (x ∷ xs) (y ∷ ys) (z ∷ zs) p q = let heads : x ≡ y = cc (p.1, q.1) in let r = longer_right xs ys zs (p.0, cc (p.1)) (q.0, cc (q.1)) in (r.0, cc (heads, r.1))

  pub longer_front : (xs ys h : List A) → IsPrefix xs h → IsPrefix ys h → IsPrefix (longer xs ys) h
  longer_front [] ys h p q = q
  longer_front (x ∷ xs) [] h p q = p
  longer_front (x ∷ xs) (y ∷ ys) [] p q = absurd (cc (p.1))
  longer_front (x ∷ xs) (y ∷ ys) (z ∷ zs) p q = let heads : x ≡ z = cc (p.1) in let r = longer_front xs ys zs (p.0, cc (p.1)) (q.0, cc (q.1)) in (r.0, cc (heads, r.1))

  pub longer_either : (xs ys h : List A) → IsPrefix xs h → IsPrefix ys h → (longer xs ys ≡ xs) ⊎ (longer xs ys ≡ ys)
  longer_either [] ys h p q = inr refl
  longer_either (x ∷ xs) [] h p q = inl refl
  longer_either (x ∷ xs) (y ∷ ys) [] p q = absurd (cc (p.1))
  longer_either (x ∷ xs) (y ∷ ys) (z ∷ zs) p q = let heads : x ≡ y = cc (p.1, q.1) in
      ⊎_elim (λ (e : longer xs ys ≡ xs). inl (ap (λ l. x ∷ l) e)) (λ (e : longer xs ys ≡ ys). inr (cc (heads, e))) (longer_either xs ys zs (p.0, cc (p.1)) (q.0, cc (q.1)))

  -- what follows a list's beginning
  pub drop_front : {B : Type 0} (xs : List B) (ys rest : List A) → length ys ≡ length xs → drop (length xs) (ys ++ rest) ≡ rest
  drop_front [] [] rest e = refl
  drop_front [] (y ∷ ys) rest e = absurd (omega arith)
  drop_front (x ∷ xs) [] rest e = absurd (omega arith)
  drop_front (x ∷ xs) (y ∷ ys) rest e = drop_front xs ys rest (omega arith)

-- the same as entries
pub prefix_map : {A B : Type 0} (f : A → B) (xs ys : List A) → IsPrefix xs ys → IsPrefix (map f xs) (map f ys)
prefix_map f [] ys p = (map f ys, refl)
prefix_map f (x ∷ xs) [] p = absurd (cc (p.1))
prefix_map f (x ∷ xs) (y ∷ ys) p = let r = prefix_map f xs ys (p.0, cc (p.1)) in let h : x ≡ y = cc (p.1) in (r.0, cc (r.1, ap f h))
