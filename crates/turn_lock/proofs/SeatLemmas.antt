-- Facts about each seat, about two seats and about some seat, as one view changes, is cut in two, or takes in another.
use Rattle.std.proofs.Common.{◌≡◌, ◌≢◌, ◌⊎◌, ℕ, zero, suc, ◌+◌, ◌<◌, List, [], ◌∷◌, ◌++◌, length, set, sym, refl, ap, ◌∙◌, subst, ⊎_elim, inl, inr, arith}
use mathlib.Core.Logic.{dite}
use mathlib.Core.Option.{some, some-injective, some-ne-none}
use native.Mathlib.Decide.{ℕ_discrete}
use lib.ListN.{get_elem?}
use Rattle.atomic_table.proofs.Lists.{at_set, set_here, set_else, at_longer, at_last}
use Rattle.turn_lock.specs.declared.board.View.{View}
use Rattle.turn_lock.specs.Grown.{Each, Someone, Apart, holders, waiting}

module _ {X : Type 0} where
  pub index_lt : (l : List X) (i : ℕ) (a : X) → get_elem? l i ≡ some a → i < length l
  index_lt [] i a e = absurd (some-ne-none a (sym e))
  index_lt (x ∷ xs) zero a e = omega arith
  index_lt (x ∷ xs) (suc i) a e = let h = index_lt xs i a e in omega arith

  pub same_at : (l : List X) (i j : ℕ) (a b : X) → get_elem? l i ≡ some a → get_elem? l j ≡ some b → i ≡ j → a ≡ b
  same_at l i j a b e f same = some-injective a b (sym e ∙ (ap (λ k. get_elem? l k) same ∙ f))

  -- an element of two lists in a row is of the first, or of the second
  pub at_both : (l m : List X) (b : X) (j : ℕ) → get_elem? (l ++ m) j ≡ some b → (get_elem? l j ≡ some b) ⊎ ((i : ℕ) × (j ≡ length l + i) × (get_elem? m i ≡ some b))
  at_both [] m b j e = inr (j, omega arith, e)
  at_both (x ∷ xs) m b zero e = inl e
  at_both (x ∷ xs) m b (suc j) e = ⊎_elim inl (λ (t : (i : ℕ) × (j ≡ length xs + i) × (get_elem? m i ≡ some b)). let n = t.1 in inr (t.0, omega arith, t.2)) (at_both xs m b j e)

  pub at_end : (l : List X) (a b : X) (j : ℕ) → get_elem? (l ++ a ∷ []) j ≡ some b → (get_elem? l j ≡ some b) ⊎ ((j ≡ length l) × (a ≡ b))
  at_end [] a b zero e = inr (refl, some-injective a b e)
  at_end [] a b (suc j) e = absurd (some-ne-none b (sym e))
  at_end (x ∷ xs) a b zero e = inl e
  at_end (x ∷ xs) a b (suc j) e = ⊎_elim inl (λ (t : (j ≡ length xs) × (a ≡ b)). let n = t.0 in inr (omega arith, t.1)) (at_end xs a b j e)

module _ {X : Type 0} where
  pub each_set : (P Q : X → Type 0) (views : List X) (id : ℕ) (w : X) → Each P views → ((i : ℕ) (v : X) → i ≢ id → get_elem? views i ≡ some v → P v → Q v) → Q w → Each Q (set views id w)
  each_set P Q views id w old others new i v at =
      ⊎_elim (λ (t : (i ≡ id) × (w ≡ v)). subst Q t.1 new) (λ (t : (i ≢ id) × (get_elem? views i ≡ some v)). others i v t.0 t.1 (old i v t.1)) (at_set views id i w v at)

  pub each_keep : (P : X → Type 0) (views : List X) (id : ℕ) (w : X) → Each P views → P w → Each P (set views id w)
  each_keep P views id w old new = each_set P P views id w old (λ _ _ _ _ p. p) new

  pub each_more : (P : X → Type 0) (views : List X) (w : X) → Each P views → P w → Each P (views ++ w ∷ [])
  each_more P views w old new i v at = ⊎_elim (old i v) (λ (t : (i ≡ length views) × (w ≡ v)). subst P t.1 new) (at_end views w v i at)

  pub each_back : (P : X → Type 0) (views : List X) (id : ℕ) (v w : X) → get_elem? views id ≡ some v → (P w → P v) → Each P (set views id w) → Each P views
  each_back P views id v w at back h i u e = dite (ℕ_discrete i id)
      (λ same. subst P (same_at views id i v u at e (sym same)) (back (h id w (set_here views id w (index_lt views id v at)))))
      (λ ne. h i u (set_else views id i w ne ∙ e))

  pub each_less : (P : X → Type 0) (views : List X) (w : X) → Each P (views ++ w ∷ []) → Each P views
  each_less P views w h i v e = h i v (at_longer views (w ∷ []) i v e)

  -- where one view takes in another
  pub each_join : (P : X → Type 0) (views : List X) (id other : ℕ) (both spent : X) → Each P views → P both → P spent → Each P (set (set views id both) other spent)
  each_join P views id other both spent old b s = each_keep P (set views id both) other spent (each_keep P views id both old b) s

  pub each_unjoin : (P : X → Type 0) (views : List X) (id other : ℕ) (v both w spent : X) → get_elem? views id ≡ some v → get_elem? (set views id both) other ≡ some w
      → (P both → P v) → P w → Each P (set (set views id both) other spent) → Each P views
  each_unjoin P views id other v both w spent at there back pw h = each_back P views id v both at back (each_back P (set views id both) other w spent there (λ _. pw) h)

  new_claim : (C : X → ℕ → Type 0) (views : List X) (id : ℕ) (v w : X) (n : ℕ) → Apart C views → get_elem? views id ≡ some v → (C v n ⊎ ((j : ℕ) (u : X) → get_elem? views j ≡ some u → C u n → ⊥))
      → (j : ℕ) (y : X) → get_elem? views j ≡ some y → C y n → id ≡ j
  new_claim C views id v w n old at from j y e c = ⊎_elim (λ (h : C v n). old id j v y n at e h c) (λ (h : (j : ℕ) (u : X) → get_elem? views j ≡ some u → C u n → ⊥). absurd (h j y e c)) from

  pub apart_set : (C : X → ℕ → Type 0) (views : List X) (id : ℕ) (v w : X) → Apart C views → get_elem? views id ≡ some v
      → ((n : ℕ) → C w n → C v n ⊎ ((j : ℕ) (u : X) → get_elem? views j ≡ some u → C u n → ⊥)) → Apart C (set views id w)
  apart_set C views id v w old at from i j x y n ei ej cx cy =
      ⊎_elim (λ (s : (i ≡ id) × (w ≡ x)). ⊎_elim (λ (t : (j ≡ id) × (w ≡ y)). s.0 ∙ sym t.0)
      (λ (t : (j ≢ id) × (get_elem? views j ≡ some y)). s.0 ∙ new_claim C views id v w n old at (from n (subst (λ z. C z n) (sym s.1) cx)) j y t.1 cy) (at_set views id j w y ej))
      (λ (s : (i ≢ id) × (get_elem? views i ≡ some x)). ⊎_elim (λ (t : (j ≡ id) × (w ≡ y)). sym (new_claim C views id v w n old at (from n (subst (λ z. C z n) (sym t.1) cy)) i x s.1 cx) ∙ sym t.0)
      (λ (t : (j ≢ id) × (get_elem? views j ≡ some y)). old i j x y n s.1 t.1 cx cy) (at_set views id j w y ej)) (at_set views id i w x ei)

  pub apart_keep : (C : X → ℕ → Type 0) (views : List X) (id : ℕ) (v w : X) → Apart C views → get_elem? views id ≡ some v → ((n : ℕ) → C w n → C v n) → Apart C (set views id w)
  apart_keep C views id v w old at from = apart_set C views id v w old at (λ n c. inl (from n c))

  pub apart_split : (C : X → ℕ → Type 0) (views : List X) (id : ℕ) (v left right : X) → Apart C views → get_elem? views id ≡ some v
      → ((n : ℕ) → C left n → C v n) → ((n : ℕ) → C right n → C v n) → ((n : ℕ) → C left n → C right n → ⊥) → Apart C (set views id left ++ right ∷ [])
  apart_split C views id v left right old at from_left from_right never i j x y n ei ej cx cy =
      let across : (k : ℕ) (z : X) → get_elem? (set views id left) k ≡ some z → C z n → C right n → ⊥ = λ k z e cz cr.
      ⊎_elim (λ (t : (k ≡ id) × (left ≡ z)). never n (subst (λ q. C q n) (sym t.1) cz) cr) (λ (t : (k ≢ id) × (get_elem? views k ≡ some z)). t.0 (old k id z v n t.1 at cz (from_right n cr))) (at_set views id k left z e) in
      ⊎_elim (λ (s : get_elem? (set views id left) i ≡ some x). ⊎_elim (λ (t : get_elem? (set views id left) j ≡ some y). apart_keep C views id v left old at from_left i j x y n s t cx cy)
      (λ (t : (j ≡ length (set views id left)) × (right ≡ y)). absurd (across i x s cx (subst (λ q. C q n) (sym t.1) cy))) (at_end (set views id left) right y j ej))
      (λ (s : (i ≡ length (set views id left)) × (right ≡ x)). ⊎_elim (λ (t : get_elem? (set views id left) j ≡ some y). absurd (across j y t cy (subst (λ q. C q n) (sym s.1) cx)))
      (λ (t : (j ≡ length (set views id left)) × (right ≡ y)). s.0 ∙ sym t.0) (at_end (set views id left) right y j ej)) (at_end (set views id left) right x i ei)

  pub apart_join : (C : X → ℕ → Type 0) (views : List X) (id other : ℕ) (v both w spent : X) → Apart C views → get_elem? views id ≡ some v → (other ≡ id → ⊥) → get_elem? (set views id both) other ≡ some w
      → ((n : ℕ) → C both n → C v n ⊎ C w n) → ((n : ℕ) → C spent n → ⊥) → Apart C (set (set views id both) other spent)
  apart_join C views id other v both w spent old at apart there from never i j x y n ei ej cx cy =
      let there' : get_elem? views other ≡ some w = sym (set_else views id other both apart) ∙ there in
      let stays : (k : ℕ) (z : X) → get_elem? (set (set views id both) other spent) k ≡ some z → C z n → (k ≢ other) × (get_elem? (set views id both) k ≡ some z) = λ k z e c.
      ⊎_elim (λ (t : (k ≡ other) × (spent ≡ z)). absurd (never n (subst (λ q. C q n) (sym t.1) c))) (λ (t : (k ≢ other) × (get_elem? (set views id both) k ≡ some z)). t) (at_set (set views id both) other k spent z e) in
      let taken : (k : ℕ) (z : X) → C both n → k ≢ other → get_elem? views k ≡ some z → C z n → id ≡ k = λ k z cb ne e c.
      ⊎_elim (λ (h : C v n). old id k v z n at e h c) (λ (h : C w n). absurd (ne (sym (old other k w z n there' e h c)))) (from n cb) in
      let s = stays i x ei cx in let t = stays j y ej cy in
      ⊎_elim (λ (p : (i ≡ id) × (both ≡ x)). ⊎_elim (λ (q : (j ≡ id) × (both ≡ y)). p.0 ∙ sym q.0)
      (λ (q : (j ≢ id) × (get_elem? views j ≡ some y)). p.0 ∙ taken j y (subst (λ z. C z n) (sym p.1) cx) t.0 q.1 cy) (at_set views id j both y t.1))
      (λ (p : (i ≢ id) × (get_elem? views i ≡ some x)). ⊎_elim (λ (q : (j ≡ id) × (both ≡ y)). sym (taken i x (subst (λ z. C z n) (sym q.1) cy) s.0 p.1 cx) ∙ sym q.0)
      (λ (q : (j ≢ id) × (get_elem? views j ≡ some y)). old i j x y n p.1 q.1 cx cy) (at_set views id j both y t.1)) (at_set views id i both x s.1)

  pub someone_set : (P Q : X → Type 0) (views : List X) (id : ℕ) (v w : X) → get_elem? views id ≡ some v → (P v → Q w) → ((u : X) → P u → Q u) → Someone P views → Someone Q (set views id w)
  someone_set P Q views id v w at own others h = dite (ℕ_discrete h.0 id)
      (λ same. (id, w, set_here views id w (index_lt views id v at), own (subst P (same_at views h.0 id h.1 v h.2 at same) h.3)))
      (λ ne. (h.0, h.1, set_else views id h.0 w ne ∙ h.2, others h.1 h.3))

  pub someone_split : (P : X → Type 0) (views : List X) (id : ℕ) (v left right : X) → get_elem? views id ≡ some v → (P v → P left ⊎ P right) → Someone P views → Someone P (set views id left ++ right ∷ [])
  someone_split P views id v left right at own h = dite (ℕ_discrete h.0 id)
      (λ same. ⊎_elim (λ (p : P left). (id, left, at_longer (set views id left) (right ∷ []) id left (set_here views id left (index_lt views id v at)), p))
      (λ (p : P right). (length (set views id left), right, at_last (set views id left) right (length (set views id left)) refl, p)) (own (subst P (same_at views h.0 id h.1 v h.2 at same) h.3)))
      (λ ne. (h.0, h.1, at_longer (set views id left) (right ∷ []) h.0 h.1 (set_else views id h.0 left ne ∙ h.2), h.3))

  pub someone_join : (P : X → Type 0) (views : List X) (id other : ℕ) (v both w spent : X) → get_elem? views id ≡ some v → (other ≡ id → ⊥) → get_elem? (set views id both) other ≡ some w
      → (P v → P both) → (P w → P both) → Someone P views → Someone P (set (set views id both) other spent)
  someone_join P views id other v both w spent at apart there from_v from_w h =
      let there' : get_elem? views other ≡ some w = sym (set_else views id other both apart) ∙ there in
      let here : get_elem? (set (set views id both) other spent) id ≡ some both = set_else (set views id both) other id spent (λ e. apart (sym e)) ∙ set_here views id both (index_lt views id v at) in
      dite (ℕ_discrete h.0 id) (λ same. (id, both, here, from_v (subst P (same_at views h.0 id h.1 v h.2 at same) h.3)))
      (λ ne. dite (ℕ_discrete h.0 other) (λ same. (id, both, here, from_w (subst P (same_at views h.0 other h.1 w h.2 there' same) h.3)))
      (λ far. (h.0, h.1, set_else (set views id both) other h.0 spent far ∙ (set_else views id h.0 both ne ∙ h.2), h.3)))

module _ {E F : Type 0} where
  pub waiting_set : (views : List (View E F)) (id : ℕ) (v w : View E F) → get_elem? views id ≡ some v → waiting (set views id w) + holders v.ticket ≡ waiting views + holders w.ticket
  waiting_set [] id v w e = absurd (some-ne-none v (sym e))
  waiting_set (x ∷ xs) zero v w e = let same = ap (λ (u : View E F). holders u.ticket) (some-injective x v e) in omega arith
  waiting_set (x ∷ xs) (suc i) v w e = let h = waiting_set xs i v w e in omega arith

  pub waiting_more : (views : List (View E F)) (w : View E F) → waiting (views ++ w ∷ []) ≡ waiting views + holders w.ticket
  waiting_more [] w = omega arith
  waiting_more (x ∷ xs) w = let h = waiting_more xs w in omega arith
