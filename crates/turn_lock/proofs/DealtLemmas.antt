-- Whose number is whose after each step, and where what was added under it stands.
use Rattle.std.proofs.Common.{◌≡◌, ◌≢◌, ◌⊎◌, ℕ, ◌+◌, ◌<◌, ◌≤◌, false, List, [], ◌∷◌, ◌++◌, length, set, sym, ap, ◌∙◌, subst, ⊎_elim, inl, inr, arith, Option, Some, None, length-append}
use mathlib.Core.Logic.{dite}
use native.Mathlib.Decide.{ℕ_discrete, dec_le}
use mathlib.Core.Option.{some, some-injective, some-ne-none}
use mathlib.Core.List.{IsPrefix}
use lib.ListN.{get_elem?}
use Rattle.atomic_table.proofs.Lists.{set_here, set_else}
use Rattle.turn_lock.specs.declared.board.About.{About}
use Rattle.turn_lock.specs.declared.board.View.{View}
use Rattle.turn_lock.specs.History.{Mark, Has}
use Rattle.turn_lock.specs.Grown.{Stands, Makes, Claims, Owns, Dealt}
use Rattle.turn_lock.specs.StepPlays.{spent, joined, learns, longer, more, one_more, numbers, fresh, marked}
use Rattle.turn_lock.proofs.FrontLemmas.{prefix_at}
use Rattle.turn_lock.proofs.SeatLemmas.{index_lt, at_both, each_set, each_keep, each_more, each_join, apart_set, apart_keep, apart_split, apart_join, someone_set, someone_split, someone_join}
use Rattle.turn_lock.proofs.TurnLemmas.{some_same}

module _ {E : Type 0} where
  pub stands_far : (h : List (Mark E)) (n i j : ℕ) → Stands h n i → i ≤ j → Stands h n j
  stands_far h n i j s le k x at is = let lt = s k x at is in omega arith

  pub stands_front : (s h : List (Mark E)) (n i : ℕ) → IsPrefix s h → Stands h n i → Stands s n i
  stands_front s h n i p st k x at is = st k x (prefix_at s h k x p at) is

  pub stands_all : (h s : List (Mark E)) (n : ℕ) → s ≡ h → Stands h n (length s)
  stands_all h s n same k x at is = let lt = index_lt h k x at in omega (arith, ap length same)

  pub stands_more : (h m : List (Mark E)) (n k : ℕ) → Stands h n k → ((i : ℕ) (x : Mark E) → get_elem? m i ≡ some x → x.1 ≢ Some n) → Stands (h ++ m) n k
  stands_more h m n k s none j x at is = ⊎_elim (λ (e : get_elem? h j ≡ some x). s j x e is) (λ (t : (i : ℕ) × (j ≡ length h + i) × (get_elem? m i ≡ some x)). absurd (none t.0 x t.2 is)) (at_both h m x j at)

  pub at_marked : (o : Option ℕ) (es : List E) (i : ℕ) (x : Mark E) → get_elem? (marked o es) i ≡ some x → (x.1 ≡ o) × (get_elem? es i ≡ some x.0)
  at_marked o [] i x at = absurd (some-ne-none x (sym at))
  at_marked o (e ∷ es) Rattle.std.proofs.Common.zero x at = let same : (e, o) ≡ x = some-injective (e, o) x at in (sym (ap (λ (y : Mark E). y.1) same), ap (λ (y : Mark E). some y.0) same)
  at_marked o (e ∷ es) (Rattle.std.proofs.Common.suc i) x at = at_marked o es i x at

pub has_more : (g : Option ℕ) (ns : List ℕ) (n : ℕ) → Has (more g ns) n → (g ≡ Some n) ⊎ Has ns n
has_more None ns n h = inr h
has_more (Some m) ns n h = ⊎_elim (λ e. inl (ap (λ (k : ℕ). Some k) e)) inr h

pub more_has : (g : Option ℕ) (ns : List ℕ) (n : ℕ) → (g ≡ Some n) ⊎ Has ns n → Has (more g ns) n
more_has None ns n h = ⊎_elim (λ e. absurd (cc (e))) (λ p. p) h
more_has (Some m) ns n h = ⊎_elim (λ e. inl (some_same m n e)) inr h

-- a seat that joined nobody
nothing : (n : ℕ) → (None ≡ Some n) ⊎ Has [] n → ⊥
nothing n c = ⊎_elim (λ (e : None ≡ Some n). cc (e)) (λ (e : ⊥). e) c

module _ {E F : Type 0} (may : ℕ → E → Type 0) (base : About F) (count : ℕ) (h : List (Mark E)) (views : List (View E F)) (id : ℕ) (v : View E F) (k : Dealt may base count h views) (at : get_elem? views id ≡ some v) where
  abbrev Own : View E F → Type 0
  Own u = Owns base.first count h u

  pub dealt_set : (w : View E F) → Own w → ((n : ℕ) → Claims w n → Claims v n) → ((n : ℕ) → Claims v n → Claims w n) → ((m : ℕ) → Makes w m → Makes v m) → Dealt may base count h (set views id w)
  dealt_set w own back on makes = record {
    low = k.low;
    opened = k.opened;
    room = k.room;
    owning = each_keep Own views id w k.owning own;
    claims = apart_keep Claims views id v w k.claims at back;
    makers = apart_keep Makes views id v w k.makers at makes;
    claimed = λ n low high. someone_set (λ u. Claims u n) (λ u. Claims u n) views id v w at (on n) (λ _ p. p) (k.claimed n low high);
    added = k.added;
    plain = k.plain;
  }

  -- the seat with the number n adds m to the history
  pub dealt_grow : (s m : List (Mark E)) (n : ℕ) → v.number ≡ Some n → v.gone ≡ None → ((i : ℕ) (x : Mark E) → get_elem? m i ≡ some x → (x.1 ≡ Some n) × may n x.0) → s ≡ h ++ m
      → Dealt may base count (h ++ m) (set views id (record v { seen = s }))
  dealt_grow s m n mine bare adds sees = let w : View E F = record v { seen = s } in let own = k.owning id v at in
      let far : (i : ℕ) (u : View E F) → i ≢ id → get_elem? views i ≡ some u → (q : ℕ) → Claims u q → (j : ℕ) (x : Mark E) → get_elem? m j ≡ some x → x.1 ≢ Some q = λ i u ne e q c j x there is.
      let same : q ≡ n = some_same q n (sym is ∙ (adds j x there).0) in ne (k.claims i id u v q e at c (inl (mine ∙ ap (λ (z : ℕ). Some z) (sym same)))) in record {
        low = k.low;
        opened = let le = k.opened in omega (arith, length-append h m);
        room = k.room;
        owning = each_set Own (λ u. Owns base.first count (h ++ m) u) views id w k.owning
            (λ i u ne e old. record {
              bound = old.bound;
              alone = old.alone;
              mine = λ q is. stands_more h m q (length u.seen) (old.mine q is) (far i u ne e q (inl is));
              theirs = λ q is. stands_more h m q (length u.also) (old.theirs q is) (far i u ne e q (inr (inl is)));
              past = λ q is. stands_more h m q (length u.seen) (old.past q is) (far i u ne e q (inr (inr is)));
              making = old.making;
              keeper = old.keeper;
              worker = old.worker;
            })
            (record {
              bound = own.bound;
              alone = own.alone;
              mine = λ q is. stands_all (h ++ m) s q sees;
              theirs = λ q is. absurd (cc (is, bare));
              past = λ q is. stands_all (h ++ m) s q sees;
              making = own.making;
              keeper = own.keeper;
              worker = own.worker;
            });
        claims = apart_keep Claims views id v w k.claims at (λ _ c. c);
        makers = apart_keep Makes views id v w k.makers at (λ _ c. c);
        claimed = λ q low high. someone_set (λ u. Claims u q) (λ u. Claims u q) views id v w at (λ c. c) (λ _ p. p) (k.claimed q low high);
        added = λ j x le there. ⊎_elim (λ (e : get_elem? h j ≡ some x). k.added j x le e)
            (λ (t : (i : ℕ) × (j ≡ length h + i) × (get_elem? m i ≡ some x)). let a = adds t.0 x t.2 in let b = own.bound n (inl mine) in (n, a.0, b.0, b.1, a.1)) (at_both h m x j there);
        plain = λ j x lt there. ⊎_elim (λ (e : get_elem? h j ≡ some x). k.plain j x lt e)
            (λ (t : (i : ℕ) × (j ≡ length h + i) × (get_elem? m i ≡ some x)). let e = t.1 in let le = k.opened in absurd (omega arith)) (at_both h m x j there);
      }

  -- nothing was added under a number that was not dealt
  pub none_has : (j : ℕ) (x : Mark E) → get_elem? h j ≡ some x → x.1 ≢ Some count
  none_has j x there is = dite (dec_le base.start j)
      (λ le. let a = k.added j x le there in let lt = a.3 in let same : a.0 ≡ count = some_same a.0 count (sym a.1 ∙ is) in absurd (omega arith))
      (λ lt. absurd (cc (k.plain j x (omega arith) there, is)))

  pub dealt_number : (m : ℕ) → v.made ≡ Some m → v.number ≡ None → v.inside ≡ false → m < 4294967296 → Dealt may base (count + 1) h (set views id (numbers count v))
  dealt_number m made bare out lt = let w : View E F = numbers count v in let own = k.owning id v at in let now : count ≡ base.first + m = own.making m made in let room = k.room.0 in
      let nobody : (i : ℕ) (u : View E F) → get_elem? views i ≡ some u → Claims u count → ⊥ = λ i u e c. let b = ((k.owning i u e).bound count c).1 in omega arith in
      let made' : w.made ≡ Some (m + 1) = ap one_more made in record {
        low = k.low;
        opened = k.opened;
        room = (omega arith, omega arith);
        owning = each_set Own (λ u. Owns base.first (count + 1) h u) views id w k.owning
            (λ i u ne e old. record {
              bound = λ q c. let b = old.bound q c in let b₀ = b.0 in let b₁ = b.1 in (b₀, omega arith);
              alone = old.alone;
              mine = old.mine;
              theirs = old.theirs;
              past = old.past;
              making = λ q is. let there = old.making q is in let same : q ≡ m = omega arith in absurd (ne (k.makers i id u v q e at is (made ∙ ap (λ (z : ℕ). Some z) (sym same))));
              keeper = old.keeper;
              worker = old.worker;
            })
            (record {
              bound = λ q c. ⊎_elim (λ (e : Some count ≡ Some q). let same = some_same count q e in (omega arith, omega arith))
                  (λ (e : (v.gone ≡ Some q) ⊎ Has v.ended q). let b = own.bound q (inr e) in let b₀ = b.0 in let b₁ = b.1 in (b₀, omega arith)) c;
              alone = λ q is e. let same = some_same count q is in let b = (own.bound q (inr e)).1 in omega arith;
              mine = λ q is j x there has. absurd (none_has j x there (has ∙ sym is));
              theirs = own.theirs;
              past = own.past;
              making = λ q is. let same = some_same (m + 1) q (sym made' ∙ is) in omega arith;
              keeper = λ _ _ none. cc (made', none);
              worker = λ turn. absurd (cc (turn, out));
            });
        claims = apart_set Claims views id v w k.claims at
            (λ q c. ⊎_elim (λ (e : Some count ≡ Some q). inr (λ j u at' cu. nobody j u at' (subst (Claims u) (sym (some_same count q e)) cu))) (λ (e : (v.gone ≡ Some q) ⊎ Has v.ended q). inl (inr e)) c);
        makers = apart_set Makes views id v w k.makers at
            (λ q is. inr (λ j u at' mu. let same = some_same (m + 1) q (sym made' ∙ is) in let there = (k.owning j u at').making q mu in omega arith));
        claimed = λ q low high. dite (ℕ_discrete q count)
            (λ same. (id, w, set_here views id w (index_lt views id v at), inl (ap (λ (z : ℕ). Some z) (sym same))))
            (λ ne. someone_set (λ u. Claims u q) (λ u. Claims u q) views id v w at (⊎_elim (λ (e : v.number ≡ Some q). absurd (cc (e, bare))) (λ (e : (v.gone ≡ Some q) ⊎ Has v.ended q). inr e)) (λ _ p. p) (k.claimed q low (omega arith)));
        added = λ j x le there. let a = k.added j x le there in let lt' = a.3 in (a.0, a.1, a.2, omega arith, a.4);
        plain = k.plain;
      }

  -- the number stays with the seat, or goes with a new one
  pub dealt_split : (o p : Option ℕ) → ((o ≡ None) × (p ≡ v.number)) ⊎ ((o ≡ v.number) × (p ≡ None) × (v.inside ≡ false)) → Dealt may base count h (set views id (record v { number = p }) ++ fresh o v ∷ [])
  dealt_split o p how = let left : View E F = record v { number = p } in let right : View E F = fresh o v in let own = k.owning id v at in
      let from_p : (n : ℕ) → p ≡ Some n → v.number ≡ Some n = λ n e. ⊎_elim (λ (t : (o ≡ None) × (p ≡ v.number)). sym t.1 ∙ e) (λ (t : (o ≡ v.number) × (p ≡ None) × (v.inside ≡ false)). absurd (cc (t.1, e))) how in
      let from_o : (n : ℕ) → o ≡ Some n → v.number ≡ Some n = λ n e. ⊎_elim (λ (t : (o ≡ None) × (p ≡ v.number)). absurd (cc (t.0, e))) (λ (t : (o ≡ v.number) × (p ≡ None) × (v.inside ≡ false)). sym t.0 ∙ e) how in
      let from_left : (n : ℕ) → Claims left n → Claims v n = λ n c. ⊎_elim (λ (e : p ≡ Some n). inl (from_p n e)) (λ (e : (v.gone ≡ Some n) ⊎ Has v.ended n). inr e) c in
      let only : (n : ℕ) → Claims right n → o ≡ Some n = λ n c. ⊎_elim (λ (e : o ≡ Some n). e) (λ (e : (None ≡ Some n) ⊎ ⊥). ⊎_elim (λ (f : None ≡ Some n). absurd (cc (f))) (λ (f : ⊥). absurd f) e) c in record {
        low = k.low;
        opened = k.opened;
        room = k.room;
        owning = each_more Own (set views id left) right
            (each_keep Own views id left k.owning (record {
              bound = λ n c. own.bound n (from_left n c);
              alone = λ n e. own.alone n (from_p n e);
              mine = λ n e. own.mine n (from_p n e);
              theirs = own.theirs;
              past = own.past;
              making = own.making;
              keeper = own.keeper;
              worker = λ turn none. ⊎_elim (λ (t : (o ≡ None) × (p ≡ v.number)). own.worker turn (sym t.1 ∙ none)) (λ (t : (o ≡ v.number) × (p ≡ None) × (v.inside ≡ false)). absurd (cc (t.2, turn))) how;
            }))
            (record {
              bound = λ n c. own.bound n (inl (from_o n (only n c)));
              alone = λ n _ e. ⊎_elim (λ (f : None ≡ Some n). cc (f)) (λ (f : ⊥). f) e;
              mine = λ n e. own.mine n (from_o n e);
              theirs = λ n e. absurd (cc (e));
              past = λ n e. absurd e;
              making = λ m e. absurd (cc (e));
              keeper = λ n c _. nothing n c;
              worker = λ turn. absurd (cc (turn));
            });
        claims = apart_split Claims views id v left right k.claims at from_left (λ n c. inl (from_o n (only n c)))
            (λ n c d. ⊎_elim (λ (t : (o ≡ None) × (p ≡ v.number)). cc (t.0, only n d))
            (λ (t : (o ≡ v.number) × (p ≡ None) × (v.inside ≡ false)). ⊎_elim (λ (e : p ≡ Some n). cc (e, t.1)) (λ (e : (v.gone ≡ Some n) ⊎ Has v.ended n). own.alone n (from_o n (only n d)) e) c) how);
        makers = apart_split Makes views id v left right k.makers at (λ _ c. c) (λ _ c. absurd (cc (c))) (λ _ _ c. cc (c));
        claimed = λ n low high. someone_split (λ u. Claims u n) views id v left right at
            (⊎_elim (λ (e : v.number ≡ Some n). ⊎_elim (λ (t : (o ≡ None) × (p ≡ v.number)). inl (inl (t.1 ∙ e))) (λ (t : (o ≡ v.number) × (p ≡ None) × (v.inside ≡ false)). inr (inl (t.0 ∙ e))) how)
            (λ (e : (v.gone ≡ Some n) ⊎ Has v.ended n). inl (inr e))) (k.claimed n low high);
        added = k.added;
        plain = k.plain;
      }

  pub dealt_join : (other : ℕ) (w : View E F) → (other ≡ id → ⊥) → get_elem? (set views id (joined v w)) other ≡ some w → v.gone ≡ None → w.gone ≡ None → w.ended ≡ [] → (w.number ≢ None → v.made ≢ None)
      → Dealt may base count h (set (set views id (joined v w)) other spent)
  dealt_join other w apart there bare bare' empty kept = let both : View E F = joined v w in let own = k.owning id v at in
      let there' : get_elem? views other ≡ some w = sym (set_else views id other both apart) ∙ there in let theirs = k.owning other w there' in
      let ends : (n : ℕ) → Has w.ended n → ⊥ = λ n e. subst (λ (ns : List ℕ). Has ns n) empty e in record {
        low = k.low;
        opened = k.opened;
        room = k.room;
        owning = each_join Own views id other both spent k.owning
            (record {
              bound = λ n c. ⊎_elim (λ (e : v.number ≡ Some n). own.bound n (inl e)) (⊎_elim (λ (e : w.number ≡ Some n). theirs.bound n (inl e)) (λ (e : Has v.ended n). own.bound n (inr (inr e)))) c;
              alone = λ n e c. ⊎_elim (λ (f : w.number ≡ Some n). apart (k.claims other id w v n there' at (inl f) (inl e))) (λ (f : Has v.ended n). own.alone n e (inr f)) c;
              mine = own.mine;
              theirs = theirs.mine;
              past = own.past;
              making = own.making;
              keeper = λ n c. ⊎_elim (λ (e : w.number ≡ Some n). kept (λ none. cc (e, none))) (λ (e : Has v.ended n). own.keeper n (inr e)) c;
              worker = own.worker;
            })
            (record {
              bound = λ n c. ⊎_elim (λ (e : None ≡ Some n). absurd (cc (e))) (λ (e : (None ≡ Some n) ⊎ ⊥). ⊎_elim (λ (f : None ≡ Some n). absurd (cc (f))) (λ (f : ⊥). absurd f) e) c;
              alone = λ n e. absurd (cc (e));
              mine = λ n e. absurd (cc (e));
              theirs = λ n e. absurd (cc (e));
              past = λ n e. absurd e;
              making = λ m e. absurd (cc (e));
              keeper = λ n c _. nothing n c;
              worker = λ turn. absurd (cc (turn));
            });
        claims = apart_join Claims views id other v both w spent k.claims at apart there
            (λ n c. ⊎_elim (λ (e : v.number ≡ Some n). inl (inl e)) (⊎_elim (λ (e : w.number ≡ Some n). inr (inl e)) (λ (e : Has v.ended n). inl (inr (inr e)))) c)
            (λ n c. ⊎_elim (λ (e : None ≡ Some n). cc (e)) (λ (e : (None ≡ Some n) ⊎ ⊥). ⊎_elim (λ (f : None ≡ Some n). cc (f)) (λ (f : ⊥). f) e) c);
        makers = apart_join Makes views id other v both w spent k.makers at apart there (λ n c. inl c) (λ n c. cc (c));
        claimed = λ n low high. someone_join (λ u. Claims u n) views id other v both w spent at apart there
            (⊎_elim (λ (e : v.number ≡ Some n). inl e) (⊎_elim (λ (e : v.gone ≡ Some n). absurd (cc (e, bare))) (λ (e : Has v.ended n). inr (inr e))))
            (⊎_elim (λ (e : w.number ≡ Some n). inr (inl e)) (⊎_elim (λ (e : w.gone ≡ Some n). absurd (cc (e, bare'))) (λ (e : Has w.ended n). absurd (ends n e)))) (k.claimed n low high);
        added = k.added;
        plain = k.plain;
      }

  pub dealt_learn : v.inside ≡ false → length v.seen ≤ length (longer v.seen v.also) → length v.also ≤ length (longer v.seen v.also) → Dealt may base count h (set views id (learns v))
  dealt_learn out left right = let own = k.owning id v at in let s : List (Mark E) = longer v.seen v.also in
      let back : (n : ℕ) → Claims (learns v) n → Claims v n = λ n c.
      ⊎_elim (λ (e : v.number ≡ Some n). inl e) (⊎_elim (λ (e : None ≡ Some n). absurd (cc (e))) (λ (e : Has (more v.gone v.ended) n). inr (has_more v.gone v.ended n e))) c in
      dealt_set (learns v)
      (record {
        bound = λ n c. own.bound n (back n c);
        alone = λ n e c. own.alone n e (⊎_elim (λ (f : None ≡ Some n). absurd (cc (f))) (λ (f : Has (more v.gone v.ended) n). has_more v.gone v.ended n f) c);
        mine = λ n e. stands_far h n (length v.seen) (length s) (own.mine n e) left;
        theirs = λ n e. absurd (cc (e));
        past = λ n e. ⊎_elim (λ (f : v.gone ≡ Some n). stands_far h n (length v.also) (length s) (own.theirs n f) right) (λ (f : Has v.ended n). stands_far h n (length v.seen) (length s) (own.past n f) left) (has_more v.gone v.ended n e);
        making = own.making;
        keeper = λ n c. own.keeper n (⊎_elim (λ (e : None ≡ Some n). absurd (cc (e))) (λ (e : Has (more v.gone v.ended) n). has_more v.gone v.ended n e) c);
        worker = λ turn. absurd (cc (turn, out));
      })
      back
      (λ n c. ⊎_elim (λ (e : v.number ≡ Some n). inl e) (λ (e : (v.gone ≡ Some n) ⊎ Has v.ended n). inr (inr (more_has v.gone v.ended n e))) c)
      (λ _ c. c)
