-- What the seats have seen after each step.
use Rattle.std.proofs.Common.{◌≡◌, ◌≢◌, ◌⊎◌, ℕ, false, List, [], ◌∷◌, ◌++◌, length, set, sym, refl, ap, ◌∙◌, subst, ⊎_elim, inl, inr, arith, length-append}
use mathlib.Core.Option.{some}
use mathlib.Core.List.{IsPrefix}
use lib.ListN.{get_elem?}
use Rattle.atomic_table.proofs.Lists.{set_here}
use Rattle.turn_lock.specs.declared.board.About.{About}
use Rattle.turn_lock.specs.declared.board.View.{View}
use Rattle.turn_lock.specs.History.{Mark}
use Rattle.turn_lock.specs.Grown.{Seeing, Knowing, Shown}
use Rattle.turn_lock.specs.StepPlays.{spent, joined, learns, longer}
use Rattle.turn_lock.proofs.FrontLemmas.{prefix_self, prefix_trans, prefix_whole, prefix_length, longer_left, longer_right, longer_front}
use Rattle.turn_lock.proofs.SeatLemmas.{index_lt, each_set, each_keep, each_more, each_join, someone_set, someone_split, someone_join}

module _ {E F : Type 0} (base : About F) (h : List (Mark E)) (views : List (View E F)) (id : ℕ) (v : View E F) (k : Shown base h views) (at : get_elem? views id ≡ some v) where
  abbrev Sees : View E F → Type 0
  Sees u = Seeing h u.inside u.seen u.also

  abbrev Knows : View E F → Type 0
  Knows u = Knowing base u.about u.seen

  abbrev Whole : View E F → Type 0
  Whole u = (u.seen ≡ h) ⊎ (u.also ≡ h)

  pub shown_set : (w : View E F) → Sees w → Knows w → (Whole v → Whole w) → Shown base h (set views id w)
  shown_set w sees knows whole = record {
    seeing = each_keep Sees views id w k.seeing sees;
    knowing = each_keep Knows views id w k.knowing knows;
    whole = someone_set Whole Whole views id v w at whole (λ u p. p) k.whole;
  }

  -- the history grows in the turn of a seat that has seen it whole
  pub shown_grow : (w : View E F) (m : List (Mark E)) → ((i : ℕ) (u : View E F) → i ≢ id → get_elem? views i ≡ some u → u.inside ≡ false)
      → w.seen ≡ h ++ m → IsPrefix w.also h → w.about ≡ v.about → v.seen ≡ h → Shown base (h ++ m) (set views id w)
  shown_grow w m alone sees also about was = record {
    seeing = each_set Sees (λ u. Seeing (h ++ m) u.inside u.seen u.also) views id w k.seeing
        (λ i u ne e old. record { front = prefix_trans u.seen h (h ++ m) old.front (m, refl); other = prefix_trans u.also h (h ++ m) old.other (m, refl); whole = λ turn. absurd (cc (turn, alone i u ne e)) })
        (record { front = subst (λ (s : List (Mark E)). IsPrefix s (h ++ m)) (sym sees) (prefix_self (h ++ m)); other = prefix_trans w.also h (h ++ m) also (m, refl); whole = λ _. sees });
    knowing = each_keep Knows views id w k.knowing (record { is = λ a is. let old = (k.knowing id v at).is a (sym about ∙ is) in let le = old.1 in (old.0, omega (arith, ap length sees, length-append h m, ap length was)) });
    whole = (id, w, set_here views id w (index_lt views id v at), inl sees);
  }

  pub shown_split : (left right : View E F) → Sees left → Knows left → Sees right → Knows right → (Whole v → Whole left ⊎ Whole right) → Shown base h (set views id left ++ right ∷ [])
  shown_split left right sees knows sees' knows' whole = record {
    seeing = each_more Sees (set views id left) right (each_keep Sees views id left k.seeing sees) sees';
    knowing = each_more Knows (set views id left) right (each_keep Knows views id left k.knowing knows) knows';
    whole = someone_split Whole views id v left right at whole k.whole;
  }

  empty_front : (s : List (Mark E)) → IsPrefix s [] → s ≡ []
  empty_front s p = prefix_whole s [] p (omega arith)

  pub shown_join : (other : ℕ) (w : View E F) → (other ≡ id → ⊥) → get_elem? (set views id (joined v w)) other ≡ some w → Sees w → v.also ≡ [] → w.also ≡ [] → Shown base h (set (set views id (joined v w)) other spent)
  shown_join other w apart there theirs bare bare' = let mine = k.seeing id v at in record {
    seeing = each_join Sees views id other (joined v w) spent k.seeing (record { front = mine.front; other = theirs.front; whole = mine.whole }) (record { front = (h, refl); other = (h, refl); whole = λ turn. absurd (cc (turn)) });
    knowing = each_join Knows views id other (joined v w) spent k.knowing (record { is = (k.knowing id v at).is }) (record { is = λ a is. absurd (cc (is)) });
    whole = someone_join Whole views id other v (joined v w) w spent at apart there
        (⊎_elim inl (λ (e : v.also ≡ h). let none : [] ≡ h = sym bare ∙ e in inl (empty_front v.seen (subst (IsPrefix v.seen) (sym none) mine.front) ∙ none)))
        (⊎_elim inr (λ (e : w.also ≡ h). let none : [] ≡ h = sym bare' ∙ e in inr (empty_front w.seen (subst (IsPrefix w.seen) (sym none) theirs.front) ∙ none))) k.whole;
  }

  -- the longer of the two lists that a seat has seen
  pub shown_learn : v.inside ≡ false → Shown base h (set views id (learns v))
  shown_learn out = let mine = k.seeing id v at in let l : List (Mark E) = longer v.seen v.also in
      let front : IsPrefix l h = longer_front v.seen v.also h mine.front mine.other in
      let left : IsPrefix v.seen l = longer_left v.seen v.also h mine.front mine.other in
      let right : IsPrefix v.also l = longer_right v.seen v.also h mine.front mine.other in
      shown_set (learns v) (record { front = front; other = (h, refl); whole = λ turn. absurd (cc (turn, out)) })
      (record { is = λ a is. let old = (k.knowing id v at).is a is in let le = old.1 in (old.0, omega (arith, prefix_length v.seen l left)) })
      (⊎_elim (λ (e : v.seen ≡ h). inl (prefix_whole l h front (omega (arith, prefix_length v.seen l left, ap length e))))
      (λ (e : v.also ≡ h). inl (prefix_whole l h front (omega (arith, prefix_length v.also l right, ap length e)))))
