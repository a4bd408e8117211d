-- A pass's seat before a turn, in it, and after it.
use Rattle.std.proofs.Common.{◌≡◌, ◌≢◌, ℕ, ◌+◌, ◌%◌, ◌^◌, ◌<◌, ◌≤◌, List, [], ◌∷◌, ◌++◌, length, sym, ap, ◌∙◌, subst, arith, Option, Some, None, All, slice_get}
use mathlib.Core.Option as maybe
use lib.ListN.{length-map}
use Rattle.atomic_table.specs.Table.{Me, rest, step, Allows}
use Rattle.turn_lock.specs.declared.board.About.{About}
use Rattle.turn_lock.specs.declared.board.View.{View}
use Rattle.turn_lock.specs.History.{Mark, entries_of, own, places}
use Rattle.turn_lock.specs.Seats.{IsHeld, entries_seen}
use Rattle.turn_lock.specs.Grown.{Kept}
use Rattle.turn_lock.specs.StepPlays.{marked, waits, publishes, goes, Agrees, Came, MayAdd, served}
use Rattle.turn_lock.proofs.TurnLemmas.{some_same}
use Rattle.turn_lock.proofs.OwnLemmas.{own_same, own_more, entry_at, entries_marked}
use Rattle.turn_lock.proofs.RuleKeptLemmas.{published_as, serves}

module _ {V E F : Type 0} (entries : V → List E) (fixed : V → F) (may : ℕ → E → Type 0) where
  abbrev M : Type 0
  M = Me (Option V) (View E F)

  -- m with the ticket t came to its turn as m'
  module _ (m m1 m' : M) (t number : ℕ) (drawn : m1 ≡ (waits m.0 t, [])) (came : Came entries fixed may m1 m') (mine : m.0.number ≡ Some number) where
    was : m1.0.seen ≡ m.0.seen
    was = ap (λ (z : M). z.0.seen) drawn

    now : m'.0.seen ≡ came.1
    now = ap (λ (z : M). z.0.seen) came.2

    mine_then : m1.0.number ≡ Some number
    mine_then = ap (λ (z : M). z.0.number) drawn ∙ mine

    pub own_taken : own number m'.0.seen ≡ own number m.0.seen
    own_taken = ap (own number) now ∙ (own_same number m1.0.seen came.1 came.3.0 (came.3.3 number mine_then) ∙ ap (own number) was)

    pub others_taken : (a : About F) (j : ℕ) (e : E) → m.0.about ≡ Some a → a.start ≤ j → slice_get (entries_of m'.0.seen) j ≡ Some e
        → (n : ℕ) × (a.first ≤ n) × (n < a.first + 4294967296) × may n e × (length (entries_of m.0.seen) ≤ j → n ≢ number)
    others_taken a j e is le get = let h : List (Mark E) = came.1 in let x = entry_at h j e (subst (λ (l : List (Mark E)). slice_get (entries_of l) j ≡ Some e) now get) in
        let ad = came.3.4 a j x.0 (ap (λ (z : M). z.0.about) drawn ∙ is) le x.1 in (
          ad.0,
          ad.2,
          ad.3,
          subst (may ad.0) x.2 ad.4,
          λ far same. let lt = came.3.3 number mine_then j x.0 x.1 (ad.1 ∙ ap (λ (k : ℕ). Some k) same) in
              omega (arith, length-map m.0.seen (λ (y : Mark E). y.0), ap (λ (l : List (Mark E)). length l) was),
        )

  pub may_add : (m : M) (number : ℕ) (es more_ : List E) → m.0.number ≡ Some number → es ≡ entries_seen m ++ more_ → All (may number) more_ → MayAdd may es m.0
  may_add m number es more_ mine is all = (more_, is, λ n e. subst (λ (k : ℕ). All (may k) more_) (some_same number n (sym mine ∙ e)) all)

  -- m has the turn, m1 has published the list of y, m2 has y in the slot, and m' has gone
  module _ (m m1 m2 : M) (y : V) (published : m1 ≡ (publishes (entries y) m.0, m.1)) (filled : m2 ≡ (m1.0, (0, Some y) ∷ rest m1.1)) where
    seen_put : (more_ : List E) → entries y ≡ entries_seen m ++ more_ → m2.0.seen ≡ m.0.seen ++ marked m.0.number more_
    seen_put more_ is = ap (λ (z : M). z.0.seen) filled ∙ (ap (λ (z : M). z.0.seen) published ∙ ap (λ (u : View E F). u.seen) (published_as m.0 (entries y) more_ is))

    pub put_serves : (base : About F) (opening : List E) (slots id : ℕ) (more_ : List E) → IsHeld m → entries y ≡ entries_seen m ++ more_ → m.0.about ≢ None → Agrees fixed m.0 y → slots ≡ 1
        → Allows (Kept entries fixed may base opening) slots id m2 1 (λ n. (n + 1) % 2 ^ 64) (served (step slots 1 1 0 maybe.none) m2)
    put_serves base opening slots id more_ held is known agrees one = let about : m2.0.about ≡ m.0.about = ap (λ (z : M). z.0.about) filled ∙ ap (λ (z : M). z.0.about) published in
        subst (λ (k : ℕ). Allows (Kept entries fixed may base opening) k id m2 1 (λ n. (n + 1) % 2 ^ 64) (served (step k 1 1 0 maybe.none) m2)) (sym one)
        (serves entries fixed may base opening id m2 y
        (ap (λ (z : M). z.0.inside) filled ∙ (ap (λ (z : M). z.0.inside) published ∙ held.0))
        (ap (λ (z : M). z.1) filled ∙ ap (λ (l : List (ℕ × Option V)). (0, Some y) ∷ rest l) (ap (λ (z : M). z.1) published ∙ held.1))
        (is ∙ (sym (entries_marked m.0.number m.0.seen more_) ∙ ap (λ (l : List (Mark E)). entries_of l) (sym (seen_put more_ is))))
        (λ none. known (sym about ∙ none))
        (λ a e. agrees a (sym about ∙ e)))

    module _ (m' : M) (gone : m' ≡ (goes m2.0, [])) where
      pub seen_after : (more_ : List E) → entries y ≡ entries_seen m ++ more_ → entries_seen m' ≡ entries y
      seen_after more_ is = ap (λ (z : M). entries_of z.0.seen) gone ∙ (ap (λ (l : List (Mark E)). entries_of l) (seen_put more_ is) ∙ (entries_marked m.0.number m.0.seen more_ ∙ sym is))

      pub own_after : (number : ℕ) (more_ : List E) → m.0.number ≡ Some number → entries y ≡ entries_seen m ++ more_ → own number m'.0.seen ≡ own number m.0.seen ++ places (length (entries_seen m)) more_
      own_after number more_ mine is = ap (λ (z : M). own number z.0.seen) gone ∙ (ap (own number) (seen_put more_ is ∙ ap (λ (o : Option ℕ). m.0.seen ++ marked o more_) mine)
          ∙ (own_more number m.0.seen more_ ∙ ap (λ (k : ℕ). own number m.0.seen ++ places k more_) (sym (length-map m.0.seen (λ (x : Mark E). x.0)))))
