-- A seat that took in another's list.
use Rattle.std.proofs.Common.{◌≡◌, ◌⊎◌, List, ap, ◌∙◌, ⊎_elim, inl, inr, Option}
use Rattle.atomic_table.specs.Table.{Me}
use Rattle.turn_lock.specs.declared.board.View.{View}
use Rattle.turn_lock.specs.History.{Mark, entries_of, HasLearned}
use Rattle.turn_lock.specs.StepPlays.{longer, Learned}
use Rattle.turn_lock.proofs.FrontLemmas.{longer_either, prefix_map}

module _ {V E F : Type 0} where
  -- it has seen the longer of the two
  longer_seen : (m m' : Me (Option V) (View E F)) → Learned m m' → (entries_of m'.0.seen ≡ entries_of m.0.seen) ⊎ (entries_of m'.0.seen ≡ entries_of m.0.also)
  longer_seen m m' l = let now : m'.0.seen ≡ longer m.0.seen m.0.also = ap (λ (z : Me (Option V) (View E F)). z.0.seen) l.0 in let es : List (Mark E) → List E = λ k. entries_of k in
      ⊎_elim (λ (e : longer m.0.seen m.0.also ≡ m.0.seen). inl (ap es (now ∙ e))) (λ (e : longer m.0.seen m.0.also ≡ m.0.also). inr (ap es (now ∙ e))) (longer_either m.0.seen m.0.also m'.0.seen l.1 l.2)

  pub both_learned : (m m' : Me (Option V) (View E F)) → Learned m m' → HasLearned (entries_of m.0.seen) (entries_of m.0.also) (entries_of m'.0.seen)
  both_learned m m' l = record { mine_first = prefix_map (λ x. x.0) _ _ l.1; theirs_first = prefix_map (λ x. x.0) _ _ l.2; longer = longer_seen m m' l }
