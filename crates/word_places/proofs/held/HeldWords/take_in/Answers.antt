use Rattle.std.proofs.Common.{◌∙◌, ap, subst, sym}
use Rattle.word_places.specs.Held.{HeldNames}
use Rattle.word_places.specs.StepsHeld.{AreReadTo}
use Rattle.word_places.proofs.HeldLemmas.{grow_places, read_grown}
use Rattle.word_places.proofs.SharedLemmas.{taken_grow, taken_in}
use Rattle.word_places.proofs.held.HeldWords.take_in.Goals as goal

pub read_front-self-inside-requires : goal.read_front-self-inside-requires
read_front-self-inside-requires c =
    let mine = c.self.inside.records.items in
    let theirs = c.other.inside.records.items in
    subst (AreReadTo c.self.inside.front) (sym (c.as_slice.ensures.value ∙ c.take_each.ensures))
    (read_grown c.self.inside.front mine _ (taken_grow mine theirs) c.self.invariant.1)

pub invariant_of-self : goal.invariant_of-self
invariant_of-self c = (
  (taken_in c.args.self.now.records c.args.other.records c.self.inside.records.items c.other.inside.records.items c.take_each.new.records.items
      (ap (λ (n : HeldNames). n.records) c.self.view_is) (ap (λ (n : HeldNames). n.records) c.other.view_is) c.requires.same c.self.invariant.0 c.other.invariant.0 c.take_each.ensures).numbered,
  subst (AreReadTo c.read_front-self-inside.result) c.as_slice.ensures.value c.read_front-self-inside.ensures,
  c.self.invariant.2,
)

pub returns-clause-places : goal.returns-clause-places
returns-clause-places c = grow_places c.args.self.now.records c.take_each.new.records.items (taken_in c.args.self.now.records c.args.other.records c.self.inside.records.items c.other.inside.records.items c.take_each.new.records.items
    (ap (λ (n : HeldNames). n.records) c.self.view_is) (ap (λ (n : HeldNames). n.records) c.other.view_is) c.requires.same c.self.invariant.0 c.other.invariant.0 c.take_each.ensures).grow

pub returns-clause-numbered : goal.returns-clause-numbered
returns-clause-numbered c = (taken_in c.args.self.now.records c.args.other.records c.self.inside.records.items c.other.inside.records.items c.take_each.new.records.items
    (ap (λ (n : HeldNames). n.records) c.self.view_is) (ap (λ (n : HeldNames). n.records) c.other.view_is) c.requires.same c.self.invariant.0 c.other.invariant.0 c.take_each.ensures).numbered

pub returns-clause-grow : goal.returns-clause-grow
returns-clause-grow c = (taken_in c.args.self.now.records c.args.other.records c.self.inside.records.items c.other.inside.records.items c.take_each.new.records.items
    (ap (λ (n : HeldNames). n.records) c.self.view_is) (ap (λ (n : HeldNames). n.records) c.other.view_is) c.requires.same c.self.invariant.0 c.other.invariant.0 c.take_each.ensures).grow

pub returns-clause-held : goal.returns-clause-held
returns-clause-held c = (taken_in c.args.self.now.records c.args.other.records c.self.inside.records.items c.other.inside.records.items c.take_each.new.records.items
    (ap (λ (n : HeldNames). n.records) c.self.view_is) (ap (λ (n : HeldNames). n.records) c.other.view_is) c.requires.same c.self.invariant.0 c.other.invariant.0 c.take_each.ensures).held

pub returns-clause-right : goal.returns-clause-right
returns-clause-right c = (taken_in c.args.self.now.records c.args.other.records c.self.inside.records.items c.other.inside.records.items c.take_each.new.records.items
    (ap (λ (n : HeldNames). n.records) c.self.view_is) (ap (λ (n : HeldNames). n.records) c.other.view_is) c.requires.same c.self.invariant.0 c.other.invariant.0 c.take_each.ensures).right
