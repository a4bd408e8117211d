use Rattle.std.proofs.Common.{sym, ap, subst}
use Rattle.std.proofs.lemmas.Result.{on_ok_weaker}
use Rattle.word_places.specs.Held.{AreHeld, HeldNames}
use Rattle.word_places.specs.StepsHeld.{AreReadTo}
use Rattle.word_places.proofs.HeldLemmas.{read_grown}
use Rattle.word_places.proofs.SlotLemmas.{agree_row, numbers_by_slots}
use Rattle.word_places.proofs.held.HeldWords.hold_row.Goals as goal

pub returns-clause-held : goal.returns-clause-held
returns-clause-held g c =
    let numbers = numbers_by_slots c.self.inside.common.value.types.texts c.args.self.now.types c.args.row.log_type c.slots_at-slots.result.now c.args.row.words.now (ap (λ (n : HeldNames). n.types) c.self.view_is) (rw c.deref.ensures at c.slots_at-slots.ensures) in
    on_ok_weaker c.hold_slots-answer.result (λ held. subst (AreHeld c.hold_slots-answer.new.records.items) numbers held) c.hold_slots-answer.ensures.held

pub returns-clause-agree : goal.returns-clause-agree
returns-clause-agree g c =
    let numbers = numbers_by_slots c.self.inside.common.value.types.texts c.args.self.now.types c.args.row.log_type c.slots_at-slots.result.now c.args.row.words.now (ap (λ (n : HeldNames). n.types) c.self.view_is) (rw c.deref.ensures at c.slots_at-slots.ensures) in
    on_ok_weaker c.hold_slots-answer.result (λ held. agree_row (g.D.Disk.state c.args.disk.now).seen c.args.self.now.records c.self.inside.records.items c.hold_slots-answer.new.records.items _ _
    (ap (λ (n : HeldNames). n.records) c.self.view_is) numbers c.hold_slots-answer.ensures.numbered c.hold_slots-answer.ensures.grow c.hold_slots-answer.ensures.right held) c.hold_slots-answer.ensures.held

pub read_front-self-inside-requires : goal.read_front-self-inside-requires
read_front-self-inside-requires g c =
    subst (AreReadTo c.self.inside.front) (sym c.as_slice.ensures.value)
    (read_grown c.self.inside.front c.self.inside.records.items c.hold_slots-answer.new.records.items c.hold_slots-answer.ensures.grow c.self.invariant.1)
