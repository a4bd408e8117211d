use Rattle.std.proofs.Common.{refl}
use Rattle.subquery_filter.proofs.SlotLemmas.{slot_covered, slot_pushed, stays_pushed, stays_same}
use Rattle.subquery_filter.proofs.slots.list_slot.Goals as goal

pub returns-then-has-clause-listed : goal.returns-then-has-clause-listed
returns-then-has-clause-listed c = λ tokens are first le.
    slot_covered tokens c.args.slots.now.items c.args.known c.of-bits.result c.args.place first _ c.args.kind (c.has.ensures.yes c.if-has.true) (c.of-bits.ensures tokens are)

pub returns-then-has-clause-stays : goal.returns-then-has-clause-stays
returns-then-has-clause-stays c = stays_same c.args.slots.now.items

pub returns-clause-listed : goal.returns-clause-listed
returns-clause-listed c = λ tokens are first le.
    slot_pushed tokens c.args.kinds.now c.args.slots.now.items c.push.new.self.items _ c.args.known c.args.place c.args.kind c.in_ok-push.ensures.items refl refl (c.of-bits.ensures tokens are) first le

pub returns-clause-stays : goal.returns-clause-stays
returns-clause-stays c = stays_pushed c.args.slots.now.items c.push.new.self.items _ c.in_ok-push.ensures.items
