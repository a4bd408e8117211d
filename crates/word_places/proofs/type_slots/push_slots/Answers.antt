use Rattle.std.proofs.Common.{refl, rules}
use Rattle.word_places.proofs.SlotLemmas.{slots_all, slots_next, slots_none}
use Rattle.word_places.proofs.type_slots.push_slots.Goals as goal

pub loop-byte-init : goal.loop-byte-init
loop-byte-init c = slots_none c.args.slots.now.items c.args.text.now c.requires

pub loop-byte-preserved : goal.loop-byte-preserved
loop-byte-preserved c =
    slots_next c.loop-byte.slots.items _ c.args.text.now c.loop-byte.escaped c.read_kind-next.result.0 c.loop-byte.byte-index _ c.read_kind-next.result.1 c.in-Some._kind c.loop-byte.invariant c.loop-byte-test.true refl
    c.read_kind-next.ensures.kinds c.in-Some.is (search rules) (search rules) (search rules)

pub returns : goal.returns
returns c = slots_all c.loop-byte.slots.items c.args.text.now c.loop-byte.escaped c.loop-byte.byte-index c.loop-byte.invariant (search rules)
