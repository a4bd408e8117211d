use Rattle.word_places.proofs.SlotLemmas.{AreSlotsTo}
use Rattle.word_places.proofs.type_slots.push_slots.Given as goal

abbrev pub invariant-loop-byte : goal.invariant-loop-byte
invariant-loop-byte l = AreSlotsTo l.slots.items l.text l.escaped l.byte-index
