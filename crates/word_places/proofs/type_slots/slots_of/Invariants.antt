use Rattle.word_places.proofs.SlotLemmas.{HaveSlotsTo}
use Rattle.word_places.proofs.type_slots.slots_of.Given as goal

abbrev pub invariant-loop-number : goal.invariant-loop-number
invariant-loop-number l = HaveSlotsTo l.types.texts l.all l.number
