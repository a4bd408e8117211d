use Rattle.word_places.proofs.SlotLemmas.{IsHeldTo}
use Rattle.word_places.proofs.gaps.are_slots_held.Given as goal

abbrev pub invariant-loop-byte : goal.invariant-loop-byte
invariant-loop-byte l = IsHeldTo l.records l.records l.text l.fn.words l.escaped l.byte-index l.left
