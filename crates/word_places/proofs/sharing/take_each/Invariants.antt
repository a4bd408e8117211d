use Rattle.word_places.proofs.SharedLemmas.{AreTakenTo}
use Rattle.word_places.proofs.sharing.take_each.Given as goal

abbrev pub invariant-loop-at : goal.invariant-loop-at
invariant-loop-at l = AreTakenTo l.at l.fn.records.items l.fn.others.items l.records.items l.others.items
