use Rattle.word_places.specs.StepsHeld.{AreReadTo}
use Rattle.word_places.proofs.holding.read_front.Given as goal

abbrev pub invariant-loop-at : goal.invariant-loop-at
invariant-loop-at l = AreReadTo l.at l.records
