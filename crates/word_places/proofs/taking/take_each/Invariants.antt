use Rattle.word_places.proofs.TakenLemmas.{TookTo}
use Rattle.word_places.proofs.taking.take_each.Given as goal

abbrev pub invariant-loop : goal.invariant-loop
invariant-loop g l = TookTo (g.V.TakesTexts.took l.fn.taker) l.count l.bytes l.counter l.rest l.taker
