use Rattle.word_places.proofs.HolderLemmas.{IsPassed}
use Rattle.word_places.proofs.pass.add_holders.Given as goal

abbrev pub invariant-loop-place : goal.invariant-loop-place
invariant-loop-place l = IsPassed l.bytes l.first l.count l.fit l.finder l.initial.numbers.items l.rest l.numbers.items l.hit l.place
