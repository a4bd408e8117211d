use Rattle.subquery_filter.specs.Filter.{Has}
use Rattle.subquery_filter.proofs.SlotLemmas.{WordsBefore}
use Rattle.subquery_filter.proofs.filter.Filter.with_words.Given as goal

abbrev pub invariant-loop-at : goal.invariant-loop-at
invariant-loop-at l = Has l.all l.bits × WordsBefore l.self l.words l.test.first l.at l.all
