use Rattle.subquery_filter.proofs.MarkLemmas.{NumbersBefore}
use Rattle.subquery_filter.proofs.needles.numbers_with.Given as goal

abbrev pub invariant-loop-number : goal.invariant-loop-number
invariant-loop-number g l = NumbersBefore l.needle (g.N.Names.words l.names) l.number l.numbers.items
