use Rattle.subquery_filter.specs.StepsFilter.{KeepsBits}
use Rattle.subquery_filter.proofs.MarkLemmas.{AtBefore}
use Rattle.subquery_filter.proofs.marks.add_numbers.Given as goal

abbrev pub invariant-loop-number : goal.invariant-loop-number
invariant-loop-number l = KeepsBits l.fn.table.items l.table.items × AtBefore l.table.items l.mask l.bit l.numbers l.number-index
