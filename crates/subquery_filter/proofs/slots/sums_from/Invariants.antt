use Rattle.subquery_filter.specs.StepsFilter.{AreSummed}
use Rattle.subquery_filter.proofs.slots.sums_from.Given as goal

abbrev pub invariant-loop-at : goal.invariant-loop-at
invariant-loop-at l = AreSummed l.slots l.first l.at l.sums
