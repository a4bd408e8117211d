use Rattle.subquery_filter.proofs.FilterLemmas.{ShutBefore}
use Rattle.subquery_filter.proofs.filter.Filter.some_may.Given as goal

abbrev pub invariant-loop-number : goal.invariant-loop-number
invariant-loop-number l = ShutBefore l.self l.runs l.stamped l.brought l.types l.number-index
