use Rattle.subquery_filter.proofs.RejectLemmas.{RejectingBefore}
use Rattle.subquery_filter.proofs.filter.Filter.rejects_all.Given as goal

abbrev pub invariant-loop-number : goal.invariant-loop-number
invariant-loop-number l = RejectingBefore l.self l.types l.number-index
