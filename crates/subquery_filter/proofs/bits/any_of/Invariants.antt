use Rattle.subquery_filter.proofs.FilterLemmas.{AnyBefore}
use Rattle.subquery_filter.proofs.bits.any_of.Given as goal

abbrev pub invariant-loop-mark : goal.invariant-loop-mark
invariant-loop-mark l = AnyBefore l.marks l.mark-index l.bits
