use Rattle.subquery_filter.proofs.FilterLemmas.{HasBefore}
use Rattle.subquery_filter.proofs.needing.marks_of.Given as goal

abbrev pub invariant-loop-word : goal.invariant-loop-word
invariant-loop-word l = HasBefore l.marks l.block l.word-index l.bits
