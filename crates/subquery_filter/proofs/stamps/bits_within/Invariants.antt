use Rattle.subquery_filter.proofs.StampLemmas.{WithinBefore}
use Rattle.subquery_filter.proofs.stamps.bits_within.Given as goal

abbrev pub invariant-loop-pattern : goal.invariant-loop-pattern
invariant-loop-pattern l = WithinBefore l.tokens l.stamps l.head l.pattern l.bits
