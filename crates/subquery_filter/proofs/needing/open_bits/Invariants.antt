use Rattle.subquery_filter.specs.Filter.{IsOpenNumber}
use Rattle.subquery_filter.proofs.FilterLemmas.{EachBefore}
use Rattle.subquery_filter.proofs.needing.open_bits.Given as goal

abbrev pub invariant-loop-token : goal.invariant-loop-token
invariant-loop-token l = EachBefore IsOpenNumber l.tokens l.token-index l.bits
