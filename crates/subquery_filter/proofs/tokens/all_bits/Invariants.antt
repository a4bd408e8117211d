use Rattle.subquery_filter.specs.declared.token.Token.{Token}
use Rattle.subquery_filter.proofs.FilterLemmas.{EachBefore, WantedBefore}
use Rattle.subquery_filter.proofs.tokens.all_bits.Given as goal

abbrev pub invariant-loop-token : goal.invariant-loop-token
invariant-loop-token l = EachBefore (λ (k : Token). Unit {0}) l.tokens l.token-index l.bits × WantedBefore l.tokens l.token-index l.bits
