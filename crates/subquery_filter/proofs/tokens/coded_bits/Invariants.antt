use Rattle.std.proofs.Common.{◌≡◌}
use Rattle.std.specs.Prelude.{Some}
use Rattle.subquery_filter.specs.declared.token.Token.{Token}
use Rattle.subquery_filter.proofs.FilterLemmas.{EachBefore}
use Rattle.subquery_filter.proofs.tokens.coded_bits.Given as goal

abbrev pub invariant-loop-token : goal.invariant-loop-token
invariant-loop-token l = EachBefore (λ (k : Token). k.closed ≡ Some l.code) l.tokens l.token-index l.bits
