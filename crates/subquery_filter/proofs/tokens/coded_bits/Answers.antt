use Rattle.std.proofs.Common.{◌≡◌, rules}
use Rattle.std.specs.Prelude.{Some}
use Rattle.subquery_filter.specs.declared.token.Token.{Token}
use Rattle.subquery_filter.proofs.FilterLemmas.{each_step}
use Rattle.subquery_filter.proofs.tokens.coded_bits.Goals as goal

pub loop-token-preserved : goal.loop-token-preserved
loop-token-preserved c =
    each_step (λ (k : Token). k.closed ≡ Some c.args.code) c.args.tokens.now c.loop-token.token-index c.loop-token.bits c.coded_bit-bits.result _ (search rules) c.token-item.is c.coded_bit-bits.ensures c.loop-token.invariant
