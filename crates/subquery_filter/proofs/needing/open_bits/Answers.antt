use Rattle.std.proofs.Common.{rules}
use Rattle.subquery_filter.specs.Filter.{IsOpenNumber}
use Rattle.subquery_filter.proofs.FilterLemmas.{each_step}
use Rattle.subquery_filter.proofs.needing.open_bits.Goals as goal

pub loop-token-preserved : goal.loop-token-preserved
loop-token-preserved c = each_step IsOpenNumber c.args.tokens.now c.loop-token.token-index c.loop-token.bits c.open_bit-bits.result _ (search rules) c.token-item.is c.open_bit-bits.ensures c.loop-token.invariant
