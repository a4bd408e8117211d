use Rattle.std.proofs.Common.{rules}
use Rattle.subquery_filter.specs.declared.token.Token.{Token}
use Rattle.subquery_filter.specs.Tokens.{LiesInStamp}
use Rattle.subquery_filter.proofs.FilterLemmas.{each_step}
use Rattle.subquery_filter.proofs.stamps.stamp_marks.Goals as goal

pub loop-token-preserved : goal.loop-token-preserved
loop-token-preserved c =
    each_step (λ (k : Token). LiesInStamp k.chunk k.text c.args.stamp.now) c.args.tokens.now c.loop-token.token-index c.loop-token.bits c.stamp_mark-bits.result _ (search rules) c.token-item.is c.stamp_mark-bits.ensures c.loop-token.invariant
