use Rattle.std.proofs.Common.{rules}
use Rattle.logtype_text.specs.TypeText.{IsTypeText}
use Rattle.subquery_filter.specs.declared.token.Token.{Token}
use Rattle.subquery_filter.specs.Tokens.{StandsInType}
use Rattle.subquery_filter.proofs.FilterLemmas.{each_step}
use Rattle.subquery_filter.proofs.tokens.gifts_of.Goals as goal

pub loop-token-preserved : goal.loop-token-preserved
loop-token-preserved c =
    each_step (λ (k : Token). IsTypeText c.args.text.now × StandsInType k.matcher.items c.args.text.now) c.args.tokens.now c.loop-token.token-index c.loop-token.bits c.gift_beside-bits.result _ (search rules) c.token-item.is
    (λ both. c.gift_beside-bits.ensures both.0 both.1) c.loop-token.invariant

pub returns : goal.returns
returns c = λ typed k d lt m. c.loop-token.invariant k d (search rules) (typed, m)
