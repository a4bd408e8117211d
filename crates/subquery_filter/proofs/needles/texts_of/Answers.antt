use Rattle.std.proofs.Common.{rules}
use Rattle.subquery_filter.proofs.FilterLemmas.{grown}
use Rattle.subquery_filter.proofs.MarkLemmas.{texts_end, texts_step, token_at}
use Rattle.subquery_filter.proofs.needles.texts_of.Goals as goal

pub loop-token-preserved : goal.loop-token-preserved
loop-token-preserved c =
    let l = c.loop-token in (
      grown l.texts.items c.push.new.self.items _ l.token-index l.invariant.0 c.in_ok-push.ensures.items,
      texts_step c.args.tokens.now l.token-index l.texts.items c.push.new.self.items _ _ l.invariant.0 c.in_ok-push.ensures.items (token_at c.args.tokens.now l.token-index _ (search rules) c.token-item.is) (search rules) l.invariant.1,
    )

pub returns : goal.returns
returns c = texts_end c.args.tokens.now c.loop-token.token-index c.loop-token.texts.items (search rules) c.loop-token.invariant.1
