use Rattle.std.proofs.Common.{rules}
use Rattle.subquery_filter.proofs.AroundLemmas.{front_next, front_none}
use Rattle.subquery_filter.proofs.tokens.tokens_of.Goals as goal

pub loop-place-init : goal.loop-place-init
loop-place-init c = (search rules, front_none _ c.new-front.result.items c.new-front.ensures.items)

pub loop-place-preserved : goal.loop-place-preserved
loop-place-preserved c = (
  c.in_ok-push_token.ensures c.loop-place.invariant.0,
  front_next c.args.pieces.now c.loop-place.place _ c.loop-place.front.items c.pass_piece.new.front.items (search rules) (search rules) c.in_ok-pass_piece.ensures c.loop-place.invariant.1,
)
