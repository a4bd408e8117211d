use Rattle.std.proofs.Common.{ap, length}
use Rattle.subquery_filter.proofs.FilterLemmas.{grown, small_none, small_step}
use Rattle.subquery_filter.proofs.small.mark_small.Goals as goal

pub loop-word-init : goal.loop-word-init
loop-word-init c = (ap length c.new-small.ensures.items, λ least. small_none c.args.tokens.now c.new-small.result.items c.new-small.ensures.items)

pub loop-word-preserved : goal.loop-word-preserved
loop-word-preserved c = (
  grown c.loop-word.small.items c.push.new.self.items c.marks_from.result c.loop-word.word c.loop-word.invariant.0 c.in_ok-push.ensures.items,
  λ least. small_step c.args.tokens.now c.loop-word.word c.loop-word.small.items c.push.new.self.items c.marks_from.result c.loop-word.invariant.0 c.in_ok-push.ensures.items (c.marks_from.ensures least) (c.loop-word.invariant.1 least),
)
