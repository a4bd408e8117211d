use Rattle.std.proofs.Common.{rules}
use Rattle.subquery_filter.proofs.AroundLemmas.{none_across, none_first, none_step}
use Rattle.subquery_filter.proofs.stamps.lies_across.Goals as goal

pub loop-len-init : goal.loop-len-init
loop-len-init c = none_first c.args.text.now c.args.stamp.now

pub loop-len-preserved : goal.loop-len-preserved
loop-len-preserved c = none_step c.args.text.now c.args.stamp.now c.loop-len.len (c.ends_at.ensures c.if-ends_at.false) c.loop-len.invariant

pub returns : goal.returns
returns c = λ _. none_across c.args.text.now c.args.stamp.now c.loop-len.len (search rules) c.loop-len.invariant
