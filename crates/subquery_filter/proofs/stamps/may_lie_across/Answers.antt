use Rattle.std.proofs.Common.{rules}
use Rattle.subquery_filter.proofs.AroundLemmas.{none_across, none_first, none_step}
use Rattle.subquery_filter.proofs.stamps.may_lie_across.Goals as goal

pub loop-len-init : goal.loop-len-init
loop-len-init c = λ moment s prints. none_first c.args.text.now s

pub loop-len-preserved : goal.loop-len-preserved
loop-len-preserved c = λ moment s prints.
    none_step c.args.text.now s c.loop-len.len (c.may_end_at.ensures c.if-may_end_at.false moment s prints) (c.loop-len.invariant moment s prints)

pub returns : goal.returns
returns c = λ _ moment s prints. none_across c.args.text.now s c.loop-len.len (search rules) (c.loop-len.invariant moment s prints)
