use Rattle.std.proofs.Common.{rules}
use Rattle.subquery_filter.proofs.FilterLemmas.{any_end, any_step}
use Rattle.subquery_filter.proofs.bits.any_of.Goals as goal

pub loop-mark-preserved : goal.loop-mark-preserved
loop-mark-preserved c = any_step c.args.marks.now c.loop-mark.mark-index c.loop-mark.bits (search rules) c.loop-mark.invariant

pub returns : goal.returns
returns c = any_end c.args.marks.now c.loop-mark.mark-index c.loop-mark.bits (search rules) c.loop-mark.invariant
