use Rattle.std.proofs.Common.{rules}
use Rattle.subquery_filter.proofs.AloneLemmas.{goes_first, goes_none, goes_step}
use Rattle.subquery_filter.proofs.alone.may_go_on.Goals as goal

pub loop-len-init : goal.loop-len-init
loop-len-init c = goes_first c.args.run.now c.args.log_type.now

pub loop-len-preserved : goal.loop-len-preserved
loop-len-preserved c = goes_step c.args.run.now c.args.log_type.now c.loop-len.len (c.may_go_at.ensures c.if-may_go_at.false) c.loop-len.invariant

pub returns : goal.returns
returns c = λ _. goes_none c.args.run.now c.args.log_type.now c.loop-len.len (search rules) c.loop-len.invariant
