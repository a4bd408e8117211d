use Rattle.std.proofs.Common.{rules}
use Rattle.subquery_filter.proofs.AloneLemmas.{alone_step}
use Rattle.subquery_filter.proofs.BitLemmas.{has_none}
use Rattle.subquery_filter.proofs.alone.alone_of.Goals as goal

pub loop-run-init : goal.loop-run-init
loop-run-init c = λ may each. has_none may

pub loop-run-preserved : goal.loop-run-preserved
loop-run-preserved c = alone_step c.args.runs.now c.args.log_type.now c.loop-run.run-index c.loop-run.bits c.alone_bit-bits.result _ c.run-item.is c.alone_bit-bits.ensures c.loop-run.invariant

pub returns : goal.returns
returns c = λ may each. c.loop-run.invariant may (λ k d lt. each k d (search rules))
