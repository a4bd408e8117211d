use Rattle.std.proofs.Common.{rules}
use Rattle.subquery_filter.proofs.RejectLemmas.{rejecting_step, rejects_types}
use Rattle.subquery_filter.proofs.filter.Filter.rejects_all.Goals as goal

pub loop-number-preserved : goal.loop-number-preserved
loop-number-preserved c = rejecting_step c.args.self.now c.args.types.now c.loop-number.number-index (search rules) (search rules) c.loop-number.invariant

pub returns : goal.returns
returns c = λ _ p names texts searched is.
    rejects_types c.verdicts_hold.ensures.rejected c.verdicts_hold.ensures.certain (c.rows_bring_runs.ensures.runs, c.rows_bring_runs.ensures.closed, c.rows_bring_chunks.ensures) p searched names texts c.args.self.now is c.args.types.now c.loop-number.number-index (search rules)
    c.loop-number.invariant
