use Rattle.subquery_filter.proofs.FilterLemmas.{none_may}
use Rattle.subquery_filter.proofs.filter.Filter.may_match.Goals as goal

pub returns : goal.returns
returns c = λ shut p names texts searched is.
    none_may c.verdicts_hold.ensures.rejected (c.rows_bring_runs.ensures.runs, c.rows_bring_runs.ensures.closed, c.rows_bring_chunks.ensures) p searched names texts c.args.self.now is c.args.head.now c.as_slice-types.result.now c.as_slice.result.now
    c.stamped_runs-runs.result c.stamps_of-stamped.result c.bits_of_list-brought.result c.as_slice-types.ensures c.as_slice.ensures c.stamped_runs-runs.ensures c.stamps_of-stamped.ensures c.bits_of_list-brought.ensures (c.some_may-2.ensures shut)
