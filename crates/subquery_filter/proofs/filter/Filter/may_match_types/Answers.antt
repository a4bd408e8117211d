use Rattle.std.proofs.Common.{refl}
use Rattle.subquery_filter.specs.ByTypes.{with_words}
use Rattle.subquery_filter.proofs.FilterLemmas.{none_may}
use Rattle.subquery_filter.proofs.filter.Filter.may_match_types.Goals as goal

pub returns : goal.returns
returns c = λ shut p names texts searched is words.
    none_may c.verdicts_hold.ensures.rejected (c.rows_bring_runs.ensures.runs, c.rows_bring_runs.ensures.closed, c.rows_bring_chunks.ensures) p searched names texts c.args.self.now is (with_words words c.args.head.now) c.as_slice.result.now words
    c.stamped_runs-runs.result c.stamps_of-stamped.result c.args.self.now.brought c.as_slice.ensures refl c.stamped_runs-runs.ensures c.stamps_of-stamped.ensures (λ n _. is.asks.brought n) (c.some_may.ensures shut)
