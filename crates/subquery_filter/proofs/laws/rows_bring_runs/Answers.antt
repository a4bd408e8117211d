use Rattle.subquery_filter.proofs.AroundLemmas.{rows_bring_runs}
use Rattle.subquery_filter.proofs.ClosedLemmas.{rows_bring_closed_runs}
use Rattle.subquery_filter.proofs.laws.rows_bring_runs.Goals as goal

pub returns-clause-runs : goal.returns-clause-runs
returns-clause-runs c = rows_bring_runs c.tokens_are_brought.ensures.stand c.chunks_are_brought.ensures

pub returns-clause-closed : goal.returns-clause-closed
returns-clause-closed c = rows_bring_closed_runs c.readings_are_exact.ensures c.chunks_are_brought.ensures
