use Rattle.subquery_filter.proofs.ClosedLemmas.{rows_bring_closed}
use Rattle.subquery_filter.proofs.laws.rows_bring_closed.Goals as goal

pub returns : goal.returns
returns c = rows_bring_closed c.readings_are_exact.ensures c.chunks_are_brought.ensures
