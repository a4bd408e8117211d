use Rattle.subquery_filter.proofs.AloneLemmas.{rows_bring_chunks}
use Rattle.subquery_filter.proofs.laws.rows_bring_chunks.Goals as goal

pub returns : goal.returns
returns c = rows_bring_chunks c.texts_stand.ensures.chunks
