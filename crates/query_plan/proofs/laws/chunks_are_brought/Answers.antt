use Rattle.query_plan.proofs.ChunkLemmas.{chunks_brought}
use Rattle.query_plan.proofs.laws.chunks_are_brought.Goals as goal

pub returns : goal.returns
returns c = chunks_brought c.parts_are_cut.ensures
