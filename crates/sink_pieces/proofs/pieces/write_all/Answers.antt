use Rattle.std.proofs.Common.{◌∙◌}
use Rattle.sink_pieces.proofs.OutputLemmas.{Wrote-more}
use Rattle.sink_pieces.proofs.pieces.write_all.Goals as goal

pub loop-rest-preserved : goal.loop-rest-preserved
loop-rest-preserved g c = (rw c.split_at.ensures.back (Wrote-more _ _ _ _ _ _ c.loop-rest.invariant.0 c.in_ok-taken.ensures.appended), c.in_ok-taken.ensures.cause.steady ∙ c.loop-rest.invariant.1)
