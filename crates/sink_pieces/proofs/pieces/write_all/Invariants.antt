use Rattle.std.proofs.Common.{◌≡◌, length}
use Rattle.sink_pieces.proofs.pieces.write_all.Given as goal
use Rattle.sink_pieces.proofs.OutputLemmas.{Wrote}

abbrev pub invariant-loop-rest : goal.invariant-loop-rest
invariant-loop-rest g l = Wrote (g.K.Sink.written l.fn.out) (g.K.Sink.written l.out) l.bytes l.rest × (g.K.Sink.faults l.out ≡ g.K.Sink.faults l.fn.out)

abbrev pub decreases-loop-rest : goal.decreases-loop-rest
decreases-loop-rest g l = length l.rest
