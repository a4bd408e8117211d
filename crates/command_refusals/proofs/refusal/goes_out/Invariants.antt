use Rattle.std.proofs.Common.{◌≤◌, take}
use Rattle.std.specs.List.{flat_map}
use Rattle.sink_pieces.specs.Output.{Grew}
use Rattle.command_refusals.proofs.refusal.goes_out.Given as goal

abbrev pub invariant-loop-piece : goal.invariant-loop-piece
invariant-loop-piece g l = Grew (g.K.Sink.written l.fn.err) (g.K.Sink.written l.err) (flat_map (λ p. p.now) (take l.piece-index l.pieces)) × (g.K.Sink.faults l.fn.err ≤ g.K.Sink.faults l.err)
