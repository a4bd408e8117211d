use Rattle.std.proofs.Common.{◌≡◌}
use Rattle.row_codec.proofs.writer.RowWriter.look_ahead.Given as goal

abbrev pub invariant-loop-next : goal.invariant-loop-next
invariant-loop-next g l = l.self ≡ l.fn.self
