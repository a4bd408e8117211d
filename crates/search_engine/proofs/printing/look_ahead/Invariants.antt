use Rattle.std.proofs.Common.{◌≡◌}
use Rattle.search_engine.proofs.printing.look_ahead.Given as goal

abbrev pub invariant-loop-next : goal.invariant-loop-next
invariant-loop-next l = l.writer ≡ l.fn.writer
