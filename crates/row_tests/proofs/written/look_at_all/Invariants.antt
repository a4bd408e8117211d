use Rattle.std.proofs.Common.{◌≡◌}
use Rattle.row_tests.proofs.written.look_at_all.Given as goal

abbrev pub invariant-loop-line : goal.invariant-loop-line
invariant-loop-line l = l.writer ≡ l.fn.writer
