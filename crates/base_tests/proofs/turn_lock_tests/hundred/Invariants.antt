use Rattle.std.proofs.Common.{◌≤◌}
use Rattle.turn_lock.specs.Words.{number_of, IsReady, IsStill}
use Rattle.base_tests.proofs.turn_lock_tests.hundred.Given as goal

abbrev pub invariant-loop-i : goal.invariant-loop-i
invariant-loop-i g l = IsStill l.initial.pass l.pass × IsReady l.pass × (number_of l.pass ≤ l.from)
