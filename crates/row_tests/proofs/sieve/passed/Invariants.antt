use Rattle.std.proofs.Common.{◌≤◌}
use Rattle.row_tests.proofs.sieve.passed.Given as goal

abbrev pub invariant-loop-place : goal.invariant-loop-place
invariant-loop-place l = l.count ≤ l.place
