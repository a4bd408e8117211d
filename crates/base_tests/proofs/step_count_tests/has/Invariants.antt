use Rattle.std.proofs.Common.{◌≡◌, ◌≢◌, ℕ, ◌+◌, ◌<◌, slice_index}
use Rattle.base_tests.proofs.step_count_tests.has.Given as goal

abbrev pub invariant-loop-found : goal.invariant-loop-found
invariant-loop-found g l = record {
  looked : l.looks ≡ l.initial.looks + l.found-index;
  passed : (k : ℕ) → k < l.found-index → slice_index l.bytes k ≢ l.byte;
}
