use Rattle.std.proofs.Common.{◌≡◌, ◌≢◌, ℕ, ◌<◌, Some, slice_get}
use Rattle.archive_machine.specs.declared.state.Hand.{Hand}
use Rattle.archive_machine.proofs.hands.place_of.Given as goal

abbrev pub invariant-loop-place : goal.invariant-loop-place
invariant-loop-place l = (k : ℕ) (other : Hand) → k < l.place → slice_get l.hands k ≡ Some other → other.worker ≢ l.worker
