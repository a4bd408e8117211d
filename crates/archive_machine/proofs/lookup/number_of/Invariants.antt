use Rattle.std.proofs.Common.{◌≡◌, ◌≢◌, ℕ, ◌<◌, List, Some, slice_get}
use Rattle.archive_machine.proofs.lookup.number_of.Given as goal

abbrev pub invariant-loop-number : goal.invariant-loop-number
invariant-loop-number l = (k : ℕ) (known : List ℕ) → k < l.number → slice_get l.texts k ≡ Some known → known ≢ l.text
