use Rattle.std.proofs.Common.{◌≡◌, ◌≢◌, ℕ, ◌<◌, Some, slice_get}
use Rattle.subquery_filter.specs.declared.slots.Slot.{Slot}
use Rattle.subquery_filter.proofs.slots.has_kind.Given as goal

abbrev pub invariant-loop-slot : goal.invariant-loop-slot
invariant-loop-slot l = (k : ℕ) (other : Slot) → k < l.slot-index → slice_get l.slots k ≡ Some other → other.kind ≢ l.kind
