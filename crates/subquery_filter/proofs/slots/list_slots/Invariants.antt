use Rattle.std.proofs.Common.{◌≤◌, length}
use Rattle.subquery_filter.specs.StepsFilter.{ListedUpTo, Stays}
use Rattle.subquery_filter.proofs.slots.list_slots.Given as goal

abbrev pub invariant-loop-symbol : goal.invariant-loop-symbol
invariant-loop-symbol l =
    ListedUpTo l.kinds l.text l.rest l.place (length l.fn.slots.items) l.known l.slots.items
    × Stays l.fn.slots.items l.slots.items
    × (length l.fn.slots.items ≤ length l.slots.items)

abbrev pub decreases-loop-symbol : goal.decreases-loop-symbol
decreases-loop-symbol l = length l.rest
