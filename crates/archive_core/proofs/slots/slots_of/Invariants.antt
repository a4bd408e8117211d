use Rattle.std.proofs.Common.{◌≡◌, ◌++◌, drop}
use Rattle.archive_core.specs.Slots.{slots_from, slots_of}
use Rattle.archive_core.proofs.slots.slots_of.Given as goal

abbrev pub invariant-loop-byte : goal.invariant-loop-byte
invariant-loop-byte l = slots_of l.text ≡ l.slots.items ++ slots_from l.at.prev l.at.escaped (drop l.byte-index l.text)
