use Rattle.std.proofs.Common.{drop}
use Rattle.std.specs.Prelude.{◌↔◌}
use Rattle.archive_core.specs.Slots.{AreHeld}
use Rattle.archive_core.proofs.held.are_held.Given as goal

abbrev pub invariant-loop-slot : goal.invariant-loop-slot
invariant-loop-slot g l = AreHeld (g.N.Names.words l.names) l.fn.slots l.fn.words ↔ AreHeld (g.N.Names.words l.names) (drop l.slot-index l.slots) l.left
