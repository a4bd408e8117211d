use Rattle.std.proofs.Common.{take}
use Rattle.archive_core.specs.LogTypes.{AreKnown}
use Rattle.archive_core.proofs.log_types.known_of.Given as goal

abbrev pub invariant-loop-number : goal.invariant-loop-number
invariant-loop-number g l = AreKnown (take l.number (g.N.Names.types l.names)) l.known.items
