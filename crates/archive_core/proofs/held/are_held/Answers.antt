use Rattle.std.proofs.Common.{rules}
use Rattle.archive_core.proofs.HeldLemmas.{held_short}
use Rattle.archive_core.proofs.held.are_held.Goals as goal

pub returns-in_default : goal.returns-in_default
returns-in_default g c = (
  λ yes. absurd (cc (yes)),
  λ all. absurd (held_short (g.N.Names.words c.args.names.now) c.args.slots.now c.loop-slot.slot-index c.args.words.now c.loop-slot.left.now (search rules) c.in_default.len_below c.loop-slot.invariant all),
)
