use Rattle.std.proofs.Common.{arith}
use Rattle.word_places.proofs.HeldLemmas.{grow_same}
use Rattle.word_places.proofs.OrderLemmas.{lent_count}
use Rattle.word_places.proofs.slots.hold_slot.Goals as goal

pub returns-then-ne-clause-grow : goal.returns-then-ne-clause-grow
returns-then-ne-clause-grow g c = grow_same c.args.records.now.items

pub returns-then-word-from-clause-grow : goal.returns-then-word-from-clause-grow
returns-then-word-from-clause-grow g c = grow_same c.args.records.now.items

pub returns-then-word-from-clause-held : goal.returns-then-word-from-clause-held
returns-then-word-from-clause-held g c = λ same within. absurd (omega (arith, c.if-word-from.true, c.from.ensures, lent_count 0 c.args.records.now.items c.requires, within))
