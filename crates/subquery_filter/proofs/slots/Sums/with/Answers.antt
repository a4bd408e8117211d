use Rattle.std.proofs.Common.{rules}
use Rattle.subquery_filter.proofs.SlotLemmas.{numbers_more, numbers_summed, words_more, words_summed}
use Rattle.subquery_filter.proofs.slots.Sums.with.Goals as goal

pub returns-then-eq-clause-more : goal.returns-then-eq-clause-more
returns-then-eq-clause-more c = words_more c.args.self c.args.slot.bits

pub returns-then-eq-clause-slot : goal.returns-then-eq-clause-slot
returns-then-eq-clause-slot c = words_summed c.args.self c.args.slot.bits c.args.slot.kind (search rules)

pub returns-else-eq-clause-more : goal.returns-else-eq-clause-more
returns-else-eq-clause-more c = numbers_more c.args.self c.args.slot.bits

pub returns-else-eq-clause-slot : goal.returns-else-eq-clause-slot
returns-else-eq-clause-slot c = numbers_summed c.args.self c.args.slot.bits c.args.slot.kind (search rules)
