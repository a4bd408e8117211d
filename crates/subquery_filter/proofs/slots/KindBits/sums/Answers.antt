use Rattle.subquery_filter.proofs.SlotLemmas.{kinds_summed}
use Rattle.subquery_filter.proofs.slots.KindBits.sums.Goals as goal

pub returns : goal.returns
returns c = λ tokens are. kinds_summed tokens c.args.self.now are
