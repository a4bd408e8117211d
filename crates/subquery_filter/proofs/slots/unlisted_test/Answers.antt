use Rattle.std.proofs.Common.{refl}
use Rattle.subquery_filter.proofs.FilterLemmas.{unlisted_is}
use Rattle.subquery_filter.proofs.slots.unlisted_test.Goals as goal

pub returns : goal.returns
returns c = λ plan tokens others slots text gives are. unlisted_is plan tokens others slots text _ refl refl gives (c.sums.ensures tokens are)
