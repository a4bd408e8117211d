use Rattle.std.proofs.Common.{arith, refl}
use Rattle.std.proofs.lemmas.Int.{ints}
use Rattle.subquery_filter.proofs.PageLemmas.{may_none}
use Rattle.subquery_filter.proofs.shared.PageTests.new.Goals as goal

pub returns : goal.returns
returns c = λ tokens runs. may_none tokens runs 32 _ _ refl (omega (arith, ints))
