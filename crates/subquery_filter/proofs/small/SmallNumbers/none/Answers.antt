use Rattle.std.proofs.Common.{arith, rules}
use Rattle.subquery_filter.proofs.FilterLemmas.{small_none}
use Rattle.subquery_filter.proofs.SmallLemmas.{bound_none}
use Rattle.subquery_filter.proofs.small.SmallNumbers.none.Goals as goal

pub returns : goal.returns
returns c = λ tokens. record { least = λ n below. absurd (omega (arith, below)); bound = bound_none tokens; marks = small_none tokens _ (search rules) }
