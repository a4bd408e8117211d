use Rattle.subquery_filter.proofs.BitLemmas.{has_none}
use Rattle.subquery_filter.proofs.slots.left_to_stamps.Goals as goal

pub returns-then-known : goal.returns-then-known
returns-then-known c = λ may each. has_none may
