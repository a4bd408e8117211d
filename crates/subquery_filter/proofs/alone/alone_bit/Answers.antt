use Rattle.subquery_filter.proofs.BitLemmas.{has_none}
use Rattle.subquery_filter.proofs.alone.alone_bit.Goals as goal

pub returns-then-may_have_slot : goal.returns-then-may_have_slot
returns-then-may_have_slot c = λ may each. has_none may

pub returns-then-may_go_on : goal.returns-then-may_go_on
returns-then-may_go_on c = λ may each. has_none may
