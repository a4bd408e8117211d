use Rattle.std.proofs.Common.{arith, subst, sym}
use Rattle.query_plan.specs.StepsStanding.{IsPassed}
use Rattle.query_plan.proofs.StandingLemmas.{next_passed}
use Rattle.query_plan.proofs.slots.next_start.Goals as goal

pub returns-clause-passed : goal.returns-clause-passed
returns-clause-passed c =
    subst (λ n. IsPassed c.args.first c.args.log_type.now n) (sym c.unwrap_or.ensures)
    (next_passed c.args.first c.args.log_type.now c.min.result c.plain_front.result (omega arith) c.plain_front.ensures.within c.plain_front.ensures.plain c.memchr.result c.memchr.ensures)
