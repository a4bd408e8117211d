use Rattle.pair_sieve.proofs.SieveLemmas.{not_true}
use Rattle.pair_sieve.proofs.pair.serves.Goals as goal

pub returns-then-not-needs_escape-clause-stamp : goal.returns-then-not-needs_escape-clause-stamp
returns-then-not-needs_escape-clause-stamp c = λ yes. c.may_stand.ensures.none (not_true c.may_stand.result yes)
