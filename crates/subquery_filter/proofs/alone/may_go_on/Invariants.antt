use Rattle.subquery_filter.proofs.AloneLemmas.{NoneGoes}
use Rattle.subquery_filter.proofs.alone.may_go_on.Given as goal

abbrev pub invariant-loop-len : goal.invariant-loop-len
invariant-loop-len l = NoneGoes l.run l.log_type l.len
