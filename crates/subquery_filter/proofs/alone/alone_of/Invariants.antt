use Rattle.subquery_filter.proofs.AloneLemmas.{AloneBefore}
use Rattle.subquery_filter.proofs.alone.alone_of.Given as goal

abbrev pub invariant-loop-run : goal.invariant-loop-run
invariant-loop-run l = AloneBefore l.runs l.log_type l.run-index l.bits
