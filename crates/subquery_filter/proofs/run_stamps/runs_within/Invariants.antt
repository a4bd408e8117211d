use Rattle.subquery_filter.proofs.AloneLemmas.{WithinBefore}
use Rattle.subquery_filter.proofs.run_stamps.runs_within.Given as goal

abbrev pub invariant-loop-pattern : goal.invariant-loop-pattern
invariant-loop-pattern l = WithinBefore l.runs l.head l.pattern l.bits
