use Rattle.subquery_filter.proofs.AloneLemmas.{TableBefore}
use Rattle.subquery_filter.proofs.run_stamps.mark_runs.Given as goal

abbrev pub invariant-loop-pattern : goal.invariant-loop-pattern
invariant-loop-pattern l = TableBefore l.runs l.pattern l.stamps.items
