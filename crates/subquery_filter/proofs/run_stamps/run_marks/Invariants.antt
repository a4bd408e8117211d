use Rattle.wild_match.specs.Matches.{Match}
use Rattle.query_plan.specs.Needs.{around}
use Rattle.subquery_filter.specs.declared.run.Run.{Run}
use Rattle.subquery_filter.proofs.AloneLemmas.{RunsBefore}
use Rattle.subquery_filter.proofs.run_stamps.run_marks.Given as goal

abbrev pub invariant-loop-run : goal.invariant-loop-run
invariant-loop-run l = RunsBefore (λ (r : Run). Match (around r.text) l.stamp) l.runs l.run-index l.bits
