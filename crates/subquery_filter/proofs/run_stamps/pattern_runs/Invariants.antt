use Rattle.std.proofs.Common.{List, ℕ}
use Rattle.std.specs.Prelude.{ℤ}
use Rattle.time_patterns.specs.Stamps.{Prints}
use Rattle.wild_match.specs.Matches.{Match}
use Rattle.query_plan.specs.Needs.{around}
use Rattle.subquery_filter.specs.declared.run.Run.{Run}
use Rattle.subquery_filter.proofs.AloneLemmas.{RunsBefore}
use Rattle.subquery_filter.proofs.run_stamps.pattern_runs.Given as goal

abbrev pub invariant-loop-run : goal.invariant-loop-run
invariant-loop-run l =
    (moment : ℤ) (s : List ℕ) → Prints l.pattern moment s → RunsBefore (λ (r : Run). Match (around r.text) s) l.runs l.run-index l.bits
