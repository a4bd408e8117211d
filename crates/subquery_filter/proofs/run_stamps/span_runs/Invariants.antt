use Rattle.std.proofs.Common.{List, ℕ}
use Rattle.std.specs.Prelude.{ℤ, ◌≤ℤ◌}
use Rattle.time_patterns.specs.Stamps.{Prints}
use Rattle.wild_match.specs.Matches.{Match}
use Rattle.query_plan.specs.Needs.{around}
use Rattle.subquery_filter.specs.declared.run.Run.{Run}
use Rattle.subquery_filter.proofs.AloneLemmas.{RunsBefore}
use Rattle.subquery_filter.proofs.run_stamps.span_runs.Given as goal

abbrev pub invariant-loop-run : goal.invariant-loop-run
invariant-loop-run l =
    (moment : ℤ) (s : List ℕ) → l.least ≤ℤ moment → moment ≤ℤ l.greatest → Prints l.pattern moment s → RunsBefore (λ (r : Run). Match (around r.text) s) l.runs l.run-index l.bits
