use Rattle.std.proofs.Common.{rules}
use Rattle.wild_match.specs.Matches.{Match}
use Rattle.query_plan.specs.Needs.{around}
use Rattle.subquery_filter.specs.declared.run.Run.{Run}
use Rattle.subquery_filter.proofs.AloneLemmas.{runs_step}
use Rattle.subquery_filter.proofs.run_stamps.pattern_runs.Goals as goal

pub loop-run-preserved : goal.loop-run-preserved
loop-run-preserved c = λ moment s prints.
    runs_step (λ (r : Run). Match (around r.text) s) c.args.runs.now c.loop-run.run-index c.loop-run.bits c.pattern_bit-bits.result _ (search rules) c.run-item.is (c.pattern_bit-bits.ensures moment s prints) (c.loop-run.invariant moment s prints)

pub returns : goal.returns
returns c = λ moment s prints k d lt m. c.loop-run.invariant moment s prints k d (search rules) m
