use Rattle.std.proofs.Common.{rules}
use Rattle.wild_match.specs.Matches.{Match}
use Rattle.query_plan.specs.Needs.{around}
use Rattle.subquery_filter.specs.declared.run.Run.{Run}
use Rattle.subquery_filter.proofs.AloneLemmas.{runs_step}
use Rattle.subquery_filter.proofs.run_stamps.run_marks.Goals as goal

pub loop-run-preserved : goal.loop-run-preserved
loop-run-preserved c =
    runs_step (λ (r : Run). Match (around r.text) c.args.stamp.now) c.args.runs.now c.loop-run.run-index c.loop-run.bits c.run_mark-bits.result _ (search rules) c.run-item.is c.run_mark-bits.ensures c.loop-run.invariant

pub returns : goal.returns
returns c = λ k d lt m. c.loop-run.invariant k d (search rules) m
