use Rattle.std.proofs.Common.{◌≡◌, of_z, rules, to_z, w64}
use Rattle.wild_match.specs.Matches.{Match}
use Rattle.query_plan.specs.Needs.{around}
use Rattle.subquery_filter.specs.declared.run.Run.{Run}
use Rattle.subquery_filter.proofs.AloneLemmas.{runs_step}
use Rattle.subquery_filter.proofs.run_stamps.span_runs.Goals as goal

pub loop-run-preserved : goal.loop-run-preserved
loop-run-preserved c = λ moment s low high prints.
    runs_step (λ (r : Run). Match (around r.text) s) c.args.runs.now c.loop-run.run-index c.loop-run.bits c.span_bit-bits.result _ (search rules) c.run-item.is (c.span_bit-bits.ensures moment s low high prints) (c.loop-run.invariant moment s low high prints)

pub returns : goal.returns
returns c = λ moment s low high prints k d lt m.
    let least : to_z w64 (of_z w64 c.args.least) ≡ c.args.least = search rules in
    let greatest : to_z w64 (of_z w64 c.args.greatest) ≡ c.args.greatest = search rules in
    c.loop-run.invariant moment s (rw least low) (rw greatest high) prints k d (search rules) m
