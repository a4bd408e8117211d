use Rattle.std.proofs.Common.{◌∙◌, ap, arith}
use Rattle.ingest_workers.specs.declared.outcome.Outcome.{Outcome}
use Rattle.file_outcomes.specs.Jobs.{of_cause}
use Rattle.std.specs.Prelude.{option_map}
use Rattle.upgrade_command.proofs.CameLemmas.{reports_pushed}
use Rattle.upgrade_command.proofs.taking.report_jobs.Goals as goal

pub loop-place-preserved : goal.loop-place-preserved
loop-place-preserved g c =
    let before = c.loop-place.invariant in
    let told = c.outcome-outcome.ensures ∙ ap (λ j. j.outcome) c.index-jobs-place.is in
    record {
      room = c.push_reserved.ensures.capacity ∙ before.room;
      count = omega (arith, c.push_reserved.ensures.len, before.count);
      these = reports_pushed c.args.jobs.now c.loop-place.reports.items _ c.args.files.now c.loop-place.place _ _ c.index-files-place.result c.loop-place-test.true c.requires.few before.these c.push_reserved.ensures.items (record {
        name = c.as_slice.ensures;
        messages = ap (λ (o : Outcome). o.messages) told;
        whole = ap (λ (o : Outcome). o.whole) told;
        refusal = c.refusal_of_cause.ensures ∙ ap (λ (o : Outcome). option_map of_cause o.cause) told;
      });
    }
