use Rattle.std.proofs.Common.{arith, ap, sym, ℕ, List, [], ◌<◌, ◌∙◌, ◌∷◌, None, Some, get_or, length, map}
use Rattle.std.proofs.lemmas.List.{map-append}
use Rattle.std.specs.Borrow.{Bor}
use Rattle.std.proofs.lemmas.List.{get_or_default}
use Rattle.ingest_workers.specs.declared.outcome.Outcome.{Outcome}
use Rattle.log_sources.specs.Sources.{str_bytes}
use Rattle.file_outcomes.specs.Jobs.{IsToldBy, refusal_by}
use Rattle.file_outcomes.specs.declared.file_report.FileReport.{FileReport}
use Rattle.write_commands.proofs.JobLemmas.{named_next}
use Rattle.write_commands.proofs.PopLemmas.{each_next, left_next, next_of, popped_next, popped_of, read_place}
use Rattle.write_commands.proofs.ingest.end_jobs.Goals as goal

pub loop-job-preserved : goal.loop-job-preserved
loop-job-preserved g c =
    let before = c.loop-job.invariant in
    let none : Bor (List ℕ) = record { ref_ptr = (0, 0); now = [] } in
    let name = get_or c.args.names.now c.len-place.result none in
    let within : c.len-place.result < length c.args.names.now = omega (arith, c.len-place.ensures, c.in-Some.ensures.len, before.count) in
    let next = next_of c.args.jobs.now.items (length c.loop-job.taken.items) c.in-Some.job _ (before.left ∙ popped_of _ _ _ c.in-Some.ensures.items) in
    record {
      named = named_next str_bytes (λ (file : FileReport). file.name.now) c.args.names.now c.loop-job.taken.items _ c.len-place.result name _
          (omega (arith, c.len-place.ensures)) within (get_or_default c.args.names.now c.len-place.result none name within) c.as_bytes.ensures.value c.push_reserved.ensures.items before.named;
      count = omega (arith, c.push_reserved.ensures.len, c.in-Some.ensures.len, before.count);
      room = c.push_reserved.ensures.capacity ∙ before.room;
      ended = omega (arith, c.push_reserved-in-Some.ensures.len, c.push_reserved.ensures.len, before.ended);
      room_sources = c.push_reserved-in-Some.ensures.capacity ∙ before.room_sources;
      given = popped_next (λ job. job.source) (map Some c.loop-job.sources.items) _ _ _ _ _ _ c.in-Some.ensures.items (ap (map Some) c.push_reserved-in-Some.ensures.items ∙ map-append Some c.loop-job.sources.items (c.into_source.result ∷ [])) (sym c.into_source.ensures) before.given;
      left = left_next c.args.jobs.now.items _ c.loop-job.taken.items _ _ c.push_reserved.ensures.items next.rest;
      told = each_next (λ (i : ℕ) (file : FileReport). IsToldBy c.args.openings.now c.args.jobs.now.items i file) c.loop-job.taken.items _ _ c.push_reserved.ensures.items
          (record {
            job = c.in-Some.job;
            at = next.at;
            opening = get_or c.args.openings.now c.len-place.result None;
            opening_at = read_place c.args.openings.now c.len-place.result (length c.loop-job.taken.items) None (omega (arith, c.len-place.ensures)) (omega (arith, c.len-place.ensures, c.in-Some.ensures.len, before.count, c.requires.count.1));
            opened = c.is_none.ensures;
            messages = ap (λ (o : Outcome). o.messages) c.outcome-outcome.ensures;
            whole = ap (λ (o : Outcome). o.whole) c.outcome-outcome.ensures;
            refusal = c.refusal_of_file.ensures ∙ ap (λ (o : Outcome). refusal_by (get_or c.args.openings.now c.len-place.result None) o.cause) c.outcome-outcome.ensures;
          })
          before.told;
    }
