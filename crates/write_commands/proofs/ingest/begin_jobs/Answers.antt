use Rattle.std.proofs.Common.{arith, ap, Some, ◌∙◌, ◌∷◌, []}
use Rattle.std.proofs.lemmas.List.{map-append}
use Rattle.log_sources.specs.Sources.{is_opened, refusal_of}
use Rattle.file_outcomes.specs.Jobs.{opens_of, sources_of}
use Rattle.write_commands.proofs.JobLemmas.{numbered_next}
use Rattle.write_commands.proofs.PopLemmas.{popped_next}
use Rattle.write_commands.proofs.ingest.begin_jobs.Goals as goal

pub loop-source-preserved : goal.loop-source-preserved
loop-source-preserved g c = let before = c.loop-source.invariant in record {
  numbered = rw c.push_reserved-in-Some.ensures.items (numbered_next _ c.loop-source.jobs.items c.begin_job.result before.numbered (record { outcome = c.begin_job.ensures.new; file = omega (arith, c.begin_job.ensures.file, c.len.ensures); whole = c.begin_job.ensures.whole }));
  count = omega (arith, c.push_reserved-in-Some.ensures.len, c.in-Some.ensures.len, before.count);
  opened = omega (arith, c.push_reserved-in-Some.ensures.len, c.push_reserved.ensures.len, before.opened);
  room_jobs = c.push_reserved-in-Some.ensures.capacity ∙ before.room_jobs;
  room_openings = c.push_reserved.ensures.capacity ∙ before.room_openings;
  room = c.in-Some.ensures.capacity ∙ before.room;
  sourced = popped_next Some (sources_of c.loop-source.jobs.items) _ _ _ _ _ _ c.in-Some.ensures.items (ap sources_of c.push_reserved-in-Some.ensures.items ∙ map-append (λ job. job.source) c.loop-source.jobs.items (c.begin_job.result ∷ [])) c.begin_job.ensures.source before.sourced;
  opened_jobs = popped_next is_opened (opens_of c.loop-source.jobs.items) _ _ _ _ _ _ c.in-Some.ensures.items (ap opens_of c.push_reserved-in-Some.ensures.items ∙ map-append (λ job. job.is_open) c.loop-source.jobs.items (c.begin_job.result ∷ [])) c.begin_job.ensures.opened before.opened_jobs;
  openings = popped_next refusal_of c.loop-source.openings.items _ _ _ _ _ _ c.in-Some.ensures.items c.push_reserved.ensures.items c.refusal.ensures before.openings;
}
