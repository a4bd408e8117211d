use Rattle.std.proofs.Common.{◌≡◌, ◌∙◌, arith, length, subst}
use Rattle.archive_jobs.specs.Jobs.{AreJobsOf, IsJobOf}
use Rattle.archive_jobs.proofs.JobsLemmas.{beside_each, job_next}
use Rattle.archive_jobs.proofs.file_jobs.jobs_of.Goals as goal

pub loop-file-preserved : goal.loop-file-preserved
loop-file-preserved g c =
    let before = c.loop-file.invariant in
    record {
      room = c.push_reserved.ensures.capacity ∙ before.room;
      count = omega (arith, c.push_reserved.ensures.len, before.count);
      each = job_next (λ i whole j. IsJobOf g.L.Lent.lent.disk.seen i whole j) c.as_slice-files.result.now c.loop-file.jobs.items c.push_reserved.new.self.items c.loop-file.file-index c.len-number.result c.file-item.result c.job_of.result
          c.push_reserved.ensures.items (omega (arith, c.len-number.ensures, c.loop-file.jobs.ok.0)) (omega (arith, before.count, c.loop-file.jobs.ok.0)) c.loop-file-test.true c.file-item.is c.job_of.ensures before.each;
    }

pub returns : goal.returns
returns g c =
    let before = c.loop-file.invariant in
    let count : length c.loop-file.jobs.items ≡ length c.as_slice-files.result.now
    = omega (arith, before.count, c.loop-file.jobs.ok.0, c.loop-file.auto.file-index-end, c.loop-file-test.false) in
    subst (λ files. AreJobsOf g.L.Lent.lent.disk.seen files c.loop-file.jobs.items) (c.as_slice-files.ensures ∙ c.files.ensures) (record {
      count = count;
      each = beside_each (λ i f j. IsJobOf g.L.Lent.lent.disk.seen i f.whole j) c.as_slice-files.result.now c.loop-file.jobs.items count before.each;
    })
