use Rattle.std.proofs.Common.{arith, refl}
use Rattle.std.proofs.lemmas.Option.{slice_get_within}
use Rattle.ingest_workers.proofs.RefuseLemmas.{refused_more}
use Rattle.ingest_workers.proofs.ingesting.refuse.Goals as goal

pub loop-job-init : goal.loop-job-init
loop-job-init g c = (refl, (λ i job lt at. absurd (omega (arith, lt))), (λ i job at. (job, at, refl, refl)))

pub loop-job-preserved : goal.loop-job-preserved
loop-job-preserved g c = refused_more c.args.jobs.now c.loop-job.jobs c.loop-job.job-index _ c.job-item.result c.loop-job.invariant refl refl refl

pub returns : goal.returns
returns g c = let inv = c.loop-job.invariant in record {
  counted = inv.0;
  each = λ i job at. inv.1 i job (omega (arith, inv.0, c.loop-job-test.false, slice_get_within c.loop-job.jobs i job at)) at;
  same = inv.2;
}
