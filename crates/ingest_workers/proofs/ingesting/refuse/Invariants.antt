use Rattle.std.proofs.Common.{◌≡◌, ℕ, ◌<◌, length, Some, slice_get}
use Rattle.ingest_workers.specs.declared.job.Job.{Job}
use Rattle.ingest_workers.specs.Ingested.{not_begun}
use Rattle.ingest_workers.proofs.ingesting.refuse.Given as goal

abbrev pub invariant-loop-job : goal.invariant-loop-job
invariant-loop-job g l = (length l.jobs ≡ length l.fn.jobs) × ((i : ℕ) (job : Job g.row.S.Denot) → i < l.job-index → slice_get l.jobs i ≡ Some job → job.outcome ≡ not_begun)
    × ((i : ℕ) (job : Job g.row.S.Denot) → slice_get l.fn.jobs i ≡ Some job → (new : Job g.row.S.Denot) × (slice_get l.jobs i ≡ Some new) × (new.file ≡ job.file) × (new.source ≡ job.source))
