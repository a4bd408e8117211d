use Rattle.std.proofs.Common.{◌≡◌, ◌+◌, ◌++◌, length, reverse, vec_capacity}
use Rattle.ingest_workers.specs.OpenWorker.{openers_in, workers_in}
use Rattle.ingest_workers.specs.StartedWorkers.{HasEnrolled}
use Rattle.ingest_workers.proofs.start_workers.enroll.Given as goal

abbrev pub invariant-loop-opener : goal.invariant-loop-opener
invariant-loop-opener g l = (vec_capacity l.workers ≡ vec_capacity l.fn.workers)
    × (vec_capacity l.openers ≡ vec_capacity l.fn.openers)
    × (length l.workers.items + length l.openers.items ≡ length l.fn.openers.items)
    × (openers_in l.workers.items ++ reverse l.openers.items ≡ reverse l.fn.openers.items)
    × HasEnrolled l.fn.types l.types l.fn.words l.words l.fn.plan (workers_in l.workers.items) (length l.workers.items)

abbrev pub decreases-loop-opener : goal.decreases-loop-opener
decreases-loop-opener g l = length l.openers.items
