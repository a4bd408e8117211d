use Rattle.std.proofs.Common.{◌≡◌, ◌+◌, ◌++◌, length, reverse, vec_capacity}
use mathlib.Core.List.{IsPrefix}
use Rattle.ingest_workers.specs.OpenWorker.{openers_in, workers_in}
use Rattle.ingest_workers.specs.StartedWorkers.{HasDismissed}
use Rattle.ingest_workers.proofs.start_workers.dismiss.Given as goal

abbrev pub invariant-loop-worker : goal.invariant-loop-worker
invariant-loop-worker g l = IsPrefix l.workers.items l.fn.workers.items
    × HasDismissed l.fn.types l.types l.fn.words l.words (workers_in l.fn.workers.items) (length l.workers.items)
    × (vec_capacity l.openers ≡ vec_capacity l.fn.openers)
    × (length l.openers.items + length l.workers.items ≡ length l.fn.workers.items)
    × (l.openers.items ++ reverse (openers_in l.workers.items) ≡ reverse (openers_in l.fn.workers.items))

abbrev pub decreases-loop-worker : goal.decreases-loop-worker
decreases-loop-worker g l = length l.workers.items
