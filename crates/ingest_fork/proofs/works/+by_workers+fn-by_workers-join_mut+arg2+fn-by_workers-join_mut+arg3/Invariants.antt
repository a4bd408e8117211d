use Rattle.std.proofs.Common.{length}
use Rattle.ingest_fork.proofs.works.+by_workers+fn-by_workers-join_mut+arg2+fn-by_workers-join_mut+arg3.Given as goal

abbrev pub decreases-by_workers : goal.decreases-by_workers
decreases-by_workers g l = length l.workers.now

abbrev pub decreases-join_mut+arg2 : goal.decreases-join_mut+arg2
decreases-join_mut+arg2 g l = length l.these.now

abbrev pub decreases-join_mut+arg3 : goal.decreases-join_mut+arg3
decreases-join_mut+arg3 g l = length l.others.now
