use Rattle.std.proofs.Common.{◌≡◌, length, vec_capacity}
use Rattle.ingest_workers.proofs.ingesting.as_they_are.Given as goal

abbrev pub invariant-loop-made : goal.invariant-loop-made
invariant-loop-made l = (vec_capacity l.openers ≡ l.fn.count) × (length l.openers.items ≡ l._made)
