use Rattle.std.proofs.Common.{length}
use mathlib.Core.List.{IsPrefix}
use Rattle.ingest_fork.specs.Passes.{Joined}
use Rattle.ingest_fork.proofs.passes.join_all.Given as goal

abbrev pub invariant-loop-pass : goal.invariant-loop-pass
invariant-loop-pass g l =
    IsPrefix l.passes.items l.fn.passes.items × Joined l.fn.maker l.maker l.fn.passes.items (length l.passes.items)

abbrev pub decreases-loop-pass : goal.decreases-loop-pass
decreases-loop-pass g l = length l.passes.items
