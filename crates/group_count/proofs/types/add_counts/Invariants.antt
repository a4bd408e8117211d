use Rattle.std.proofs.Common.{◌≤◌, ◌^◌, length}
use Rattle.group_count.proofs.JoinLemmas.{AddedTo}
use Rattle.group_count.proofs.types.add_counts.Given as goal

abbrev pub invariant-loop-place : goal.invariant-loop-place
invariant-loop-place l =
    AddedTo l.fn.counts.items l.more l.counts.items l.place × (length l.fn.counts.items ≤ 2 ^ 32 → length l.counts.items ≤ 2 ^ 32)
