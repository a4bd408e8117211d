use Rattle.std.proofs.Common.{◌+◌, ◌<◌, ◌^◌, ℕ, ℤ}
use Rattle.std.specs.Ordering.{int_cmp}
use Rattle.group_count.specs.Tables.{AreTallied}
use Rattle.group_count.proofs.JoinLemmas.{AddedSoFar}
use Rattle.group_count.proofs.minutes.add_all.Given as goal

abbrev pub invariant-loop-minute : goal.invariant-loop-minute
invariant-loop-minute l =
    (often others : ℤ → ℕ) → ((q : ℤ) → often q + others q < 2 ^ 64) → AreTallied int_cmp l.fn.minutes.entries often
    → AreTallied int_cmp l.more.entries others → AddedSoFar often others l.minutes.entries l.minute-iterator
