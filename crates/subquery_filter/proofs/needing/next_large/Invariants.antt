use Rattle.std.proofs.Common.{◌<◌, ◌≤◌, ℕ, get_or, length}
use Rattle.subquery_filter.proofs.needing.next_large.Given as goal

abbrev pub invariant-loop-place : goal.invariant-loop-place
invariant-loop-place l = (k : ℕ) → l.from ≤ k → k < l.place → k < length l.words → get_or l.words k 0 < l.bound
