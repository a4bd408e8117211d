use Rattle.std.proofs.Common.{◌≡◌, ◌<◌, ◌+◌, ℕ, length, take, drop, get_or, sum}
use Rattle.column_store.proofs.sums.counts_to_ends.Given as goal

abbrev pub invariant-loop-end : goal.invariant-loop-end
invariant-loop-end l =
    (l.total ≡ sum (take l.end-index l.fn.counts.items)) × ((k : ℕ) → k < l.end-index → get_or l.end-items k 0 ≡ sum (take (k + 1) l.fn.counts.items))
    × (drop l.end-index l.end-items ≡ drop l.end-index l.fn.counts.items) × (length l.end-items ≡ length l.fn.counts.items)
