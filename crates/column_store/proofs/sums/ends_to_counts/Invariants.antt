use Rattle.std.proofs.Common.{◌≡◌, ◌<◌, ◌-◌, ℕ, length, drop, get_or}
use Rattle.column_store.specs.Places.{start_of}
use Rattle.column_store.proofs.sums.ends_to_counts.Given as goal

abbrev pub invariant-loop-count : goal.invariant-loop-count
invariant-loop-count l =
    (l.start ≡ start_of l.fn.ends.items l.count-index) × ((k : ℕ) → k < l.count-index → get_or l.count-items k 0 ≡ get_or l.fn.ends.items k 0 - start_of l.fn.ends.items k)
    × (drop l.count-index l.count-items ≡ drop l.count-index l.fn.ends.items) × (length l.count-items ≡ length l.fn.ends.items)
