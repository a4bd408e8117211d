use Rattle.std.proofs.Common.{◌-◌, ◌<◌, ◌≤◌, ◌*◌, ℕ, length, slice_index}
use Rattle.dict_core.proofs.search.holder.Given as goal

-- the texts passed over end at or before the place
abbrev pub invariant-loop-step : goal.invariant-loop-step
invariant-loop-step l = record {
  low : l.next ≤ l.low;
  within : l.low < length l.ends;
  some : 1 ≤ l.step;
  bound : l.step ≤ 2 * length l.ends;
  before : (k : ℕ) → l.next ≤ k → k < l.low → slice_index l.ends k ≤ l.at;
}

abbrev pub decreases-loop-step : goal.decreases-loop-step
decreases-loop-step l = length l.ends - l.low
