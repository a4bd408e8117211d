use Rattle.std.proofs.Common.{◌-◌, ◌<◌, ◌≤◌, length}
use Rattle.word_places.specs.StepsHeld.{StartsBy, StartsPast}
use Rattle.word_places.proofs.order.records_up_to.Given as goal

abbrev pub invariant-loop-low : goal.invariant-loop-low
invariant-loop-low l = record {
  between : l.low ≤ l.high;
  within : l.high ≤ length l.records;
  before : 0 < l.low → StartsBy l.records (l.low - 1) l.number;
  past : StartsPast l.records l.high l.number;
}

abbrev pub decreases-loop-low : goal.decreases-loop-low
decreases-loop-low l = l.high - l.low
