use Rattle.std.proofs.Common.{◌≡◌, ◌≤◌, ◌<◌, ℕ, get_or, length, take, []}
use Rattle.search_engine.specs.Lanes.{IsWell, LaneView, fronts_of}
use Rattle.search_engine.specs.Waiting.{state}
use Rattle.search_engine.proofs.LaneListLemmas.{Past}
use Rattle.search_engine.proofs.turns.gather_lanes.Given as goal

abbrev pub invariant-loop-lane : goal.invariant-loop-lane
invariant-loop-lane g l = record {
  past : Past l.lanes l.lane-index (state (g.K.Sink.written l.fn.out) l.fn.batch l.fn.expanded) (state (g.K.Sink.written l.out) l.batch l.expanded) l.fn.opened l.opened l.count;
  most : l.count ≤ length (fronts_of (take l.lane-index l.lanes));
  well : (k : ℕ) → k < l.lane-index → (d : LaneView g.row.P.Denot) → IsWell (get_or l.lanes k d);
  empty : l.batch.pages ≡ [];
  faults : g.K.Sink.faults l.out ≡ g.K.Sink.faults l.fn.out;
}
