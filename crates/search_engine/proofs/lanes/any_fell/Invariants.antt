use Rattle.std.proofs.Common.{ℕ, ◌<◌, get_or}
use Rattle.std.specs.Prelude.{IsErrOf}
use Rattle.search_walk.specs.declared.refusal.SearchRefusal.{SearchRefusal}
use Rattle.search_engine.specs.Lanes.{LaneView}
use Rattle.search_engine.proofs.lanes.any_fell.Given as goal

abbrev pub invariant-loop-lane : goal.invariant-loop-lane
invariant-loop-lane g l = (k : ℕ) → k < l.lane-index → (d : LaneView g.row.P.Denot) → ¬ IsErrOf (get_or l.lanes k d).left.answer SearchRefusal.DiskFault
