use Rattle.std.proofs.Common.{ℕ, ◌<◌, get_or}
use Rattle.std.specs.Prelude.{IsErrOf}
use Rattle.search_walk.specs.declared.refusal.SearchRefusal.{SearchRefusal}
use Rattle.group_count.specs.StepsLanes.{LaneView}
use Rattle.group_count.proofs.lanes.any_fell.Given as goal

abbrev pub invariant-loop-lane : goal.invariant-loop-lane
invariant-loop-lane g l = (k : ℕ) → k < l.lane-index → (d : LaneView g.row.P.Denot g.row.T.Denot) → ¬ IsErrOf (get_or l.lanes k d).answer SearchRefusal.DiskFault
