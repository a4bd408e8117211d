use Rattle.std.proofs.Common.{take}
use Rattle.group_count.specs.StepsLanes.{WentOver, fronts_of}
use Rattle.group_count.proofs.joining.join_lanes.Given as goal

abbrev pub invariant-loop-lane : goal.invariant-loop-lane
invariant-loop-lane g l = WentOver g.T.RowTable.counted l.context l.fn.counts l.counts l.sums (fronts_of (take l.lane-index l.lanes))
