use Rattle.group_count.proofs.PartLemmas.{Back}
use Rattle.group_count.proofs.lanes.take_back_all.Given as goal

abbrev pub decreases-loop-lane : goal.decreases-loop-lane
decreases-loop-lane g l = goal.left-loop-lane g l

abbrev pub invariant-loop-lane : goal.invariant-loop-lane
invariant-loop-lane g l = Back g.D.Part.Disk.state (g.D.Disk.state l.fn.disk) (g.D.Disk.state l.disk) l.fn.lanes.items l.lanes.items
