use Rattle.search_engine.proofs.LaneListLemmas.{DealtTo}
use Rattle.search_engine.proofs.lanes.deal.Given as goal

abbrev pub invariant-loop-lane : goal.invariant-loop-lane
invariant-loop-lane g l = DealtTo l.fn.lanes l.lanes l.lane-index l.fronts l.rest
