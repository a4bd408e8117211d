use Rattle.search_engine.proofs.LaneListLemmas.{HavePassed}
use Rattle.search_engine.proofs.lanes.pass_words.Given as goal

abbrev pub invariant-loop-lane : goal.invariant-loop-lane
invariant-loop-lane g l = HavePassed g.P.Disk.state l.fn.lanes l.lanes l.fn.all l.all
