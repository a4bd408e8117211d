use Rattle.search_walk.specs.Held.{named}
use Rattle.search_walk.specs.StepsScope.{scope}
use Rattle.search_engine.proofs.PartLemmas.{Lent}
use Rattle.search_engine.proofs.parts.lend_lanes.Given as goal

abbrev pub invariant-loop : goal.invariant-loop
invariant-loop g l =
    Lent g.D.Part.Disk.state (g.D.Disk.state l.fn.disk) (g.D.Disk.state l.disk) (scope (named (g.D.Disk.state l.fn.disk).seen l.first) l.lane.query.now l.lane.files.now) l.lanes.items
