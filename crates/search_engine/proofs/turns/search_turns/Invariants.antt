use Rattle.std.proofs.Common.{◌≡◌, ◌≤◌, ◌++◌, length, All, List, []}
use Rattle.archive_places.specs.declared.front.SegmentFront.{SegmentFront}
use Rattle.search_walk.specs.Ready.{Serves}
use Rattle.search_walk.specs.StepsScope.{Scope}
use Rattle.search_engine.specs.Lanes.{IsFresh, IsLane}
use Rattle.search_engine.specs.SegmentsDone.{SearchedFronts}
use Rattle.search_engine.specs.Waiting.{state}
use Rattle.search_engine.proofs.turns.search_turns.Given as goal

abbrev pub invariant-loop-left : goal.invariant-loop-left
invariant-loop-left g l = record {
  gone : List SegmentFront;
  parts : l.fronts ≡ gone ++ l.left;
  most : l.count ≤ length gone;
  len : length l.lanes ≡ length l.fn.lanes;
  fresh : All (IsFresh g.P.Disk.state) l.lanes;
  lanes : (s : Scope) → All (IsLane g.P.Disk.state (g.D.Disk.state l.lender) s l.fronts) l.fn.lanes → All (IsLane g.P.Disk.state (g.D.Disk.state l.lender) s l.fronts) l.lanes;
  searched : (s : Scope) → All (IsLane g.P.Disk.state (g.D.Disk.state l.lender) s l.fronts) l.fn.lanes
      → SearchedFronts (g.D.Disk.state l.lender).seen s.names s.files s.query gone (state (g.K.Sink.written l.fn.out) l.fn.batch l.fn.expanded) (state (g.K.Sink.written l.out) l.batch l.expanded) l.fn.opened l.opened l.count;
  words : (s : Scope) → All (IsLane g.P.Disk.state (g.D.Disk.state l.lender) s l.fronts) l.fn.lanes → Serves s.names l.fn.all → Serves s.names l.all;
  empty : l.batch.pages ≡ [];
  faults : g.K.Sink.faults l.out ≡ g.K.Sink.faults l.fn.out;
}

abbrev pub decreases-loop-left : goal.decreases-loop-left
decreases-loop-left g l = length l.left
