use Rattle.std.proofs.Common.{◌≡◌}
use Rattle.search_walk.specs.StepsPast.{SegmentsRun}
use Rattle.search_walk.proofs.segments.visit_segments.Given as goal

abbrev pub invariant-loop-place : goal.invariant-loop-place
invariant-loop-place g l =
    SegmentsRun (g.W.TakesPages.reaches l.fn.work l.work l.context.names l.context.query) (g.D.Disk.state l.fn.disk) (g.D.Disk.state l.disk) l.context.names l.context.files l.context.query l.fronts l.place
    l.fn.opened l.opened l.count
    × (g.W.TakesPages.lent l.work ≡ g.W.TakesPages.lent l.fn.work)
    × (g.W.TakesPages.sink_faults l.work ≡ g.W.TakesPages.sink_faults l.fn.work)
    × g.W.TakesPages.served l.work l.context l.held
