use Rattle.std.proofs.Common.{◌≡◌, ◌-◌}
use Rattle.search_walk.specs.StepsPast.{PagesPast}
use Rattle.search_walk.proofs.paging.take_pages.Given as goal

abbrev pub invariant-loop-pages : goal.invariant-loop-pages
invariant-loop-pages g l =
    PagesPast (g.W.TakesPages.reaches l.fn.work l.work l.context.names l.context.query) (g.D.Disk.state l.fn.disk).seen (g.D.Disk.state l.fn.disk) (g.D.Disk.state l.disk) l.fn.pages l.pages
    l.context.names l.label.name.now l.label.number l.at
    × (g.W.TakesPages.lent l.work ≡ g.W.TakesPages.lent l.fn.work)
    × (g.W.TakesPages.sink_faults l.work ≡ g.W.TakesPages.sink_faults l.fn.work)
    × g.W.TakesPages.served l.work l.context l.held

abbrev pub decreases-loop-pages : goal.decreases-loop-pages
decreases-loop-pages g l = l.pages.pages.rows - l.pages.pages.row
