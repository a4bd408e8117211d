use Rattle.std.proofs.Common.{length}
use Rattle.search_walk.specs.Held.{named}
use Rattle.search_walk.specs.StepsScope.{scope}
use Rattle.group_count.proofs.LaneLemmas.{Dealing}
use Rattle.group_count.proofs.lanes.deal.Given as goal

abbrev pub decreases-loop-part : goal.decreases-loop-part
decreases-loop-part g l = length l.parts.items

abbrev pub invariant-loop-part : goal.invariant-loop-part
invariant-loop-part g l =
    let d = g.D.Disk.state l.lender in
    Dealing g.D.Part.Disk.state g.T.RowTable.counted d (scope (named d.seen l.first) l.lane.query.now l.lane.files.now) l.table (length l.fn.parts.items) l.fronts l.lanes.items l.parts.items l.rest
