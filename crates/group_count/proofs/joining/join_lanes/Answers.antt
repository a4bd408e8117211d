use Rattle.std.proofs.Common.{refl, rules}
use Rattle.group_count.proofs.LaneLemmas.{joined_damaged, joined_end, joined_next, went_first}
use Rattle.group_count.proofs.joining.join_lanes.Goals as goal

pub loop-lane-init : goal.loop-lane-init
loop-lane-init g c = went_first g.T.RowTable.counted c.args.context.now c.args.counts.now _ refl refl

pub loop-lane-preserved : goal.loop-lane-preserved
loop-lane-preserved g c =
    joined_next g.T.RowTable.counted c.args.context.now c.args.counts.now c.args.lanes.now c.requires.worked c.loop-lane.lane-index _ c.loop-lane.counts c.join_told.new.counts c.loop-lane.sums c.join_told.new.sums _ (search rules) c.lane-item.is c.in_ok-told.ensures.told c.in_ok-join_told.ensures
    c.loop-lane.invariant

pub returns-in_err-told-clause-damaged : goal.returns-in_err-told-clause-damaged
returns-in_err-told-clause-damaged g c = λ is.
    joined_damaged g.T.RowTable.counted c.args.context.now c.args.counts.now c.args.lanes.now c.requires.worked c.loop-lane.lane-index _ (search rules) c.lane-item.is (c.told.ensures.refused _ (search (rules, is)))

pub returns-clause-done : goal.returns-clause-done
returns-clause-done g c =
    joined_end g.T.RowTable.counted c.args.context.now c.args.counts.now c.args.lanes.now c.requires.worked c.loop-lane.lane-index c.loop-lane.counts c.loop-lane.sums (search rules) c.loop-lane.invariant
