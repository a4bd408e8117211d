use Rattle.std.proofs.Common.{rules, subst}
use Rattle.search_walk.proofs.AnswerLemmas.{if_ok_to}
use Rattle.search_walk.specs.Opened.{NoFronts}
use Rattle.group_count.specs.StepsLanes.{WentOver}
use Rattle.group_count.proofs.LaneLemmas.{ran_fell, ran_fronts, ran_lanes, ran_stood, ran_worked}
use Rattle.group_count.proofs.beside.count_lanes.Goals as goal

pub join_lanes-requires-clause-worked : goal.join_lanes-requires-clause-worked
join_lanes-requires-clause-worked g c =
    ran_worked g.P.Disk.state g.T.RowTable.counted (g.D.Disk.state c.args.lender.now) c.args.context.now c.args.counts.now.table c.args.lanes.now c.run_lanes.new.lanes c.run_lanes.ensures.len c.run_lanes.ensures.run c.requires.lanes

pub returns-then-any_fell-clause-lanes : goal.returns-then-any_fell-clause-lanes
returns-then-any_fell-clause-lanes g c =
    ran_lanes g.P.Disk.state g.T.RowTable.counted (g.D.Disk.state c.args.lender.now) c.args.context.now c.args.counts.now.table c.args.lanes.now c.run_lanes.new.lanes c.run_lanes.ensures.len c.run_lanes.ensures.run c.requires.lanes

pub returns-then-any_fell-clause-faults : goal.returns-then-any_fell-clause-faults
returns-then-any_fell-clause-faults g c =
    let fell = c.any_fell.ensures.yes (search rules) in
    ran_fell g.P.Disk.state g.T.RowTable.counted (g.D.Disk.state c.args.lender.now) c.args.context.now c.args.counts.now.table c.args.lanes.now c.run_lanes.new.lanes c.run_lanes.ensures.len c.run_lanes.ensures.run c.requires.lanes _ fell.0 (search rules) fell.1 fell.2

pub returns-clause-lanes : goal.returns-clause-lanes
returns-clause-lanes g c =
    ran_lanes g.P.Disk.state g.T.RowTable.counted (g.D.Disk.state c.args.lender.now) c.args.context.now c.args.counts.now.table c.args.lanes.now c.run_lanes.new.lanes c.run_lanes.ensures.len c.run_lanes.ensures.run c.requires.lanes

pub returns-clause-faults : goal.returns-clause-faults
returns-clause-faults g c =
    ran_stood g.P.Disk.state g.T.RowTable.counted (g.D.Disk.state c.args.lender.now) c.args.context.now c.args.counts.now.table c.args.lanes.now c.run_lanes.new.lanes c.run_lanes.ensures.len c.run_lanes.ensures.run c.requires.lanes c.join_lanes.result c.join_lanes.ensures.disk
    (c.any_fell.ensures.no (search rules))

pub returns-clause-done : goal.returns-clause-done
returns-clause-done g c =
    let own = ran_fronts g.P.Disk.state g.T.RowTable.counted (g.D.Disk.state c.args.lender.now) c.args.context.now c.args.counts.now.table c.args.lanes.now c.run_lanes.new.lanes c.run_lanes.ensures.len c.run_lanes.ensures.run c.requires.lanes in
    if_ok_to c.join_lanes.result _ _ (λ sums went. subst (λ f. WentOver g.T.RowTable.counted c.args.context.now c.args.counts.now c.join_lanes.new.counts sums f) own went) c.join_lanes.ensures.done

pub returns-clause-damaged : goal.returns-clause-damaged
returns-clause-damaged g c = λ is.
    let own = ran_fronts g.P.Disk.state g.T.RowTable.counted (g.D.Disk.state c.args.lender.now) c.args.context.now c.args.counts.now.table c.args.lanes.now c.run_lanes.new.lanes c.run_lanes.ensures.len c.run_lanes.ensures.run c.requires.lanes in
    subst (λ f. NoFronts c.args.context.now.names.told c.args.context.now.names c.args.context.now.files f) own (c.join_lanes.ensures.damaged is)
