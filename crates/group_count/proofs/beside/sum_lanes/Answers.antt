use Rattle.std.proofs.Common.{◌∙◌, All, ap, arith, length, subst, sym}
use Rattle.search_walk.proofs.AnswerLemmas.{if_ok_to}
use Rattle.search_walk.specs.Opened.{NoFronts, ReadsFronts}
use Rattle.group_count.specs.StepsLanes.{FaultsOf, IsLane, IsNewLane, WentOver, fronts_of}
use Rattle.group_count.proofs.LaneLemmas.{back_whole, counts_of}
use Rattle.group_count.proofs.beside.sum_lanes.Goals as goal

pub count_lanes-answer-requires-clause-lanes : goal.count_lanes-answer-requires-clause-lanes
count_lanes-answer-requires-clause-lanes g c = λ _ _.
    subst (λ l. All (IsNewLane g.D.Part.Disk.state g.T.RowTable.counted (g.D.Disk.state c.args.disk.now) c.args.context.now c.args.counts.now.table) l) (sym c.as_mut_slice.ensures.value) c.requires.lanes

pub returns-clause-reads : goal.returns-clause-reads
returns-clause-reads g c =
    let s = c.args.context.now in
    let d = g.D.Disk.state c.args.disk.now in
    let is = c.as_mut_slice.ensures.value in
    let whole = back_whole c.args.lanes.len c.count_lanes-answer.new.lanes c.args.lanes.items (omega (arith, c.args.lanes.ok.0)) (c.count_lanes-answer.ensures.len ∙ ap length is) in
    subst (λ l. ReadsFronts d (g.D.Disk.state c.take_back_all.new.disk) s.names s.files s.query (fronts_of l)) is
    (c.take_back_all.ensures.reads s (fronts_of c.as_mut_slice.result.now) (subst (λ l. All (IsLane g.D.Part.Disk.state d s (fronts_of c.as_mut_slice.result.now)) l) (sym whole) c.count_lanes-answer.ensures.lanes))

pub returns-clause-done : goal.returns-clause-done
returns-clause-done g c =
    if_ok_to c.count_lanes-answer.result _ _
    (λ sums went. subst (λ l. WentOver g.T.RowTable.counted c.args.context.now c.args.counts.now c.count_lanes-answer.new.counts sums (fronts_of l)) c.as_mut_slice.ensures.value went) c.count_lanes-answer.ensures.done

pub returns-clause-damaged : goal.returns-clause-damaged
returns-clause-damaged g c = λ is.
    let s = c.args.context.now in
    subst (λ l. NoFronts s.names.told s.names s.files (fronts_of l)) c.as_mut_slice.ensures.value (c.count_lanes-answer.ensures.damaged is)

pub returns-clause-disk_counts : goal.returns-clause-disk_counts
returns-clause-disk_counts g c =
    let whole = back_whole c.args.lanes.len c.count_lanes-answer.new.lanes c.args.lanes.items (omega (arith, c.args.lanes.ok.0)) (c.count_lanes-answer.ensures.len ∙ ap length c.as_mut_slice.ensures.value) in
    counts_of g.D.Part.Disk.state _ _ _ c.count_lanes-answer.result (subst (λ l. FaultsOf g.D.Part.Disk.state l c.count_lanes-answer.result) (sym whole) c.count_lanes-answer.ensures.faults)
    c.take_back_all.ensures.later c.take_back_all.ensures.steady c.take_back_all.ensures.rose
