use Rattle.std.proofs.Common.{rules}
use Rattle.search_engine.proofs.LaneListLemmas.{dealt_end, dealt_first, dealt_next, split_both}
use Rattle.search_engine.proofs.lanes.deal.Goals as goal

pub loop-lane-init : goal.loop-lane-init
loop-lane-init g c = dealt_first c.args.lanes.now c.args.fronts.now

pub loop-lane-preserved : goal.loop-lane-preserved
loop-lane-preserved g c =
    dealt_next c.args.lanes.now c.loop-lane.lanes c.loop-lane.lane-index c.args.fronts.now c.loop-lane.rest.now c.split_at.result.0.now c.split_at.result.1.now c.set_fronts.new.self _ (search rules) c.set_fronts.ensures
    (split_both c.loop-lane.rest.now c.share_of.result _ _ c.split_at.ensures.front c.split_at.ensures.back) (λ more. search (rules, more)) c.loop-lane.invariant

pub returns-clause-rest : goal.returns-clause-rest
returns-clause-rest g c = (dealt_end c.args.lanes.now c.loop-lane.lanes c.loop-lane.lane-index c.args.fronts.now c.loop-lane.rest.now (search rules) c.loop-lane.invariant).parts

pub returns-clause-less : goal.returns-clause-less
returns-clause-less g c = λ some filled. (dealt_end c.args.lanes.now c.loop-lane.lanes c.loop-lane.lane-index c.args.fronts.now c.loop-lane.rest.now (search rules) c.loop-lane.invariant).less some filled

pub returns-clause-kept : goal.returns-clause-kept
returns-clause-kept g c = (dealt_end c.args.lanes.now c.loop-lane.lanes c.loop-lane.lane-index c.args.fronts.now c.loop-lane.rest.now (search rules) c.loop-lane.invariant).kept
