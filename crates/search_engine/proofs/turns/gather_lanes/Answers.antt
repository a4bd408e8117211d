use Rattle.std.proofs.Common.{◌+◌, ◌<◌, ◌^◌, arith, refl, rules}
use Rattle.search_walk.proofs.AnswerLemmas.{on_err}
use Rattle.search_engine.proofs.LaneListLemmas.{lanes_first, lanes_more, lanes_most, lanes_within, past_damaged, past_end, past_next, past_stops, well_next}
use Rattle.search_engine.proofs.turns.gather_lanes.Goals as goal

pub loop-lane-init : goal.loop-lane-init
loop-lane-init g c = record {
  past = lanes_first c.args.lanes.now _ _;
  most = search rules;
  well = λ k lt d. absurd (omega (arith, lt));
  empty = c.requires.empty;
  faults = refl;
}

pub loop-lane-preserved : goal.loop-lane-preserved
loop-lane-preserved g c =
    let inv = c.loop-lane.invariant in
    let k = c.loop-lane.lane-index in
    let lanes = c.args.lanes.now in
    record {
      past = past_next lanes k _ _ _ _ _ _ _ c.loop-lane.count _ (search rules) c.lane-item.is inv.past c.in_ok-count.ensures.done;
      most = lanes_more lanes k _ _ _ (search rules) c.lane-item.is inv.most c.in_ok-count.ensures.most;
      well = well_next lanes k _ (search rules) c.lane-item.is inv.well c.in_ok-count.ensures.well;
      empty = c.in_ok-count.ensures.empty;
      faults = search rules;
    }

pub overflow_add-count : goal.overflow_add-count
overflow_add-count g c =
    let less : c.loop-lane.count + c.in_ok-count.field-0 < 2 ^ 64 =
    lanes_within c.args.lanes.now c.loop-lane.lane-index _ c.loop-lane.count c.in_ok-count.field-0 (search rules) c.lane-item.is c.loop-lane.invariant.most c.in_ok-count.ensures.most c.requires.few in
    omega (arith, less)

pub returns-in_err-count-clause-stopped : goal.returns-in_err-count-clause-stopped
returns-in_err-count-clause-stopped g c =
    on_err c.from_residual.result _ (past_stops c.args.lanes.now c.loop-lane.lane-index _ _ _ _ _ _ _ _ c.loop-lane.count (search rules) c.lane-item.is c.loop-lane.invariant.past c.in_err-count.ensures.stopped)

pub returns-in_err-count-clause-damaged : goal.returns-in_err-count-clause-damaged
returns-in_err-count-clause-damaged g c = λ is.
    past_damaged c.args.lanes.now c.loop-lane.lane-index _ (search rules) c.lane-item.is (c.in_err-count.ensures.damaged (search rules))

pub returns-clause-done : goal.returns-clause-done
returns-clause-done g c = past_end c.args.lanes.now c.loop-lane.lane-index _ _ _ _ _ (search rules) c.loop-lane.invariant.past

pub returns-clause-most : goal.returns-clause-most
returns-clause-most g c = lanes_most c.args.lanes.now c.loop-lane.lane-index c.loop-lane.count (search rules) c.loop-lane.invariant.most

pub returns-clause-well : goal.returns-clause-well
returns-clause-well g c = λ k d lt. c.loop-lane.invariant.well k (search (rules, lt)) d
