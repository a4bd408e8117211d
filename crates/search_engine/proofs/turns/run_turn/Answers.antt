use Rattle.std.proofs.Common.{◌≡◌, ◌<◌, ◌^◌, ◌++◌, ◌∙◌, ap, arith, length, length-append, refl, rules, subst, sym, List}
use Rattle.archive_places.specs.declared.front.SegmentFront.{SegmentFront}
use Rattle.search_walk.specs.Opened.{NoFronts}
use Rattle.search_walk.proofs.AnswerLemmas.{on_err}
use Rattle.search_engine.specs.Lanes.{fronts_of}
use Rattle.search_engine.specs.SegmentsDone.{StoppedFronts}
use Rattle.search_engine.specs.StepsSofar.{front_none}
use Rattle.search_engine.specs.StepsWaiting.{halts_here}
use Rattle.search_engine.specs.Waiting.{state}
use Rattle.search_engine.proofs.FrontsLemmas.{none_first}
use Rattle.search_engine.proofs.LaneLemmas.{fronts_unsent}
use Rattle.search_engine.proofs.LaneListLemmas.{stopped_more}
use Rattle.search_engine.proofs.TurnLemmas.{fresh_behind, turn_fell, turn_fronts, turn_lanes, turn_stood}
use Rattle.search_engine.proofs.turns.run_turn.Goals as goal

pub gather_lanes-requires-clause-few : goal.gather_lanes-requires-clause-few
gather_lanes-requires-clause-few g c =
    let own = turn_fronts g.P.Disk.state c.args.lanes.now c.deal-left.new.lanes c.run_lanes.new.lanes c.deal-left.ensures.len c.deal-left.ensures.kept c.run_lanes.ensures.len c.run_lanes.ensures.run c.requires.fresh in
    let short : length c.args.fronts.now < 2 ^ 64 = search rules in
    omega (arith, ap (λ (l : List SegmentFront). length l) own, ap (λ (l : List SegmentFront). length l) c.deal-left.ensures.rest, length-append (fronts_of c.deal-left.new.lanes) c.deal-left.result.now, short)

pub returns-then-any_fell-clause-lanes : goal.returns-then-any_fell-clause-lanes
returns-then-any_fell-clause-lanes g c = λ s gone lanes.
    (turn_lanes g.P.Disk.state c.args.lanes.now c.deal-left.new.lanes c.run_lanes.new.lanes c.deal-left.ensures.len c.deal-left.ensures.kept c.run_lanes.ensures.len c.run_lanes.ensures.run c.requires.fresh (g.D.Disk.state c.args.lender.now) s gone c.args.fronts.now c.deal-left.result.now c.deal-left.ensures.rest lanes).0

pub returns-then-any_fell-clause-faults : goal.returns-then-any_fell-clause-faults
returns-then-any_fell-clause-faults g c =
    let fell = c.any_fell.ensures.yes (search rules) in
    record {
      some = λ is. turn_fell g.P.Disk.state c.args.lanes.now c.deal-left.new.lanes c.run_lanes.new.lanes c.deal-left.ensures.len c.deal-left.ensures.kept c.run_lanes.ensures.len c.run_lanes.ensures.run c.requires.fresh fell.0 fell.1 fell.2;
      none = λ not. absurd (not refl);
    }

pub returns-then-any_fell-clause-stopped : goal.returns-then-any_fell-clause-stopped
returns-then-any_fell-clause-stopped g c = λ s gone lanes.
    let a = state (g.K.Sink.written c.args.out.now) c.args.batch.now c.args.expanded.now in
    fronts_unsent (g.D.Disk.state c.args.lender.now).seen s.names s.files s.query c.args.fronts.now a a.written a.ticks _ _
    (λ all. halts_here s.names s.query all a a.written a.ticks (front_none a.written a.written a.pending.gathered refl) refl) refl

pub returns-in_err-count-clause-lanes : goal.returns-in_err-count-clause-lanes
returns-in_err-count-clause-lanes g c = λ s gone lanes.
    (turn_lanes g.P.Disk.state c.args.lanes.now c.deal-left.new.lanes c.run_lanes.new.lanes c.deal-left.ensures.len c.deal-left.ensures.kept c.run_lanes.ensures.len c.run_lanes.ensures.run c.requires.fresh (g.D.Disk.state c.args.lender.now) s gone c.args.fronts.now c.deal-left.result.now c.deal-left.ensures.rest lanes).0

pub returns-in_err-count-clause-faults : goal.returns-in_err-count-clause-faults
returns-in_err-count-clause-faults g c = record {
  some = λ is. absurd (c.in_err-count.ensures.disk (search (rules, is)));
  none = λ not. turn_stood g.P.Disk.state c.args.lanes.now c.deal-left.new.lanes c.run_lanes.new.lanes c.deal-left.ensures.len c.deal-left.ensures.kept c.run_lanes.ensures.len c.run_lanes.ensures.run c.requires.fresh (c.any_fell.ensures.no (search rules));
}

pub returns-in_err-count-clause-stopped : goal.returns-in_err-count-clause-stopped
returns-in_err-count-clause-stopped g c =
    on_err c.from_residual.result _ (λ s gone lanes.
    let d = g.D.Disk.state c.args.lender.now in
    let a = state (g.K.Sink.written c.args.out.now) c.args.batch.now c.args.expanded.now in
    let own = turn_fronts g.P.Disk.state c.args.lanes.now c.deal-left.new.lanes c.run_lanes.new.lanes c.deal-left.ensures.len c.deal-left.ensures.kept c.run_lanes.ensures.len c.run_lanes.ensures.run c.requires.fresh in
    let worked = (turn_lanes g.P.Disk.state c.args.lanes.now c.deal-left.new.lanes c.run_lanes.new.lanes c.deal-left.ensures.len c.deal-left.ensures.kept c.run_lanes.ensures.len c.run_lanes.ensures.run c.requires.fresh d s gone c.args.fronts.now c.deal-left.result.now c.deal-left.ensures.rest lanes).1 in
    let parts : c.args.fronts.now ≡ fronts_of c.run_lanes.new.lanes ++ c.deal-left.result.now = c.deal-left.ensures.rest ∙ ap (λ (f : List SegmentFront). f ++ c.deal-left.result.now) (sym own) in
    subst (λ f. StoppedFronts d.seen s.names s.files s.query f a (g.K.Sink.written c.gather_lanes.new.out) c.gather_lanes.new.expanded c.args.opened.now c.gather_lanes.new.opened) (sym parts)
    (stopped_more d.seen s (fronts_of c.run_lanes.new.lanes) c.deal-left.result.now a _ _ _ _ (c.in_err-count.ensures.stopped d.seen s worked)))

pub returns-in_err-count-clause-damaged : goal.returns-in_err-count-clause-damaged
returns-in_err-count-clause-damaged g c = λ is s gone lanes.
    let d = g.D.Disk.state c.args.lender.now in
    let own = turn_fronts g.P.Disk.state c.args.lanes.now c.deal-left.new.lanes c.run_lanes.new.lanes c.deal-left.ensures.len c.deal-left.ensures.kept c.run_lanes.ensures.len c.run_lanes.ensures.run c.requires.fresh in
    let worked = (turn_lanes g.P.Disk.state c.args.lanes.now c.deal-left.new.lanes c.run_lanes.new.lanes c.deal-left.ensures.len c.deal-left.ensures.kept c.run_lanes.ensures.len c.run_lanes.ensures.run c.requires.fresh d s gone c.args.fronts.now c.deal-left.result.now c.deal-left.ensures.rest lanes).1 in
    let parts : c.args.fronts.now ≡ fronts_of c.run_lanes.new.lanes ++ c.deal-left.result.now = c.deal-left.ensures.rest ∙ ap (λ (f : List SegmentFront). f ++ c.deal-left.result.now) (sym own) in
    subst (λ f. NoFronts d.seen s.names s.files f) (sym parts)
    (none_first s.names s.files s.query (fronts_of c.run_lanes.new.lanes) c.deal-left.result.now d.seen (c.in_err-count.ensures.damaged (search (rules, is)) d.seen s worked))

pub returns-clause-lanes : goal.returns-clause-lanes
returns-clause-lanes g c = λ s gone lanes.
    (turn_lanes g.P.Disk.state c.args.lanes.now c.deal-left.new.lanes c.run_lanes.new.lanes c.deal-left.ensures.len c.deal-left.ensures.kept c.run_lanes.ensures.len c.run_lanes.ensures.run c.requires.fresh (g.D.Disk.state c.args.lender.now) s gone c.args.fronts.now c.deal-left.result.now c.deal-left.ensures.rest lanes).0

pub returns-clause-fresh : goal.returns-clause-fresh
returns-clause-fresh g c =
    fresh_behind g.P.Disk.state c.run_lanes.new.lanes c.in_ok-count.ensures.well
    (turn_stood g.P.Disk.state c.args.lanes.now c.deal-left.new.lanes c.run_lanes.new.lanes c.deal-left.ensures.len c.deal-left.ensures.kept c.run_lanes.ensures.len c.run_lanes.ensures.run c.requires.fresh (c.any_fell.ensures.no (search rules)))

pub returns-clause-faults : goal.returns-clause-faults
returns-clause-faults g c = record {
  some = λ is. absurd (cc (is));
  none = λ not. turn_stood g.P.Disk.state c.args.lanes.now c.deal-left.new.lanes c.run_lanes.new.lanes c.deal-left.ensures.len c.deal-left.ensures.kept c.run_lanes.ensures.len c.run_lanes.ensures.run c.requires.fresh (c.any_fell.ensures.no (search rules));
}

pub returns-clause-done : goal.returns-clause-done
returns-clause-done g c =
    let own = turn_fronts g.P.Disk.state c.args.lanes.now c.deal-left.new.lanes c.run_lanes.new.lanes c.deal-left.ensures.len c.deal-left.ensures.kept c.run_lanes.ensures.len c.run_lanes.ensures.run c.requires.fresh in
    record {
      chunk = fronts_of c.run_lanes.new.lanes;
      parts = c.deal-left.ensures.rest ∙ ap (λ (f : List SegmentFront). f ++ c.deal-left.result.now) (sym own);
      less = c.deal-left.ensures.less c.requires.some.0 c.requires.some.1;
      most = c.in_ok-count.ensures.most;
      went = λ s gone lanes.
          c.in_ok-count.ensures.done (g.D.Disk.state c.args.lender.now).seen s
          (turn_lanes g.P.Disk.state c.args.lanes.now c.deal-left.new.lanes c.run_lanes.new.lanes c.deal-left.ensures.len c.deal-left.ensures.kept c.run_lanes.ensures.len c.run_lanes.ensures.run c.requires.fresh (g.D.Disk.state c.args.lender.now) s gone c.args.fronts.now c.deal-left.result.now c.deal-left.ensures.rest lanes).1;
    }
