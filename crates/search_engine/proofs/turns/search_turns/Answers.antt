use Rattle.std.specs.Prelude.{Err}
use Rattle.std.proofs.lemmas.Result.{err_from_is_err_and}
use Rattle.std.proofs.Common.{◌≡◌, ◌++◌, ◌∙◌, ap, arith, length, length-append, refl, rules, subst, sym, All, List, []}
use Rattle.std.proofs.lemmas.List.{append_assoc}
use Rattle.archive_places.specs.declared.front.SegmentFront.{SegmentFront}
use Rattle.search_walk.specs.Opened.{NoFronts}
use Rattle.search_walk.specs.StepsScope.{Scope}
use Rattle.search_engine.specs.Lanes.{IsFresh, IsLane}
use Rattle.search_engine.specs.SegmentsDone.{SearchedFronts, StoppedFronts}
use Rattle.search_engine.specs.StepsWaiting.{reaches_none}
use Rattle.search_engine.specs.Waiting.{Reaches, state}
use Rattle.search_engine.proofs.FrontsLemmas.{fronts_none, none_second}
use Rattle.search_engine.proofs.LaneListLemmas.{searched_on, stopped_on, went_done, went_stopped}
use Rattle.search_engine.proofs.TurnLemmas.{counts_on, faults_on, fresh_faults, lanes_here, no_fronts_left, none_left}
use Rattle.search_engine.proofs.turns.search_turns.Goals as goal

pub loop-left-init : goal.loop-left-init
loop-left-init g c = record {
  gone = [];
  parts = refl;
  most = search rules;
  len = refl;
  fresh = c.requires.fresh;
  lanes = λ s lanes. lanes;
  searched = λ s lanes.
      let a = state (g.K.Sink.written c.args.out.now) c.args.batch.now c.args.expanded.now in
      fronts_none (λ l. Reaches s.names s.query l a a) (g.D.Disk.state c.args.lender.now).seen s.names s.files s.query _ (reaches_none s.names s.query a);
  words = λ s lanes serves. serves;
  empty = c.requires.empty;
  faults = refl;
}

pub share_all-requires-clause-well : goal.share_all-requires-clause-well
share_all-requires-clause-well g c = λ k e lt. (c.loop-left.invariant.fresh k e lt).well

pub share_all-requires-clause-serves : goal.share_all-requires-clause-serves
share_all-requires-clause-serves g c =
    let inv = c.loop-left.invariant in
    let s : Scope = c.requires.lanes.0 in
    record {
      names = s.names;
      serves = inv.words s c.requires.lanes.2 c.requires.lanes.1;
      have = λ k e lt. ap (λ (x : Scope). x.names) (inv.lanes s c.requires.lanes.2 k e lt).is;
    }

pub run_turn-requires-clause-fresh : goal.run_turn-requires-clause-fresh
run_turn-requires-clause-fresh g c = λ _ _. subst (λ l. All (IsFresh g.P.Disk.state) l) (sym c.share_all.ensures.kept) c.loop-left.invariant.fresh

pub loop-left-preserved : goal.loop-left-preserved
loop-left-preserved g c =
    let inv = c.loop-left.invariant in
    let turn = c.in_ok-later.ensures.done in
    let d = g.D.Disk.state c.args.lender.now in
    record {
      gone = inv.gone ++ turn.chunk;
      parts = inv.parts ∙ ap (λ (f : List SegmentFront). inv.gone ++ f) turn.parts ∙ sym (append_assoc inv.gone turn.chunk _);
      most = omega (arith, inv.most, turn.most, length-append inv.gone turn.chunk);
      len = c.run_turn.ensures.len ∙ ap length c.share_all.ensures.kept ∙ inv.len;
      fresh = c.in_ok-later.ensures.fresh;
      lanes = λ s lanes.
          subst (λ (f : List SegmentFront). All (IsLane g.P.Disk.state d s f) c.run_turn.new.lanes) (sym inv.parts)
          (c.run_turn.ensures.lanes s inv.gone (lanes_here g.P.Disk.state d s c.args.fronts.now _ c.loop-left.lanes c.share_all.new.lanes inv.parts c.share_all.ensures.kept (inv.lanes s lanes)));
      searched = λ s lanes.
          searched_on d.seen s inv.gone turn.chunk _ _ _ _ _ _ c.loop-left.count _ (inv.searched s lanes)
          (turn.went s inv.gone (lanes_here g.P.Disk.state d s c.args.fronts.now _ c.loop-left.lanes c.share_all.new.lanes inv.parts c.share_all.ensures.kept (inv.lanes s lanes)));
      words = λ s lanes serves. c.share_all.ensures.serves s.names (λ k e lt. ap (λ (x : Scope). x.names) (inv.lanes s lanes k e lt).is) (inv.words s lanes serves);
      empty = c.in_ok-later.ensures.empty;
      faults = search rules;
    }

pub returns-in_err-later-clause-lanes : goal.returns-in_err-later-clause-lanes
returns-in_err-later-clause-lanes g c = λ s lanes.
    let inv = c.loop-left.invariant in
    let d = g.D.Disk.state c.args.lender.now in
    subst (λ (f : List SegmentFront). All (IsLane g.P.Disk.state d s f) c.run_turn.new.lanes) (sym inv.parts)
    (c.run_turn.ensures.lanes s inv.gone (lanes_here g.P.Disk.state d s c.args.fronts.now _ c.loop-left.lanes c.share_all.new.lanes inv.parts c.share_all.ensures.kept (inv.lanes s lanes)))

pub returns-in_err-later-clause-searched : goal.returns-in_err-later-clause-searched
returns-in_err-later-clause-searched g c = λ s lanes.
    let inv = c.loop-left.invariant in
    let d = g.D.Disk.state c.args.lender.now in
    let a = state (g.K.Sink.written c.args.out.now) c.args.batch.now c.args.expanded.now in
    let here = lanes_here g.P.Disk.state d s c.args.fronts.now _ c.loop-left.lanes c.share_all.new.lanes inv.parts c.share_all.ensures.kept (inv.lanes s lanes) in
    let e = c.in_err-later.field-0.0 in
    let p = err_from_is_err_and c.from_residual.result c.from_residual.ensures.1 in
    let answer : c.from_residual.result ≡ Err e = cc (p.1, p.2) in
    went_stopped d.seen s c.args.fronts.now a _ _ _ e c.from_residual.result answer
    (subst (λ f. StoppedFronts d.seen s.names s.files s.query f a (g.K.Sink.written c.run_turn.new.out) c.run_turn.new.expanded c.args.opened.now c.run_turn.new.opened) (sym inv.parts)
    (stopped_on d.seen s inv.gone c.loop-left.left.now a _ _ _ _ _ _ c.loop-left.count (inv.searched s lanes) (c.in_err-later.ensures.stopped s inv.gone here)))
    (λ is.
    subst (λ f. NoFronts d.seen s.names s.files f) (sym inv.parts)
    (none_second s.names s.files s.query inv.gone c.loop-left.left.now d.seen (c.in_err-later.ensures.damaged is s inv.gone here)))

pub returns-in_err-later-clause-faults : goal.returns-in_err-later-clause-faults
returns-in_err-later-clause-faults g c =
    let e = c.in_err-later.field-0.0 in
    let p = err_from_is_err_and c.from_residual.result c.from_residual.ensures.1 in
    let answer : c.from_residual.result ≡ Err e = cc (p.1, p.2) in
    faults_on g.P.Disk.state c.run_turn.new.lanes c.run_turn.result c.from_residual.result e c.in_err-later.was answer c.run_turn.ensures.faults

pub returns-in_err-later-clause-sink_counts : goal.returns-in_err-later-clause-sink_counts
returns-in_err-later-clause-sink_counts g c =
    let e = c.in_err-later.field-0.0 in
    let p = err_from_is_err_and c.from_residual.result c.from_residual.ensures.1 in
    let answer : c.from_residual.result ≡ Err e = cc (p.1, p.2) in
    counts_on _ _ _ _ c.run_turn.result c.from_residual.result e c.in_err-later.was answer c.loop-left.invariant.faults c.run_turn.ensures.sink_counts

pub returns-clause-lanes : goal.returns-clause-lanes
returns-clause-lanes g c = λ s lanes. c.loop-left.invariant.lanes s lanes

pub returns-clause-faults : goal.returns-clause-faults
returns-clause-faults g c = record { some = λ is. absurd (cc (is)); none = λ not. fresh_faults g.P.Disk.state c.loop-left.lanes c.loop-left.invariant.fresh }

pub returns-clause-searched : goal.returns-clause-searched
returns-clause-searched g c = λ s lanes.
    let inv = c.loop-left.invariant in
    let d = g.D.Disk.state c.args.lender.now in
    let a = state (g.K.Sink.written c.args.out.now) c.args.batch.now c.args.expanded.now in
    let b = state (g.K.Sink.written c.loop-left.out) c.loop-left.batch c.loop-left.expanded in
    went_done d.seen s c.args.fronts.now a b _ _ c.loop-left.count
    (subst (λ f. SearchedFronts d.seen s.names s.files s.query f a b c.args.opened.now c.loop-left.opened c.loop-left.count) (sym (no_fronts_left c.args.fronts.now inv.gone c.loop-left.left.now (none_left c.loop-left.left.now (sym c.is_empty.ensures ∙ c.loop-left-test.false)) inv.parts)) (inv.searched s lanes))
