use Rattle.std.proofs.Common.{subst, sym, refl, All, []}
use Rattle.log_seams.proofs.MomentLemmas.{rests_on}
use Rattle.search_walk.specs.Opened.{NoFronts}
use Rattle.search_walk.specs.Ready.{Serves}
use Rattle.search_walk.specs.StepsScope.{Scope}
use Rattle.search_walk.proofs.AnswerLemmas.{if_ok_to, on_err, on_err_to}
use Rattle.search_engine.specs.Lanes.{IsLane}
use Rattle.search_engine.specs.SegmentsDone.{SearchedFronts, StoppedFronts}
use Rattle.search_engine.specs.StepsSofar.{front_none}
use Rattle.search_engine.specs.StepsWaiting.{halts_here}
use Rattle.search_engine.specs.Waiting.{WaitFor, state}
use Rattle.search_engine.proofs.LaneLemmas.{fronts_unsent}
use Rattle.search_engine.proofs.PartLemmas.{lanes_unread, lent_reads}
use Rattle.search_engine.proofs.beside.search_fronts.Goals as goal

pub lend_lanes-requires-clause-serves : goal.lend_lanes-requires-clause-serves
lend_lanes-requires-clause-serves g c = λ _ _. subst (λ (s : Scope). Serves s.names c.args.held.now) c.requires.is c.requires.served.serves

pub returns-in_err-lanes-clause-rests : goal.returns-in_err-lanes-clause-rests
returns-in_err-lanes-clause-rests g c = c.lend_lanes.ensures.lends.rests

pub returns-in_err-lanes-clause-reads : goal.returns-in_err-lanes-clause-reads
returns-in_err-lanes-clause-reads g c = lanes_unread (g.D.Disk.state c.args.disk.now) (g.D.Disk.state c.lend_lanes.new.disk) c.args.crew.now.context.now c.args.fronts.now c.lend_lanes.ensures.lends

pub returns-in_err-lanes-clause-stopped : goal.returns-in_err-lanes-clause-stopped
returns-in_err-lanes-clause-stopped g c =
    let s = c.args.crew.now.context.now in
    let a = state (g.K.Sink.written c.args.out.now) c.args.batch.now c.args.expanded.now in
    on_err c.from_residual.result _
    (fronts_unsent (g.D.Disk.state c.args.disk.now).seen s.names s.files s.query c.args.fronts.now a a.written a.ticks _ _ (λ all. halts_here s.names s.query all a a.written a.ticks (front_none a.written a.written a.pending.gathered refl) refl) refl)

pub returns-in_err-all-clause-rests : goal.returns-in_err-all-clause-rests
returns-in_err-all-clause-rests g c = c.lend_lanes.ensures.lends.rests

pub returns-in_err-all-clause-reads : goal.returns-in_err-all-clause-reads
returns-in_err-all-clause-reads g c = lanes_unread (g.D.Disk.state c.args.disk.now) (g.D.Disk.state c.lend_lanes.new.disk) c.args.crew.now.context.now c.args.fronts.now c.lend_lanes.ensures.lends

pub returns-in_err-all-clause-stopped : goal.returns-in_err-all-clause-stopped
returns-in_err-all-clause-stopped g c =
    let s = c.args.crew.now.context.now in
    let a = state (g.K.Sink.written c.args.out.now) c.args.batch.now c.args.expanded.now in
    on_err c.from_residual-in_err-all.result _
    (fronts_unsent (g.D.Disk.state c.args.disk.now).seen s.names s.files s.query c.args.fronts.now a a.written a.ticks _ _ (λ all. halts_here s.names s.query all a a.written a.ticks (front_none a.written a.written a.pending.gathered refl) refl) refl)

pub search_lent-requires-clause-lanes : goal.search_lent-requires-clause-lanes
search_lent-requires-clause-lanes g c = λ _ _.
    let s = c.args.crew.now.context.now in
    let d1 = g.D.Disk.state c.lend_lanes.new.disk in (
      s,
      subst (λ h. Serves s.names h) (sym c.in_ok-all.ensures) c.requires.served.serves,
      subst (λ (x : Scope). All (IsLane g.D.Part.Disk.state d1 x c.args.fronts.now) c.in_ok-lanes.lanes.items) (sym c.requires.is) (c.in_ok-lanes.ensures.lanes c.args.fronts.now),
    )

pub returns-then-len-gt1-clause-rests : goal.returns-then-len-gt1-clause-rests
returns-then-len-gt1-clause-rests g c = rests_on _ (g.D.Disk.state c.lend_lanes.new.disk) _ c.lend_lanes.ensures.lends.rests c.search_lent.ensures.rests

pub returns-then-len-gt1-clause-reads : goal.returns-then-len-gt1-clause-reads
returns-then-len-gt1-clause-reads g c =
    let s = c.args.crew.now.context.now in
    let d1 = g.D.Disk.state c.lend_lanes.new.disk in
    let lanes = subst (λ (x : Scope). All (IsLane g.D.Part.Disk.state d1 x c.args.fronts.now) c.in_ok-lanes.lanes.items) (sym c.requires.is) (c.in_ok-lanes.ensures.lanes c.args.fronts.now) in
    lent_reads (g.D.Disk.state c.args.disk.now) d1 (g.D.Disk.state c.search_lent.new.disk) s c.args.fronts.now c.lend_lanes.ensures.lends (c.search_lent.ensures.reads s lanes)

pub returns-then-len-gt1-clause-done : goal.returns-then-len-gt1-clause-done
returns-then-len-gt1-clause-done g c =
    let s = c.args.crew.now.context.now in
    let d1 = g.D.Disk.state c.lend_lanes.new.disk in
    let lanes = subst (λ (x : Scope). All (IsLane g.D.Part.Disk.state d1 x c.args.fronts.now) c.in_ok-lanes.lanes.items) (sym c.requires.is) (c.in_ok-lanes.ensures.lanes c.args.fronts.now) in
    let a = state (g.K.Sink.written c.args.out.now) c.args.batch.now c.args.expanded.now in
    let b = state (g.K.Sink.written c.search_lent.new.out) c.search_lent.new.batch c.search_lent.new.expanded in
    if_ok_to c.search_lent.result _ _ (λ count done. subst (λ x. SearchedFronts x s.names s.files s.query c.args.fronts.now a b c.args.opened.now c.search_lent.new.opened count) c.lend_lanes.ensures.lends.rests.seen done) (c.search_lent.ensures.searched s lanes).done

pub returns-then-len-gt1-clause-stopped : goal.returns-then-len-gt1-clause-stopped
returns-then-len-gt1-clause-stopped g c =
    let s = c.args.crew.now.context.now in
    let d1 = g.D.Disk.state c.lend_lanes.new.disk in
    let lanes = subst (λ (x : Scope). All (IsLane g.D.Part.Disk.state d1 x c.args.fronts.now) c.in_ok-lanes.lanes.items) (sym c.requires.is) (c.in_ok-lanes.ensures.lanes c.args.fronts.now) in
    let a = state (g.K.Sink.written c.args.out.now) c.args.batch.now c.args.expanded.now in
    on_err_to c.search_lent.result _ _ (λ stopped. subst (λ x. StoppedFronts x s.names s.files s.query c.args.fronts.now a (g.K.Sink.written c.search_lent.new.out) c.search_lent.new.expanded c.args.opened.now c.search_lent.new.opened) c.lend_lanes.ensures.lends.rests.seen stopped) (c.search_lent.ensures.searched s lanes).stopped

pub returns-then-len-gt1-clause-damaged : goal.returns-then-len-gt1-clause-damaged
returns-then-len-gt1-clause-damaged g c = λ is.
    let s = c.args.crew.now.context.now in
    let d1 = g.D.Disk.state c.lend_lanes.new.disk in
    let lanes = subst (λ (x : Scope). All (IsLane g.D.Part.Disk.state d1 x c.args.fronts.now) c.in_ok-lanes.lanes.items) (sym c.requires.is) (c.in_ok-lanes.ensures.lanes c.args.fronts.now) in
    subst (λ x. NoFronts x s.names s.files c.args.fronts.now) c.lend_lanes.ensures.lends.rests.seen ((c.search_lent.ensures.searched s lanes).damaged is)

pub returns-clause-rests : goal.returns-clause-rests
returns-clause-rests g c = rests_on _ (g.D.Disk.state c.lend_lanes.new.disk) _ c.lend_lanes.ensures.lends.rests c.print_segments.ensures.rests

pub returns-clause-reads : goal.returns-clause-reads
returns-clause-reads g c =
    lent_reads (g.D.Disk.state c.args.disk.now) (g.D.Disk.state c.lend_lanes.new.disk) (g.D.Disk.state c.print_segments.new.disk) c.args.crew.now.context.now c.args.fronts.now c.lend_lanes.ensures.lends c.print_segments.ensures.reads

pub returns-clause-done : goal.returns-clause-done
returns-clause-done g c =
    let s = c.args.crew.now.context.now in
    let a = state (g.K.Sink.written c.args.out.now) c.args.batch.now c.args.expanded.now in
    let b = state (g.K.Sink.written c.print_segments.new.out) c.print_segments.new.batch c.print_segments.new.expanded in
    if_ok_to c.print_segments.result _ _ (λ count done. subst (λ x. SearchedFronts x s.names s.files s.query c.args.fronts.now a b c.args.opened.now c.print_segments.new.opened count) c.lend_lanes.ensures.lends.rests.seen done) c.print_segments.ensures.done

pub returns-clause-stopped : goal.returns-clause-stopped
returns-clause-stopped g c =
    let s = c.args.crew.now.context.now in
    let a = state (g.K.Sink.written c.args.out.now) c.args.batch.now c.args.expanded.now in
    on_err_to c.print_segments.result _ _ (λ stopped. subst (λ x. StoppedFronts x s.names s.files s.query c.args.fronts.now a (g.K.Sink.written c.print_segments.new.out) c.print_segments.new.expanded c.args.opened.now c.print_segments.new.opened) c.lend_lanes.ensures.lends.rests.seen stopped) c.print_segments.ensures.stopped

pub returns-clause-damaged : goal.returns-clause-damaged
returns-clause-damaged g c = λ is.
    let s = c.args.crew.now.context.now in
    subst (λ x. NoFronts x s.names s.files c.args.fronts.now) c.lend_lanes.ensures.lends.rests.seen
    (c.print_segments.ensures.damaged is [] (subst (λ l. WaitFor s.names l []) (sym c.requires.empty) refl))
