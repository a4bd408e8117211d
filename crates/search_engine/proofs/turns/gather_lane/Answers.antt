use Rattle.std.proofs.Common.{ℕ, refl, rules, subst, sym}
use Rattle.search_walk.proofs.AnswerLemmas.{on_err}
use Rattle.search_engine.specs.SegmentsDone.{SearchedFronts}
use Rattle.search_engine.specs.Waiting.{state}
use Rattle.search_engine.proofs.LaneLemmas.{lane_cut, lane_halts, lane_taken}
use Rattle.search_engine.proofs.SlotLemmas.{on_ok}
use Rattle.search_engine.proofs.turns.gather_lane.Goals as goal

pub returns-in_ok-take_left-in-Ok-clause-done : goal.returns-in_ok-take_left-in-Ok-clause-done
returns-in_ok-take_left-in-Ok-clause-done g c = λ seen s worked.
    let l = c.args.lane.now in
    let a = state (g.K.Sink.written c.args.out.now) c.args.batch.now c.args.expanded.now in
    let b = state (g.K.Sink.written c.take_left.new.out) c.take_left.new.self c.take_left.new.expanded in
    subst (λ (m : ℕ). SearchedFronts seen s.names s.files s.query l.fronts a (state (g.K.Sink.written c.take_left.new.out) c.take_left.new.self c.take_left.new.expanded) c.args.opened.now c.tick_times.new.expanded m) (sym c.opened-in-Ok.ensures.is)
    (lane_taken seen s l.fronts l.left a b _ _ worked.few c.requires.empty (search rules) (search rules) (on_ok l.left.answer tt _ (search rules) worked.done))

pub returns-in_err-take_left-in-Ok-clause-stopped : goal.returns-in_err-take_left-in-Ok-clause-stopped
returns-in_err-take_left-in-Ok-clause-stopped g c =
    on_err c.from_residual.result _ (λ seen s worked.
    let l = c.args.lane.now in
    let a = state (g.K.Sink.written c.args.out.now) c.args.batch.now c.args.expanded.now in
    lane_cut seen s l.fronts l.left a _ _ _ c.requires.empty (search rules) (search rules) (on_ok l.left.answer tt _ (search rules) worked.done))

pub returns-in_ok-send_left-in-Err-clause-stopped : goal.returns-in_ok-send_left-in-Err-clause-stopped
returns-in_ok-send_left-in-Err-clause-stopped g c = λ seen s worked.
    let l = c.args.lane.now in
    let a = state (g.K.Sink.written c.args.out.now) c.args.batch.now c.args.expanded.now in
    lane_halts seen s l.fronts l.left.text a _ _ _ c.requires.empty (search rules) refl (search (rules, worked.stopped))

pub returns-in_err-send_left-in-Err-clause-stopped : goal.returns-in_err-send_left-in-Err-clause-stopped
returns-in_err-send_left-in-Err-clause-stopped g c =
    on_err c.from_residual-in_err-send_left-in-Err.result _ (λ seen s worked.
    let l = c.args.lane.now in
    let a = state (g.K.Sink.written c.args.out.now) c.args.batch.now c.args.expanded.now in
    lane_halts seen s l.fronts l.left.text a _ _ _ c.requires.empty (search rules) refl (search (rules, worked.stopped)))

pub returns-in_ok-send_left-in-Err-clause-damaged : goal.returns-in_ok-send_left-in-Err-clause-damaged
returns-in_ok-send_left-in-Err-clause-damaged g c = λ is seen s worked. worked.damaged (search (rules, is))
