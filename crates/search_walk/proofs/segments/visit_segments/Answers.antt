use Rattle.std.proofs.Common.{◌∙◌, [], rules, refl, sym}
use Rattle.std.proofs.lemmas.Option.{get_or_from_slice_get}
use Rattle.log_seams.proofs.MomentLemmas.{rests_on}
use Rattle.search_walk.specs.Held.{Named}
use Rattle.search_walk.proofs.AnswerLemmas.{on_err}
use Rattle.search_walk.proofs.FrontLemmas.{run_damaged, run_end, run_first, run_next, run_reads, run_stops}
use Rattle.search_walk.proofs.segments.visit_segments.Goals as goal

pub loop-place-init : goal.loop-place-init
loop-place-init g c =
    let n : Named = c.args.context.now.names in
    let q = c.args.context.now.query in
    let w = c.args.work.now in
    (run_first (g.W.TakesPages.reaches w w n q) (g.D.Disk.state c.args.disk.now) n c.args.context.now.files q c.args.fronts.now c.args.opened.now (g.met.W.TakesPages.passes_over w n q [] refl refl), refl, refl, c.requires.served)

pub visit_segment-requires-clause-served : goal.visit_segment-requires-clause-served
visit_segment-requires-clause-served g c = c.loop-place.invariant.3

pub visit_segment-requires-clause-told : goal.visit_segment-requires-clause-told
visit_segment-requires-clause-told g c = c.loop-place.invariant.0.rests.seen ∙ c.requires.told

pub loop-place-preserved : goal.loop-place-preserved
loop-place-preserved g c =
    let n : Named = c.args.context.now.names in
    let q = c.args.context.now.query in
    let a = c.args.work.now in
    let b = c.loop-place.work in
    let d = c.visit_segment.new.work in (
      run_next (g.W.TakesPages.reaches a b n q) (g.W.TakesPages.reaches b d n q) (g.W.TakesPages.reaches a d n q) _ (g.D.Disk.state c.loop-place.disk) (g.D.Disk.state c.visit_segment.new.disk) n c.args.context.now.files q c.args.fronts.now c.loop-place.place
          _ _ _ _ _ _ _ (λ xs ys f r. g.met.W.TakesPages.goes_on a b d n q xs ys f r) (search rules) (sym (get_or_from_slice_get c.args.fronts.now c.loop-place.place _ _ c.front_at-front.ensures)) (search rules) (search rules)
          c.loop-place.invariant.0 c.visit_segment.ensures.rests (search rules) c.visit_segment.ensures.reads c.in_ok-yes.ensures.done,
      search rules,
      search rules,
      c.in_ok-yes.ensures.served,
    )

pub returns-in_err-yes-clause-rests : goal.returns-in_err-yes-clause-rests
returns-in_err-yes-clause-rests g c = rests_on _ (g.D.Disk.state c.loop-place.disk) _ c.loop-place.invariant.0.rests c.visit_segment.ensures.rests

pub returns-in_err-yes-clause-reads : goal.returns-in_err-yes-clause-reads
returns-in_err-yes-clause-reads g c =
    run_reads _ _ (g.D.Disk.state c.loop-place.disk) (g.D.Disk.state c.visit_segment.new.disk) _ c.args.context.now.files c.args.context.now.query c.args.fronts.now c.loop-place.place _ _ _ _ (search rules)
    (sym (get_or_from_slice_get c.args.fronts.now c.loop-place.place _ _ c.front_at-front.ensures)) c.loop-place.invariant.0 c.visit_segment.ensures.reads

pub returns-in_err-yes-clause-stopped : goal.returns-in_err-yes-clause-stopped
returns-in_err-yes-clause-stopped g c =
    let n : Named = c.args.context.now.names in
    let q = c.args.context.now.query in
    let a = c.args.work.now in
    let b = c.loop-place.work in
    let d = c.visit_segment.new.work in
    on_err c.from_residual.result _
    (run_stops (g.W.TakesPages.reaches a b n q) (g.W.TakesPages.halts b d n q) (g.W.TakesPages.halts a d n q) (g.D.Disk.state c.args.disk.now) (g.D.Disk.state c.loop-place.disk) n c.args.context.now.files q c.args.fronts.now c.loop-place.place _ _ _ _ _
    (λ xs ys f h. g.met.W.TakesPages.stops_behind a b d n q xs ys f h) (λ xs ys h. g.met.W.TakesPages.stops_within b d n q xs ys h) (search rules) (sym (get_or_from_slice_get c.args.fronts.now c.loop-place.place _ _ c.front_at-front.ensures))
    c.loop-place.invariant.0 c.in_err-yes.ensures.stopped)

pub returns-in_err-yes-clause-damaged : goal.returns-in_err-yes-clause-damaged
returns-in_err-yes-clause-damaged g c = λ is stands.
    let n : Named = c.args.context.now.names in
    let q = c.args.context.now.query in
    let a = c.args.work.now in
    let b = c.loop-place.work in
    run_damaged (g.W.TakesPages.reaches a b n q) (g.W.TakesPages.stands b n) (g.D.Disk.state c.args.disk.now) (g.D.Disk.state c.loop-place.disk) n c.args.context.now.files q c.args.fronts.now c.loop-place.place _ _ _ _
    (λ xs f. g.met.W.TakesPages.stands_on a b n q xs f stands) (search rules) (sym (get_or_from_slice_get c.args.fronts.now c.loop-place.place _ _ c.front_at-front.ensures))
    c.loop-place.invariant.0 (c.in_err-yes.ensures.damaged (search rules))

pub returns-clause-done : goal.returns-clause-done
returns-clause-done g c =
    run_end (g.W.TakesPages.reaches c.args.work.now c.loop-place.work c.args.context.now.names c.args.context.now.query) (g.D.Disk.state c.args.disk.now) (g.D.Disk.state c.loop-place.disk) _ c.args.context.now.files c.args.context.now.query
    c.args.fronts.now c.loop-place.place _ _ c.loop-place.count (search rules) c.loop-place.invariant.0
