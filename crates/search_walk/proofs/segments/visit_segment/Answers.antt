use Rattle.std.proofs.Common.{◌≡◌, ◌∷◌, [], refl, rules, sym, cond, subst}
use Rattle.log_seams.proofs.MomentLemmas.{rests_on}
use Rattle.search_walk.specs.Held.{Named}
use Rattle.search_walk.specs.Walked.{Searched, Stopped}
use Rattle.search_walk.proofs.AnswerLemmas.{if_ok_to, on_err, on_err_to}
use Rattle.search_walk.proofs.FrontLemmas.{halted_stops, head_reads, later_all, loaded_none, outside_done, segment_reads}
use Rattle.search_walk.proofs.PagesReadLemmas.{rests_same}
use Rattle.search_walk.proofs.SegmentLemmas.{nothing_read}
use Rattle.search_walk.proofs.segments.visit_segment.Goals as goal

pub returns-then-is_outside-clause-rests : goal.returns-then-is_outside-clause-rests
returns-then-is_outside-clause-rests g c = rests_same _

pub returns-then-is_outside-clause-reads : goal.returns-then-is_outside-clause-reads
returns-then-is_outside-clause-reads g c = λ ps is. nothing_read _ _ c.args.context.now.files c.args.context.now.query ps _ _ refl

pub returns-then-is_outside-clause-done : goal.returns-then-is_outside-clause-done
returns-then-is_outside-clause-done g c =
    let n : Named = c.args.context.now.names in
    let q = c.args.context.now.query in
    let w = c.args.work.now in
    outside_done (g.W.TakesPages.reaches w w n q) _ n c.args.context.now.files q c.args.front.now _ (λ all found tried. g.met.W.TakesPages.passes_over w n q all found tried)
    c.wide_is_wider.ensures.wider c.barren_has_no_match.ensures c.is_outside.ensures.searched (c.is_outside.ensures.told (search rules))

pub returns-in-Err-DiskFault-clause-reads : goal.returns-in-Err-DiskFault-clause-reads
returns-in-Err-DiskFault-clause-reads g c = head_reads _ c.args.context.now.names c.args.context.now.files c.args.context.now.query c.args.front.now (g.D.Disk.state c.args.disk.now) (g.D.Disk.state c.load_head.new.disk) c.load_head.ensures.reads

pub returns-in-Err-DiskFault-clause-stopped : goal.returns-in-Err-DiskFault-clause-stopped
returns-in-Err-DiskFault-clause-stopped g c =
    let n : Named = c.args.context.now.names in
    let q = c.args.context.now.query in
    let w = c.args.work.now in
    halted_stops (g.W.TakesPages.halts w w n q) _ n c.args.context.now.files q (c.args.front.now ∷ []) _ _ (λ all. g.met.W.TakesPages.stops_within w w n q [] all (g.met.W.TakesPages.stops_here w n q)) refl

pub returns-in_err-finish-in-Err-clause-reads : goal.returns-in_err-finish-in-Err-clause-reads
returns-in_err-finish-in-Err-clause-reads g c = head_reads _ c.args.context.now.names c.args.context.now.files c.args.context.now.query c.args.front.now (g.D.Disk.state c.args.disk.now) (g.D.Disk.state c.load_head.new.disk) c.load_head.ensures.reads

pub returns-in_err-finish-in-Err-clause-stopped : goal.returns-in_err-finish-in-Err-clause-stopped
returns-in_err-finish-in-Err-clause-stopped g c =
    let n : Named = c.args.context.now.names in
    let q = c.args.context.now.query in
    let w = c.args.work.now in
    let d = c.finish.new.self in
    on_err c.from_residual.result _
    (halted_stops (g.W.TakesPages.halts w d n q) _ n c.args.context.now.files q (c.args.front.now ∷ []) _ _ (λ all. g.met.W.TakesPages.stops_within w d n q [] all c.in_err-finish-in-Err.ensures.stopped) refl)

pub returns-in_err-finish-in-Err-clause-damaged : goal.returns-in_err-finish-in-Err-clause-damaged
returns-in_err-finish-in-Err-clause-damaged g c = λ is stands. absurd (c.in_err-finish-in-Err.ensures.damaged (search rules) stands)

pub returns-in-Err-clause-reads : goal.returns-in-Err-clause-reads
returns-in-Err-clause-reads g c = head_reads _ c.args.context.now.names c.args.context.now.files c.args.context.now.query c.args.front.now (g.D.Disk.state c.args.disk.now) (g.D.Disk.state c.load_head.new.disk) c.load_head.ensures.reads

pub returns-in-Err-clause-stopped : goal.returns-in-Err-clause-stopped
returns-in-Err-clause-stopped g c =
    let n : Named = c.args.context.now.names in
    let q = c.args.context.now.query in
    let w = c.args.work.now in
    let d = c.finish.new.self in
    halted_stops (g.W.TakesPages.halts w d n q) _ n c.args.context.now.files q (c.args.front.now ∷ []) _ _
    (λ all. g.met.W.TakesPages.stops_within w d n q [] all (g.met.W.TakesPages.stops_behind w d d n q [] [] c.in_ok-finish-in-Err.ensures.done (g.met.W.TakesPages.stops_here d n q))) refl

pub returns-in-Err-clause-damaged : goal.returns-in-Err-clause-damaged
returns-in-Err-clause-damaged g c = λ is stands. loaded_none _ c.args.context.now.names c.args.context.now.files c.args.front.now (c.load_head.ensures.damaged (search rules))

pub search_segment-requires-clause-told : goal.search_segment-requires-clause-told
search_segment-requires-clause-told g c = subst (λ s. s ≡ c.args.context.now.names.told) (sym c.load_head.ensures.rests.seen) c.requires.told

pub returns-clause-rests : goal.returns-clause-rests
returns-clause-rests g c = rests_on _ (g.D.Disk.state c.load_head.new.disk) _ c.load_head.ensures.rests c.search_segment.ensures.rests

pub returns-clause-reads : goal.returns-clause-reads
returns-clause-reads g c =
    segment_reads c.args.context.now.names c.args.context.now.files c.args.context.now.query c.args.front.now c.in-Ok.segment (g.D.Disk.state c.args.disk.now) (g.D.Disk.state c.load_head.new.disk) (g.D.Disk.state c.search_segment.new.disk)
    c.load_head.ensures.rests.seen c.in-Ok.ensures.loaded c.load_head.ensures.reads c.search_segment.ensures.reads

pub returns-clause-done : goal.returns-clause-done
returns-clause-done g c =
    let n : Named = c.args.context.now.names in
    let q = c.args.context.now.query in
    if_ok_to c.search_segment.result _ _
    (λ yes has.
    later_all (g.D.Disk.state c.args.disk.now).seen (g.D.Disk.state c.load_head.new.disk).seen n c.args.context.now.files c.args.context.now.query c.args.front.now c.in-Ok.segment
    (λ ps _ all. Searched (g.W.TakesPages.reaches c.args.work.now c.search_segment.new.work n q) n q ps all c.args.opened.now c.search_segment.new.opened (cond yes 1 0))
    c.load_head.ensures.rests.seen c.in-Ok.ensures.loaded has) c.search_segment.ensures.done

pub returns-clause-stopped : goal.returns-clause-stopped
returns-clause-stopped g c =
    let n : Named = c.args.context.now.names in
    let q = c.args.context.now.query in
    on_err_to c.search_segment.result _ _
    (later_all (g.D.Disk.state c.args.disk.now).seen (g.D.Disk.state c.load_head.new.disk).seen n c.args.context.now.files c.args.context.now.query c.args.front.now c.in-Ok.segment
    (λ ps _ all. Stopped (g.W.TakesPages.halts c.args.work.now c.search_segment.new.work n q) n q ps all c.args.opened.now c.search_segment.new.opened)
    c.load_head.ensures.rests.seen c.in-Ok.ensures.loaded) c.search_segment.ensures.stopped

pub returns-clause-damaged : goal.returns-clause-damaged
returns-clause-damaged g c = λ is stands.
    later_all (g.D.Disk.state c.args.disk.now).seen (g.D.Disk.state c.load_head.new.disk).seen c.args.context.now.names c.args.context.now.files c.args.context.now.query c.args.front.now c.in-Ok.segment (λ _ _ _. ⊥)
    c.load_head.ensures.rests.seen c.in-Ok.ensures.loaded (c.search_segment.ensures.damaged is stands)
