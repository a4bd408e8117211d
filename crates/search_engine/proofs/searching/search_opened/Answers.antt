use Rattle.std.proofs.Common.{◌∙◌, ap, sym, subst, rules, refl, [], ℕ, List}
use Rattle.std.specs.Prelude.{Option}
use Rattle.log_seams.proofs.MomentLemmas.{rests_on}
use Rattle.archive_open.specs.declared.files.FileEntry.{FileEntry}
use Rattle.search_walk.specs.Held.{Named, named}
use Rattle.search_walk.specs.Opened.{NoFronts, ReadsFronts}
use Rattle.search_engine.specs.SegmentsDone.{SearchedFronts, StoppedFronts}
use Rattle.search_engine.specs.Served.{IsServed}
use Rattle.search_walk.specs.StepsScope.{IsScope, Scope, scope}
use Rattle.search_engine.specs.Waiting.{Blames, Halts, Pending, Reaches, state}
use Rattle.search_walk.proofs.AnswerLemmas.{on_err}
use Rattle.search_engine.proofs.ServedLemmas.{served_none}
use Rattle.search_walk.proofs.PreparedLemmas.{knows_kept, serves_kept}
use Rattle.search_engine.proofs.SearchLemmas.{stopped_nothing}
use Rattle.search_walk.proofs.JournalLemmas.{all_damaged, all_read, texts_damaged, texts_only}
use Rattle.search_engine.proofs.JournalLemmas.{all_searched, all_stopped, last_blamed, last_halted}
use Rattle.search_engine.proofs.searching.search_opened.Goals as goal

pub returns-in_err-prepared-clause-reads : goal.returns-in_err-prepared-clause-reads
returns-in_err-prepared-clause-reads g c = texts_only _ c.args.places c.args.query.now _ _ c.requires.opens c.of.ensures.reads

pub returns-in_err-prepared-clause-stopped : goal.returns-in_err-prepared-clause-stopped
returns-in_err-prepared-clause-stopped g c = on_err c.from_residual.result _ (stopped_nothing _ c.args.places c.args.query.now _ _ _ _ _ _ c.requires.opens refl refl refl)

pub returns-in_err-prepared-clause-damaged : goal.returns-in_err-prepared-clause-damaged
returns-in_err-prepared-clause-damaged g c = λ is. texts_damaged _ c.args.places c.types_stand.ensures c.words_stand.ensures c.requires.opens (c.in_err-prepared.ensures.damaged (search rules))

pub context-context-requires : goal.context-context-requires
context-context-requires g c = c.in_ok-prepared.ensures.ready

pub search_fronts-requires-clause-served : goal.search_fronts-requires-clause-served
search_fronts-requires-clause-served g c = λ _ _.
    let p = c.in_ok-prepared.prepared in
    let n : Named = named (g.D.Disk.state c.of.new.disk).seen p.held in
    subst (λ (s : Scope). IsServed s.names s.query p.held c.args.batch.now.pages) (sym c.context-context.ensures)
    (served_none n c.args.query.now p.held c.args.batch.now.pages
    (serves_kept (g.D.Disk.state c.args.disk.now).seen (g.D.Disk.state c.of.new.disk).seen c.args.places p c.requires.order c.in_ok-prepared.ensures.kept)
    (ap (λ (p : Pending). p.pages) c.requires.empty))

pub search_fronts-requires-clause-empty : goal.search_fronts-requires-clause-empty
search_fronts-requires-clause-empty g c = λ _ _. ap (λ (p : Pending). p.pages) c.requires.empty

pub search_fronts-requires-clause-scope : goal.search_fronts-requires-clause-scope
search_fronts-requires-clause-scope g c = λ _ _.
    let p = c.in_ok-prepared.prepared in
    subst (λ (l : List (Option ℕ)). IsScope (named (g.D.Disk.state c.of.new.disk).seen p.held) c.args.query.now p.archive.layouts p.archive.asked l) (sym c.as_slice-found.ensures.value) c.in_ok-prepared.ensures.ready

pub search_fronts-requires-clause-is : goal.search_fronts-requires-clause-is
search_fronts-requires-clause-is g c = λ _ _.
    let n : Named = named (g.D.Disk.state c.of.new.disk).seen c.in_ok-prepared.prepared.held in
    c.context-context.ensures ∙ ap (λ (l : List FileEntry). scope n c.args.query.now l) (sym c.as_slice-names.ensures)

pub returns-in_err-count-clause-reads : goal.returns-in_err-count-clause-reads
returns-in_err-count-clause-reads g c =
    let q = c.args.query.now in
    let d0 = g.D.Disk.state c.args.disk.now in
    let d1 = g.D.Disk.state c.of.new.disk in
    let a = c.args.places in
    let p = c.in_ok-prepared.prepared in
    let kept = c.in_ok-prepared.ensures.kept in
    let n : Named = named d1.seen p.held in
    let known = knows_kept d0.seen d1.seen a p c.of.ensures.rests.seen kept in
    all_read d0.seen d1.seen a n p.archive.files c.as_slice-fronts.result.now c.types_stand.ensures c.words_stand.ensures c.heads_stand.ensures kept.files (c.as_slice-fronts.ensures ∙ kept.segments) c.requires.opens known c.of.ensures.rests.seen q d0 d1 (g.D.Disk.state c.search_fronts.new.disk) c.of.ensures.rests.seen c.of.ensures.reads
    (subst (λ (s : Scope). ReadsFronts d1 (g.D.Disk.state c.search_fronts.new.disk) s.names s.files s.query c.as_slice-fronts.result.now) c.context-context.ensures c.search_fronts.ensures.reads)

pub returns-in_err-finish-clause-reads : goal.returns-in_err-finish-clause-reads
returns-in_err-finish-clause-reads g c =
    let q = c.args.query.now in
    let d0 = g.D.Disk.state c.args.disk.now in
    let d1 = g.D.Disk.state c.of.new.disk in
    let a = c.args.places in
    let p = c.in_ok-prepared.prepared in
    let kept = c.in_ok-prepared.ensures.kept in
    let n : Named = named d1.seen p.held in
    let known = knows_kept d0.seen d1.seen a p c.of.ensures.rests.seen kept in
    all_read d0.seen d1.seen a n p.archive.files c.as_slice-fronts.result.now c.types_stand.ensures c.words_stand.ensures c.heads_stand.ensures kept.files (c.as_slice-fronts.ensures ∙ kept.segments) c.requires.opens known c.of.ensures.rests.seen q d0 d1 (g.D.Disk.state c.search_fronts.new.disk) c.of.ensures.rests.seen c.of.ensures.reads
    (subst (λ (s : Scope). ReadsFronts d1 (g.D.Disk.state c.search_fronts.new.disk) s.names s.files s.query c.as_slice-fronts.result.now) c.context-context.ensures c.search_fronts.ensures.reads)

pub returns-clause-reads : goal.returns-clause-reads
returns-clause-reads g c =
    let q = c.args.query.now in
    let d0 = g.D.Disk.state c.args.disk.now in
    let d1 = g.D.Disk.state c.of.new.disk in
    let a = c.args.places in
    let p = c.in_ok-prepared.prepared in
    let kept = c.in_ok-prepared.ensures.kept in
    let n : Named = named d1.seen p.held in
    let known = knows_kept d0.seen d1.seen a p c.of.ensures.rests.seen kept in
    all_read d0.seen d1.seen a n p.archive.files c.as_slice-fronts.result.now c.types_stand.ensures c.words_stand.ensures c.heads_stand.ensures kept.files (c.as_slice-fronts.ensures ∙ kept.segments) c.requires.opens known c.of.ensures.rests.seen q d0 d1 (g.D.Disk.state c.search_fronts.new.disk) c.of.ensures.rests.seen c.of.ensures.reads
    (subst (λ (s : Scope). ReadsFronts d1 (g.D.Disk.state c.search_fronts.new.disk) s.names s.files s.query c.as_slice-fronts.result.now) c.context-context.ensures c.search_fronts.ensures.reads)

pub returns-in_err-count-clause-rests : goal.returns-in_err-count-clause-rests
returns-in_err-count-clause-rests g c = rests_on _ (g.D.Disk.state c.of.new.disk) _ c.of.ensures.rests c.search_fronts.ensures.rests

pub returns-in_err-finish-clause-rests : goal.returns-in_err-finish-clause-rests
returns-in_err-finish-clause-rests g c = rests_on _ (g.D.Disk.state c.of.new.disk) _ c.of.ensures.rests c.search_fronts.ensures.rests

pub returns-clause-rests : goal.returns-clause-rests
returns-clause-rests g c = rests_on _ (g.D.Disk.state c.of.new.disk) _ c.of.ensures.rests c.search_fronts.ensures.rests

pub returns-in_err-count-clause-stopped : goal.returns-in_err-count-clause-stopped
returns-in_err-count-clause-stopped g c =
    let q = c.args.query.now in
    let d0 = g.D.Disk.state c.args.disk.now in
    let d1 = g.D.Disk.state c.of.new.disk in
    let a = c.args.places in
    let p = c.in_ok-prepared.prepared in
    let kept = c.in_ok-prepared.ensures.kept in
    let n : Named = named d1.seen p.held in
    let known = knows_kept d0.seen d1.seen a p c.of.ensures.rests.seen kept in
    on_err c.from_residual-in_err-count.result _
    (all_stopped d0.seen d1.seen a n p.archive.files c.as_slice-fronts.result.now c.types_stand.ensures c.words_stand.ensures c.heads_stand.ensures kept.files (c.as_slice-fronts.ensures ∙ kept.segments) c.requires.opens known c.of.ensures.rests.seen q (g.K.Sink.written c.args.out.now) (g.K.Sink.written c.search_fronts.new.out) c.args.batch.now c.args.expanded.now c.search_fronts.new.expanded c.args.opened.now c.search_fronts.new.opened c.requires.empty
    (subst (λ (s : Scope). StoppedFronts d1.seen s.names s.files s.query c.as_slice-fronts.result.now (state (g.K.Sink.written c.args.out.now) c.args.batch.now c.args.expanded.now) (g.K.Sink.written c.search_fronts.new.out) c.search_fronts.new.expanded c.args.opened.now c.search_fronts.new.opened)
    c.context-context.ensures c.in_err-count.ensures.stopped))

pub returns-in_err-count-clause-damaged : goal.returns-in_err-count-clause-damaged
returns-in_err-count-clause-damaged g c = λ is.
    let q = c.args.query.now in
    let d0 = g.D.Disk.state c.args.disk.now in
    let d1 = g.D.Disk.state c.of.new.disk in
    let a = c.args.places in
    let p = c.in_ok-prepared.prepared in
    let kept = c.in_ok-prepared.ensures.kept in
    let n : Named = named d1.seen p.held in
    let known = knows_kept d0.seen d1.seen a p c.of.ensures.rests.seen kept in
    all_damaged d0.seen d1.seen a n p.archive.files c.as_slice-fronts.result.now c.types_stand.ensures c.words_stand.ensures c.heads_stand.ensures kept.files (c.as_slice-fronts.ensures ∙ kept.segments) c.requires.opens known c.of.ensures.rests.seen
    (subst (λ (s : Scope). NoFronts d1.seen s.names s.files c.as_slice-fronts.result.now) c.context-context.ensures
    (c.in_err-count.ensures.damaged (search rules)))

pub returns-in_err-finish-clause-stopped : goal.returns-in_err-finish-clause-stopped
returns-in_err-finish-clause-stopped g c =
    let q = c.args.query.now in
    let d0 = g.D.Disk.state c.args.disk.now in
    let d1 = g.D.Disk.state c.of.new.disk in
    let a = c.args.places in
    let p = c.in_ok-prepared.prepared in
    let kept = c.in_ok-prepared.ensures.kept in
    let n : Named = named d1.seen p.held in
    let known = knows_kept d0.seen d1.seen a p c.of.ensures.rests.seen kept in
    on_err c.from_residual-in_err-finish.result _
    (last_halted d0.seen d1.seen a n p.archive.files c.as_slice-fronts.result.now c.types_stand.ensures c.words_stand.ensures c.heads_stand.ensures kept.files (c.as_slice-fronts.ensures ∙ kept.segments) c.requires.opens known c.of.ensures.rests.seen q (g.K.Sink.written c.args.out.now) (g.K.Sink.written c.finish.new.out) c.args.batch.now (state (g.K.Sink.written c.search_fronts.new.out) c.search_fronts.new.batch c.search_fronts.new.expanded) c.args.expanded.now c.finish.new.expanded c.args.opened.now c.search_fronts.new.opened c.in_ok-count.count c.requires.empty
    (subst (λ (s : Scope). SearchedFronts d1.seen s.names s.files s.query c.as_slice-fronts.result.now (state (g.K.Sink.written c.args.out.now) c.args.batch.now c.args.expanded.now) (state (g.K.Sink.written c.search_fronts.new.out) c.search_fronts.new.batch c.search_fronts.new.expanded) c.args.opened.now c.search_fronts.new.opened c.in_ok-count.count) c.context-context.ensures c.in_ok-count.ensures.done)
    (subst (λ (s : Scope). Halts s.names s.query [] (state (g.K.Sink.written c.search_fronts.new.out) c.search_fronts.new.batch c.search_fronts.new.expanded) (g.K.Sink.written c.finish.new.out) c.finish.new.expanded) c.context-context.ensures c.in_err-finish.ensures.stopped))

pub returns-in_err-finish-clause-damaged : goal.returns-in_err-finish-clause-damaged
returns-in_err-finish-clause-damaged g c = λ is.
    let q = c.args.query.now in
    let d0 = g.D.Disk.state c.args.disk.now in
    let d1 = g.D.Disk.state c.of.new.disk in
    let a = c.args.places in
    let p = c.in_ok-prepared.prepared in
    let kept = c.in_ok-prepared.ensures.kept in
    let n : Named = named d1.seen p.held in
    let known = knows_kept d0.seen d1.seen a p c.of.ensures.rests.seen kept in
    last_blamed d0.seen d1.seen a n p.archive.files c.as_slice-fronts.result.now c.types_stand.ensures c.words_stand.ensures c.heads_stand.ensures kept.files (c.as_slice-fronts.ensures ∙ kept.segments) c.requires.opens known c.of.ensures.rests.seen q (g.K.Sink.written c.args.out.now) c.args.batch.now (state (g.K.Sink.written c.search_fronts.new.out) c.search_fronts.new.batch c.search_fronts.new.expanded) c.args.expanded.now c.args.opened.now c.search_fronts.new.opened c.in_ok-count.count c.requires.empty
    (subst (λ (s : Scope). SearchedFronts d1.seen s.names s.files s.query c.as_slice-fronts.result.now (state (g.K.Sink.written c.args.out.now) c.args.batch.now c.args.expanded.now) (state (g.K.Sink.written c.search_fronts.new.out) c.search_fronts.new.batch c.search_fronts.new.expanded) c.args.opened.now c.search_fronts.new.opened c.in_ok-count.count) c.context-context.ensures c.in_ok-count.ensures.done)
    (subst (λ (s : Scope). Blames s.names c.search_fronts.new.batch.pages ⊥) c.context-context.ensures (c.in_err-finish.ensures.damaged (search rules)))

pub returns-clause-done : goal.returns-clause-done
returns-clause-done g c =
    let q = c.args.query.now in
    let d0 = g.D.Disk.state c.args.disk.now in
    let d1 = g.D.Disk.state c.of.new.disk in
    let a = c.args.places in
    let p = c.in_ok-prepared.prepared in
    let kept = c.in_ok-prepared.ensures.kept in
    let n : Named = named d1.seen p.held in
    let known = knows_kept d0.seen d1.seen a p c.of.ensures.rests.seen kept in
    all_searched d0.seen d1.seen a n p.archive.files c.as_slice-fronts.result.now c.types_stand.ensures c.words_stand.ensures c.heads_stand.ensures kept.files (c.as_slice-fronts.ensures ∙ kept.segments) c.requires.opens known c.of.ensures.rests.seen q c.counts-counts.result c.in_ok-count.count (g.K.Sink.written c.args.out.now) (g.K.Sink.written c.finish.new.out) c.args.batch.now c.finish.new.self (state (g.K.Sink.written c.search_fronts.new.out) c.search_fronts.new.batch c.search_fronts.new.expanded) c.args.opened.now c.search_fronts.new.opened c.args.expanded.now
    c.finish.new.expanded c.requires.empty c.counts-counts.ensures
    (subst (λ (s : Scope). SearchedFronts d1.seen s.names s.files s.query c.as_slice-fronts.result.now (state (g.K.Sink.written c.args.out.now) c.args.batch.now c.args.expanded.now) (state (g.K.Sink.written c.search_fronts.new.out) c.search_fronts.new.batch c.search_fronts.new.expanded) c.args.opened.now c.search_fronts.new.opened c.in_ok-count.count) c.context-context.ensures c.in_ok-count.ensures.done)
    (subst (λ (s : Scope). Reaches s.names s.query [] (state (g.K.Sink.written c.search_fronts.new.out) c.search_fronts.new.batch c.search_fronts.new.expanded) (state (g.K.Sink.written c.finish.new.out) c.finish.new.self c.finish.new.expanded)) c.context-context.ensures c.in_ok-finish.ensures.done)
    c.in_ok-finish.ensures.empty
