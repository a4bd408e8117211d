use Rattle.std.proofs.Common.{◌≡◌, ◌∙◌, List, Option, ℕ, ap, sym, subst, rules, refl}
use Rattle.log_seams.proofs.MomentLemmas.{rests_on}
use Rattle.word_places.specs.Held.{kept_of}
use Rattle.search_walk.specs.Held.{Named, named}
use Rattle.search_walk.specs.Opened.{NoFronts, ReadsFronts}
use Rattle.archive_open.specs.declared.files.FileEntry.{FileEntry}
use Rattle.search_walk.specs.StepsScope.{IsScope, Scope, scope}
use Rattle.search_walk.specs.Walked.{SearchedFronts, StoppedFronts}
use Rattle.search_walk.proofs.AnswerLemmas.{on_err}
use Rattle.search_walk.proofs.JournalLemmas.{all_damaged, all_read, texts_damaged, texts_only}
use Rattle.search_walk.proofs.PreparedLemmas.{knows_kept, serves_kept}
use Rattle.group_count.specs.StepsCounted.{Passes, Stops, sofar}
use Rattle.group_count.specs.StepsServed.{IsServed}
use Rattle.group_count.proofs.GroupedLemmas.{stopped_nothing}
use Rattle.group_count.proofs.WalkedLemmas.{all_counted, all_stopped, held_types}
use Rattle.group_count.proofs.archive_counting.count_archive.Goals as goal

pub of-requires-clause-searched : goal.of-requires-clause-searched
of-requires-clause-searched g c = c.requires.searched

pub of-requires-clause-order : goal.of-requires-clause-order
of-requires-clause-order g c = c.requires.order

pub returns-in_err-prepared-clause-reads : goal.returns-in_err-prepared-clause-reads
returns-in_err-prepared-clause-reads g c = texts_only _ c.args.places c.args.query.now _ _ c.requires.opens c.of.ensures.reads

pub returns-in_err-prepared-clause-stopped : goal.returns-in_err-prepared-clause-stopped
returns-in_err-prepared-clause-stopped g c = on_err c.from_residual.result _ (stopped_nothing _ c.args.places c.args.query.now _ _ _ _ c.requires.opens refl refl)

pub returns-in_err-prepared-clause-damaged : goal.returns-in_err-prepared-clause-damaged
returns-in_err-prepared-clause-damaged g c = λ is. texts_damaged _ c.args.places c.types_stand.ensures c.words_stand.ensures c.requires.opens (c.in_err-prepared.ensures.damaged (search rules))

pub context-context-requires : goal.context-context-requires
context-context-requires g c = c.in_ok-prepared.ensures.ready

pub count_fronts-requires-clause-served : goal.count_fronts-requires-clause-served
count_fronts-requires-clause-served g c = λ _ _.
    let p = c.in_ok-prepared.prepared in
    subst (λ (s : Scope). IsServed s p.held c.args.counter.now.way) (sym c.context-context.ensures)
    (record {
      serves = serves_kept (g.D.Disk.state c.args.disk.now).seen (g.D.Disk.state c.of.new.disk).seen c.args.places p c.requires.order c.in_ok-prepared.ensures.kept;
      way = c.requires.way;
    })

pub count_fronts-requires-clause-scope : goal.count_fronts-requires-clause-scope
count_fronts-requires-clause-scope g c = λ _ _.
    let p = c.in_ok-prepared.prepared in
    subst (λ (l : List (Option ℕ)). IsScope (named (g.D.Disk.state c.of.new.disk).seen p.held) c.args.query.now p.archive.layouts p.archive.asked l) (sym c.as_slice-2.ensures.value) c.in_ok-prepared.ensures.ready

pub count_fronts-requires-clause-is : goal.count_fronts-requires-clause-is
count_fronts-requires-clause-is g c = λ _ _.
    let n : Named = named (g.D.Disk.state c.of.new.disk).seen c.in_ok-prepared.prepared.held in
    c.context-context.ensures ∙ ap (λ (l : List FileEntry). scope n c.args.query.now l) (sym c.as_slice.ensures)

pub returns-in_err-count-clause-reads : goal.returns-in_err-count-clause-reads
returns-in_err-count-clause-reads g c =
    let q = c.args.query.now in
    let d0 = g.D.Disk.state c.args.disk.now in
    let d1 = g.D.Disk.state c.of.new.disk in
    let a = c.args.places in
    let p = c.in_ok-prepared.prepared in
    let kept = c.in_ok-prepared.ensures.kept in
    let n : Named = named d1.seen p.held in
    let known = knows_kept d0.seen d1.seen a p c.of.ensures.rests.seen kept in
    all_read d0.seen d1.seen a n p.archive.files c.as_slice-fronts.result.now c.types_stand.ensures c.words_stand.ensures c.heads_stand.ensures kept.files (c.as_slice-fronts.ensures ∙ kept.segments) c.requires.opens known c.of.ensures.rests.seen q d0 d1 (g.D.Disk.state c.count_fronts.new.disk) c.of.ensures.rests.seen c.of.ensures.reads
    (subst (λ (s : Scope). ReadsFronts d1 (g.D.Disk.state c.count_fronts.new.disk) s.names s.files s.query c.as_slice-fronts.result.now) c.context-context.ensures c.count_fronts.ensures.reads)

pub returns-in_err-count-clause-rests : goal.returns-in_err-count-clause-rests
returns-in_err-count-clause-rests g c = rests_on _ (g.D.Disk.state c.of.new.disk) _ c.of.ensures.rests c.count_fronts.ensures.rests

pub returns-clause-reads : goal.returns-clause-reads
returns-clause-reads g c =
    let q = c.args.query.now in
    let d0 = g.D.Disk.state c.args.disk.now in
    let d1 = g.D.Disk.state c.of.new.disk in
    let a = c.args.places in
    let p = c.in_ok-prepared.prepared in
    let kept = c.in_ok-prepared.ensures.kept in
    let n : Named = named d1.seen p.held in
    let known = knows_kept d0.seen d1.seen a p c.of.ensures.rests.seen kept in
    all_read d0.seen d1.seen a n p.archive.files c.as_slice-fronts.result.now c.types_stand.ensures c.words_stand.ensures c.heads_stand.ensures kept.files (c.as_slice-fronts.ensures ∙ kept.segments) c.requires.opens known c.of.ensures.rests.seen q d0 d1 (g.D.Disk.state c.count_fronts.new.disk) c.of.ensures.rests.seen c.of.ensures.reads
    (subst (λ (s : Scope). ReadsFronts d1 (g.D.Disk.state c.count_fronts.new.disk) s.names s.files s.query c.as_slice-fronts.result.now) c.context-context.ensures c.count_fronts.ensures.reads)

pub returns-clause-rests : goal.returns-clause-rests
returns-clause-rests g c = rests_on _ (g.D.Disk.state c.of.new.disk) _ c.of.ensures.rests c.count_fronts.ensures.rests

pub returns-in_err-count-clause-stopped : goal.returns-in_err-count-clause-stopped
returns-in_err-count-clause-stopped g c =
    let q = c.args.query.now in
    let d0 = g.D.Disk.state c.args.disk.now in
    let d1 = g.D.Disk.state c.of.new.disk in
    let a = c.args.places in
    let p = c.in_ok-prepared.prepared in
    let kept = c.in_ok-prepared.ensures.kept in
    let n : Named = named d1.seen p.held in
    let known = knows_kept d0.seen d1.seen a p c.of.ensures.rests.seen kept in
    on_err c.from_residual-in_err-count.result _
    (all_stopped d0.seen d1.seen a n p.archive.files c.as_slice-fronts.result.now c.types_stand.ensures c.words_stand.ensures c.heads_stand.ensures kept.files (c.as_slice-fronts.ensures ∙ kept.segments) c.requires.opens known c.of.ensures.rests.seen q c.args.expanded.now c.count_fronts.new.expanded c.args.opened.now c.count_fronts.new.opened
    (subst (λ (s : Scope). StoppedFronts (λ l. Stops s.names.version s.query l c.args.expanded.now c.count_fronts.new.expanded) d1.seen s.names s.files s.query c.as_slice-fronts.result.now c.args.opened.now c.count_fronts.new.opened)
    c.context-context.ensures c.in_err-count.ensures.stopped))

pub returns-in_err-count-clause-damaged : goal.returns-in_err-count-clause-damaged
returns-in_err-count-clause-damaged g c = λ is.
    let q = c.args.query.now in
    let d0 = g.D.Disk.state c.args.disk.now in
    let d1 = g.D.Disk.state c.of.new.disk in
    let a = c.args.places in
    let p = c.in_ok-prepared.prepared in
    let kept = c.in_ok-prepared.ensures.kept in
    let n : Named = named d1.seen p.held in
    let known = knows_kept d0.seen d1.seen a p c.of.ensures.rests.seen kept in
    all_damaged d0.seen d1.seen a n p.archive.files c.as_slice-fronts.result.now c.types_stand.ensures c.words_stand.ensures c.heads_stand.ensures kept.files (c.as_slice-fronts.ensures ∙ kept.segments) c.requires.opens known c.of.ensures.rests.seen (subst (λ (s : Scope). NoFronts d1.seen s.names s.files c.as_slice-fronts.result.now) c.context-context.ensures (c.in_err-count.ensures.damaged (search rules)))

pub returns-clause-done : goal.returns-clause-done
returns-clause-done g c =
    let q = c.args.query.now in
    let d0 = g.D.Disk.state c.args.disk.now in
    let d1 = g.D.Disk.state c.of.new.disk in
    let a = c.args.places in
    let p = c.in_ok-prepared.prepared in
    let kept = c.in_ok-prepared.ensures.kept in
    let n : Named = named d1.seen p.held in
    let known = knows_kept d0.seen d1.seen a p c.of.ensures.rests.seen kept in
    let x = sofar c.args.counter.now.counts c.args.expanded.now in
    let y = sofar c.count_fronts.new.counter.counts c.count_fronts.new.expanded in
    all_counted d0.seen d1.seen a n p.archive.files c.as_slice-fronts.result.now c.types_stand.ensures c.words_stand.ensures c.heads_stand.ensures kept.files (c.as_slice-fronts.ensures ∙ kept.segments) c.requires.opens known c.of.ensures.rests.seen g.T.RowTable.counted q _ c.in_ok-count.count x y c.args.opened.now c.count_fronts.new.opened
    (search rules) (search rules)
    (subst (λ (s : Scope). SearchedFronts (λ l. Passes g.T.RowTable.counted s.names s.query l x y) d1.seen s.names s.files s.query c.as_slice-fronts.result.now c.args.opened.now c.count_fronts.new.opened c.in_ok-count.count)
    c.context-context.ensures c.in_ok-count.ensures.done)

pub returns-clause-held : goal.returns-clause-held
returns-clause-held g c =
    let p = c.in_ok-prepared.prepared in
    let kept : kept_of c.count_fronts.new.held ≡ kept_of p.held = subst (λ (s : Scope). kept_of c.count_fronts.new.held ≡ s.names.kept) c.context-context.ensures c.in_ok-count.ensures.kept in
    held_types (g.D.Disk.state c.args.disk.now).seen c.args.places p c.count_fronts.new.held kept c.in_ok-prepared.ensures.kept
