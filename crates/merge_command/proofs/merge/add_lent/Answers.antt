use Rattle.std.proofs.Common.{ap, length, refl, subst, sym, ◌≡◌, ◌∙◌}
use Rattle.std.specs.Prelude.{IfErr, IfOk, IfSome}
use Rattle.std.proofs.lemmas.Result.{IfErr-weaker, IfOk-weaker, err_from_is_err_and}
use Rattle.disk_journal.specs.Journal.{state_of}
use Rattle.disk_journal.specs.declared.refusals.StartRefusal.{StartRefusal}
use Rattle.archive_open.specs.Kept.{Kept}
use Rattle.archive_open.specs.declared.refusal.ArchiveRefusal.{ArchiveRefusal}
use Rattle.command_refusals.specs.GoesOn.{DiskGoesOn}
use Rattle.command_refusals.specs.Outcome.{merge_from_archive, merge_from_start}
use Rattle.command_refusals.specs.Reading.{IsArchive}
use Rattle.command_refusals.proofs.GoingLemmas.{DiskGoesOn-joined}
use Rattle.command_answers.specs.Known.{told_if}
use Rattle.command_answers.specs.Merging.{Merges, TellsInOrder}
use Rattle.merge_command.specs.Came.{merge_by, merge_of, refused_by}
use Rattle.file_outcomes.specs.StepsKnown.{lent_state}
use Rattle.file_outcomes.proofs.AppendLemmas.{is_held}
use Rattle.file_outcomes.proofs.HeldLemmas.{once_goes, once_keeps, opened_once}
use Rattle.file_outcomes.proofs.LentLemmas.{goes_told, keeps_twice, looked_told, opens_from, opens_told}
use Rattle.merge_command.proofs.OpeningLemmas.{behind_tells, can_be_opened, merges_sooner, open_refuses, opening_merges, opening_tells, start_refuses, steady_with, tells_with}
use Rattle.merge_command.proofs.WholeLemmas.{err_with}
use Rattle.merge_command.proofs.merge.add_lent.Goals as goal

-- ---- the archive was not opened

pub returns-in_err-header-clause-refused : goal.returns-in_err-header-clause-refused
returns-in_err-header-clause-refused g c =
    let law = g.met.D.Disk.lawful in
    let old = g.D.Disk.state c.args.disk.now in
    let new = g.D.Disk.state c.start.new.disk in
    let second = g.E.Disk.state c.args.second.now in
    let tells = g.L.Lent.tells in
    let begun = c.start.ensures in
    let p = err_from_is_err_and c.from_residual.result c.from_residual.ensures.1 in
    err_with (λ refusal. Merges (refused_by refusal) 0 (told_if tells old) (told_if tells new) second second) c.from_residual.result p.0 _ p.1 p.2
    (opening_merges tells old new second (law _) (law _) begun.keeps begun.counts.later (merge_from_start c.in_err-header.field-0.0)
    (start_refuses old new c.start.result c.in_err-header.field-0.0 c.in_err-header.was begun.damaged begun.counts))

pub returns-in_err-header-clause-in_order : goal.returns-in_err-header-clause-in_order
returns-in_err-header-clause-in_order g c =
    let old = g.D.Disk.state c.args.disk.now in
    let new = g.D.Disk.state c.start.new.disk in
    let begun = c.start.ensures in
    let p = err_from_is_err_and c.from_residual.result c.from_residual.ensures.1 in
    tells_with old new c.from_residual.result p.0 _ p.1 p.2
    (opening_tells old new begun.keeps (merge_from_start c.in_err-header.field-0.0) (start_refuses old new c.start.result c.in_err-header.field-0.0 c.in_err-header.was begun.damaged begun.counts))

pub returns-in_err-archive-clause-refused : goal.returns-in_err-archive-clause-refused
returns-in_err-archive-clause-refused g c =
    let law = g.met.D.Disk.lawful in
    let old = g.D.Disk.state c.args.disk.now in
    let mid = g.D.Disk.state c.begin-journal.result.disk.now in
    let late = g.D.Disk.state c.open_for_append.new.journal.disk.now in
    let opened = c.open_for_append.ensures in
    let once = opened_once g.D.Disk.state law c.args.disk.now c.start.new.disk c.begin-journal.result.disk.now
    c.open_for_append.new.journal.disk.now c.begin-journal.ensures.disk c.start.ensures.keeps c.start.ensures.counts.later
    opened.looks.rests opened.counts.later in
    let p = err_from_is_err_and c.from_residual-in_err-archive.result c.from_residual-in_err-archive.ensures.1 in
    let back = c.in_err-archive.disk-1-own.given.1 (sym (opened.looks.name ∙ c.begin-journal.ensures.name)) in
    let refuses = open_refuses old mid late c.open_for_append.result c.in_err-archive.field-0.0 c.in_err-archive.was once.looked.first once.risen opened.damaged opened.counts in
    let second = g.E.Disk.state c.args.second.now in
    let tells = g.L.Lent.tells in
    subst (λ d. IfErr c.from_residual-in_err-archive.result (λ refusal. Merges (refused_by refusal) 0 (told_if tells old) (told_if tells (g.D.Disk.state d)) second second)) (sym back)
    (err_with (λ refusal. Merges (refused_by refusal) 0 (told_if tells old) (told_if tells late) second second) c.from_residual-in_err-archive.result p.0 _ p.1 p.2
    (opening_merges tells old late second (law _) (law _) (once_keeps once) once.looked.counts (merge_from_archive c.in_err-archive.field-0.0) refuses))

pub returns-in_err-archive-clause-in_order : goal.returns-in_err-archive-clause-in_order
returns-in_err-archive-clause-in_order g c =
    let law = g.met.D.Disk.lawful in
    let old = g.D.Disk.state c.args.disk.now in
    let mid = g.D.Disk.state c.begin-journal.result.disk.now in
    let late = g.D.Disk.state c.open_for_append.new.journal.disk.now in
    let opened = c.open_for_append.ensures in
    let once = opened_once g.D.Disk.state law c.args.disk.now c.start.new.disk c.begin-journal.result.disk.now
    c.open_for_append.new.journal.disk.now c.begin-journal.ensures.disk c.start.ensures.keeps c.start.ensures.counts.later
    opened.looks.rests opened.counts.later in
    let p = err_from_is_err_and c.from_residual-in_err-archive.result c.from_residual-in_err-archive.ensures.1 in
    let back = c.in_err-archive.disk-1-own.given.1 (sym (opened.looks.name ∙ c.begin-journal.ensures.name)) in
    let refuses = open_refuses old mid late c.open_for_append.result c.in_err-archive.field-0.0 c.in_err-archive.was once.looked.first once.risen opened.damaged opened.counts in
    subst (λ d. TellsInOrder (merge_by c.from_residual-in_err-archive.result) old (g.D.Disk.state d)) (sym back)
    (tells_with old late c.from_residual-in_err-archive.result p.0 _ p.1 p.2 (opening_tells old late (once_keeps once) (merge_from_archive c.in_err-archive.field-0.0) refuses))

pub returns-in_err-archive-clause-goes_on : goal.returns-in_err-archive-clause-goes_on
returns-in_err-archive-clause-goes_on g c =
    let law = g.met.D.Disk.lawful in
    let old = g.D.Disk.state c.args.disk.now in
    let opened = c.open_for_append.ensures in
    let once = opened_once g.D.Disk.state law c.args.disk.now c.start.new.disk c.begin-journal.result.disk.now
    c.open_for_append.new.journal.disk.now c.begin-journal.ensures.disk c.start.ensures.keeps c.start.ensures.counts.later
    opened.looks.rests opened.counts.later in
    let back = c.in_err-archive.disk-1-own.given.1 (sym (opened.looks.name ∙ c.begin-journal.ensures.name)) in
    subst (λ d. DiskGoesOn old (g.D.Disk.state d)) (sym back) (once_goes once)

-- ---- behind the opening

pub add_founded-answer-requires-clause-lent : goal.add_founded-answer-requires-clause-lent
add_founded-answer-requires-clause-lent g c = refl

pub add_founded-answer-requires-clause-told : goal.add_founded-answer-requires-clause-told
add_founded-answer-requires-clause-told g c = refl

pub add_founded-answer-requires-clause-held : goal.add_founded-answer-requires-clause-held
add_founded-answer-requires-clause-held g c = λ name.
    let opened = c.open_for_append.ensures in
    let from = opens_from g.L.Lent.tells name c.begin-journal.result c.open_for_append.new.journal c.start.new.disk c.in_ok-header.header _
    c.begin-journal.ensures.header c.begin-journal.ensures.disk c.in_ok-header.ensures.begins
    opened.looks c.in_ok-archive.ensures.opened c.in_ok-archive.ensures.header c.in_ok-archive.ensures.at_end
    (λ tells. subst (λ d. IfSome (g.D.Disk.state d).seen IsArchive) (sym c.begin-journal.ensures.disk) (subst (λ t. IfSome t IsArchive) (sym c.start.ensures.keeps.seen) (c.requires.archive tells))) in
    let books = c.into_books.ensures in
    let hold = c.hold-holding.ensures in
    rw (hold.types) (rw (hold.words) (rw (hold.files) (is_held (lent_state g.L.Lent.tells name (state_of c.begin-journal.result)) (lent_state g.L.Lent.tells name (state_of c.open_for_append.new.journal)) _ _ from
    (opens_told g.L.Lent.tells (g.D.Disk.state c.begin-journal.result.disk.now).seen _ c.in_ok-archive.ensures.opened) c.into_books.result.types c.into_books.result.words
    (record { types_are = sym (ap (λ (k : Kept). k.types) books); words_are = sym (ap (λ (k : Kept). k.words) books); types_limit = sym (ap (λ (k : Kept). k.types_limit) books); words_limit = sym (ap (λ (k : Kept). k.words_limit) books) })
    (length c.as_slice.result.now) (ap length (c.as_slice.ensures ∙ c.files.ensures)))))

pub returns-clause-came : goal.returns-clause-came
returns-clause-came g c =
    let law = g.met.D.Disk.lawful in
    let old = g.D.Disk.state c.args.disk.now in
    let mid = g.D.Disk.state c.begin-journal.result.disk.now in
    let late = g.D.Disk.state c.open_for_append.new.journal.disk.now in
    let opened = c.open_for_append.ensures in
    let once = opened_once g.D.Disk.state law c.args.disk.now c.start.new.disk c.begin-journal.result.disk.now
    c.open_for_append.new.journal.disk.now c.begin-journal.ensures.disk c.start.ensures.keeps c.start.ensures.counts.later
    opened.looks.rests opened.counts.later in
    let done = c.add_founded-answer.ensures in
    let back = c.disk-2-1.given.1 (sym (done.back ∙ (opened.looks.name ∙ c.begin-journal.ensures.name))) in
    let last = g.D.Disk.state c.add_founded-answer.result.1.now in
    let second = g.E.Disk.state c.args.second.now in
    let second_new = g.E.Disk.state c.add_founded-answer.new.second in
    let tells = g.L.Lent.tells in
    let looked = looked_told tells old mid late once.looked in
    let keeps = keeps_twice (told_if tells old) (told_if tells mid) (told_if tells late) looked.law_old looked.first looked.second in
    let goes = goes_told tells late last done.goes_on in
    subst (λ d. IfOk c.add_founded-answer.result.0 (λ came. Merges (merge_of came) came.first (told_if tells old) (told_if tells (g.D.Disk.state d)) second second_new)) (sym back)
    (IfOk-weaker c.add_founded-answer.result.0 _ _ (λ came merges. merges_sooner (told_if tells old) (told_if tells late) (told_if tells last) second second_new looked.law_old looked.law_new keeps once.looked.counts goes (merge_of came) came.first merges) done.came)

pub returns-clause-refused : goal.returns-clause-refused
returns-clause-refused g c =
    let law = g.met.D.Disk.lawful in
    let old = g.D.Disk.state c.args.disk.now in
    let mid = g.D.Disk.state c.begin-journal.result.disk.now in
    let late = g.D.Disk.state c.open_for_append.new.journal.disk.now in
    let opened = c.open_for_append.ensures in
    let once = opened_once g.D.Disk.state law c.args.disk.now c.start.new.disk c.begin-journal.result.disk.now
    c.open_for_append.new.journal.disk.now c.begin-journal.ensures.disk c.start.ensures.keeps c.start.ensures.counts.later
    opened.looks.rests opened.counts.later in
    let done = c.add_founded-answer.ensures in
    let back = c.disk-2-1.given.1 (sym (done.back ∙ (opened.looks.name ∙ c.begin-journal.ensures.name))) in
    let last = g.D.Disk.state c.add_founded-answer.result.1.now in
    let second = g.E.Disk.state c.args.second.now in
    let second_new = g.E.Disk.state c.add_founded-answer.new.second in
    let tells = g.L.Lent.tells in
    let looked = looked_told tells old mid late once.looked in
    let keeps = keeps_twice (told_if tells old) (told_if tells mid) (told_if tells late) looked.law_old looked.first looked.second in
    let goes = goes_told tells late last done.goes_on in
    subst (λ d. IfErr c.add_founded-answer.result.0 (λ refusal. Merges (refused_by refusal) 0 (told_if tells old) (told_if tells (g.D.Disk.state d)) second second_new)) (sym back)
    (IfErr-weaker c.add_founded-answer.result.0 _ _ (λ refusal merges. merges_sooner (told_if tells old) (told_if tells late) (told_if tells last) second second_new looked.law_old looked.law_new keeps once.looked.counts goes (refused_by refusal) 0 merges) done.refused)

pub returns-clause-in_order : goal.returns-clause-in_order
returns-clause-in_order g c =
    let law = g.met.D.Disk.lawful in
    let old = g.D.Disk.state c.args.disk.now in
    let mid = g.D.Disk.state c.begin-journal.result.disk.now in
    let late = g.D.Disk.state c.open_for_append.new.journal.disk.now in
    let opened = c.open_for_append.ensures in
    let once = opened_once g.D.Disk.state law c.args.disk.now c.start.new.disk c.begin-journal.result.disk.now
    c.open_for_append.new.journal.disk.now c.begin-journal.ensures.disk c.start.ensures.keeps c.start.ensures.counts.later
    opened.looks.rests opened.counts.later in
    let done = c.add_founded-answer.ensures in
    let back = c.disk-2-1.given.1 (sym (done.back ∙ (opened.looks.name ∙ c.begin-journal.ensures.name))) in
    let begun = subst (λ d. (g.D.Disk.state d).faults ≡ old.faults) (sym c.begin-journal.ensures.disk)
    (steady_with old.faults (g.D.Disk.state c.start.new.disk).faults StartRefusal.DiskFault c.start.result c.in_ok-header.header c.in_ok-header.was c.start.ensures.counts) in
    let steady = steady_with mid.faults late.faults ArchiveRefusal.DiskFault c.open_for_append.result c.in_ok-archive.archive c.in_ok-archive.was opened.counts in
    subst (λ d. TellsInOrder (merge_by c.add_founded-answer.result.0) old (g.D.Disk.state d)) (sym back)
    (behind_tells g.D.Disk.state (merge_by c.add_founded-answer.result.0) old c.open_for_append.new.journal.disk.now c.add_founded-answer.result.1.now (once_keeps once) (steady ∙ begun) (can_be_opened old mid _ once.looked.first c.in_ok-archive.ensures.last) done.behind)

pub returns-clause-goes_on : goal.returns-clause-goes_on
returns-clause-goes_on g c =
    let law = g.met.D.Disk.lawful in
    let old = g.D.Disk.state c.args.disk.now in
    let late = g.D.Disk.state c.open_for_append.new.journal.disk.now in
    let opened = c.open_for_append.ensures in
    let once = opened_once g.D.Disk.state law c.args.disk.now c.start.new.disk c.begin-journal.result.disk.now
    c.open_for_append.new.journal.disk.now c.begin-journal.ensures.disk c.start.ensures.keeps c.start.ensures.counts.later
    opened.looks.rests opened.counts.later in
    let done = c.add_founded-answer.ensures in
    let back = c.disk-2-1.given.1 (sym (done.back ∙ (opened.looks.name ∙ c.begin-journal.ensures.name))) in
    subst (λ d. DiskGoesOn old (g.D.Disk.state d)) (sym back)
    (DiskGoesOn-joined old late _ (law _) (once_goes once) done.goes_on)
