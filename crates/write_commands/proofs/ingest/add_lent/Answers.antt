use Rattle.std.proofs.Common.{ap, length, map, refl, subst, sym, ◌∙◌}
use Rattle.std.specs.Prelude.{IfErr, IfOk, IfSome}
use Rattle.std.proofs.lemmas.Result.{IfErr-weaker, IfOk-weaker, err_from_is_err_and}
use Rattle.archive_open.specs.Kept.{Kept}
use Rattle.disk_journal.specs.Journal.{state_of}
use Rattle.log_sources.specs.Sources.{str_bytes}
use Rattle.command_refusals.specs.GoesOn.{DiskGoesOn}
use Rattle.command_refusals.specs.Outcome.{add_from_archive}
use Rattle.command_refusals.specs.Reading.{IsArchive}
use Rattle.command_answers.specs.Ingested.{TellsDamage}
use Rattle.command_answers.specs.Known.{told_if}
use Rattle.write_commands.specs.StepsAdding.{AddsNewLogs, RefusesNewLogs}
use Rattle.file_outcomes.specs.StepsCauses.{logs_around}
use Rattle.file_outcomes.specs.StepsKnown.{lent_state}
use Rattle.command_refusals.proofs.GoingLemmas.{DiskGoesOn-joined}
use Rattle.file_outcomes.proofs.AppendLemmas.{is_held}
use Rattle.write_commands.proofs.CauseLemmas.{archive_cause, cause_sooner, refused_with, refuses_with, start_cause}
use Rattle.file_outcomes.proofs.HeldLemmas.{once_first, once_goes, once_keeps, once_nothing, opened_once, rests_keep}
use Rattle.write_commands.proofs.LookedLemmas.{adds_looked, refuses_looked}
use Rattle.file_outcomes.proofs.LentLemmas.{goes_told, looked_told, opens_from, opens_told}
use Rattle.write_commands.proofs.DamageLemmas.{archive_damage, damage_sooner, damaged_with, no_damage, refuses_told, start_damage}
use Rattle.file_outcomes.proofs.StepsLemmas.{kept_nothing}
use Rattle.write_commands.proofs.ingest.add_lent.Goals as goal

-- ---- refused

pub returns-in_err-header-clause-refused : goal.returns-in_err-header-clause-refused
returns-in_err-header-clause-refused g c =
    let law = (g.met.D.Disk g.world.𝓛 g.world.𝓜 g.world.𝓡 ((λ s x. x), (λ x. x), (λ x. x), λ x. x)).lawful in
    let begun = c.start.ensures in
    let p = err_from_is_err_and c.from_residual.result c.from_residual.ensures.1 in
    refuses_told g.L.Lent.tells c.args.asked (g.D.Disk.state c.args.disk.now) (g.D.Disk.state c.start.new.disk) c.from_residual.result
    (refuses_with c.args.asked (g.D.Disk.state c.args.disk.now) (g.D.Disk.state c.start.new.disk) c.from_residual.result
    (refused_with (map str_bytes c.args.asked.files.now) (g.D.Disk.state c.args.disk.now) (g.D.Disk.state c.start.new.disk) c.from_residual.result p.0 _ p.1 p.2 (start_cause (map str_bytes c.args.asked.files.now) (g.D.Disk.state c.args.disk.now) (g.D.Disk.state c.start.new.disk) c.start.result c.in_err-header.field-0.0 c.in_err-header.was begun.keeps begun.damaged begun.counts))
    (kept_nothing (g.D.Disk.state c.args.disk.now) (g.D.Disk.state c.start.new.disk) (law _) (law _) begun.keeps begun.counts.later))

pub returns-in_err-header-clause-damaged : goal.returns-in_err-header-clause-damaged
returns-in_err-header-clause-damaged g c =
    let begun = c.start.ensures in
    let p = err_from_is_err_and c.from_residual.result c.from_residual.ensures.1 in
    damaged_with (g.D.Disk.state c.args.disk.now) (g.D.Disk.state c.start.new.disk) c.from_residual.result p.0 _ p.1 p.2
    (start_damage (g.D.Disk.state c.args.disk.now) (g.D.Disk.state c.start.new.disk) c.start.result c.in_err-header.field-0.0 c.in_err-header.was begun.keeps begun.damaged)

pub returns-in_err-archive-clause-refused : goal.returns-in_err-archive-clause-refused
returns-in_err-archive-clause-refused g c =
    let law = (g.met.D.Disk g.world.𝓛 g.world.𝓜 g.world.𝓡 ((λ s x. x), (λ x. x), (λ x. x), λ x. x)).lawful in
    let old = g.D.Disk.state c.args.disk.now in
    let mid = g.D.Disk.state c.begin-journal.result.disk.now in
    let late = g.D.Disk.state c.open_for_append.new.journal.disk.now in
    let opened = c.open_for_append.ensures in
    let once = opened_once g.D.Disk.state law c.args.disk.now c.start.new.disk c.begin-journal.result.disk.now
    c.open_for_append.new.journal.disk.now c.begin-journal.ensures.disk c.start.ensures.keeps c.start.ensures.counts.later
    opened.looks.rests opened.counts.later in
    let p = err_from_is_err_and c.from_residual-in_err-archive.result c.from_residual-in_err-archive.ensures.1 in
    let back = c.in_err-archive.disk-1-own.given.1 (sym (opened.looks.name ∙ c.begin-journal.ensures.name)) in
    subst (λ d. IfErr c.from_residual-in_err-archive.result (RefusesNewLogs c.args.asked (told_if g.L.Lent.tells old) (told_if g.L.Lent.tells (g.D.Disk.state d)))) (sym back)
    (refuses_told g.L.Lent.tells c.args.asked old late c.from_residual-in_err-archive.result
    (refuses_with c.args.asked old late c.from_residual-in_err-archive.result
    (refused_with (map str_bytes c.args.asked.files.now) old late c.from_residual-in_err-archive.result p.0 _ p.1 p.2
    (cause_sooner (map str_bytes c.args.asked.files.now) old old mid late (once_first once) (add_from_archive c.in_err-archive.field-0.0)
    (archive_cause (map str_bytes c.args.asked.files.now) mid late c.open_for_append.result c.in_err-archive.field-0.0 c.in_err-archive.was (rests_keep mid late opened.looks.rests) opened.damaged opened.counts)))
    (once_nothing once)))

pub returns-in_err-archive-clause-damaged : goal.returns-in_err-archive-clause-damaged
returns-in_err-archive-clause-damaged g c =
    let law = (g.met.D.Disk g.world.𝓛 g.world.𝓜 g.world.𝓡 ((λ s x. x), (λ x. x), (λ x. x), λ x. x)).lawful in
    let old = g.D.Disk.state c.args.disk.now in
    let mid = g.D.Disk.state c.begin-journal.result.disk.now in
    let late = g.D.Disk.state c.open_for_append.new.journal.disk.now in
    let opened = c.open_for_append.ensures in
    let once = opened_once g.D.Disk.state law c.args.disk.now c.start.new.disk c.begin-journal.result.disk.now
    c.open_for_append.new.journal.disk.now c.begin-journal.ensures.disk c.start.ensures.keeps c.start.ensures.counts.later
    opened.looks.rests opened.counts.later in
    let p = err_from_is_err_and c.from_residual-in_err-archive.result c.from_residual-in_err-archive.ensures.1 in
    let back = c.in_err-archive.disk-1-own.given.1 (sym (opened.looks.name ∙ c.begin-journal.ensures.name)) in
    subst (λ d. IfErr c.from_residual-in_err-archive.result (TellsDamage old (g.D.Disk.state d))) (sym back)
    (damaged_with old late c.from_residual-in_err-archive.result p.0 _ p.1 p.2
    (damage_sooner old mid late once.looked.first.seen (once_keeps once) (add_from_archive c.in_err-archive.field-0.0)
    (archive_damage mid late c.open_for_append.result c.in_err-archive.field-0.0 c.in_err-archive.was once.looked.second opened.damaged)))

pub returns-in_err-archive-clause-goes_on : goal.returns-in_err-archive-clause-goes_on
returns-in_err-archive-clause-goes_on g c =
    let law = (g.met.D.Disk g.world.𝓛 g.world.𝓜 g.world.𝓡 ((λ s x. x), (λ x. x), (λ x. x), λ x. x)).lawful in
    let old = g.D.Disk.state c.args.disk.now in
    let mid = g.D.Disk.state c.begin-journal.result.disk.now in
    let late = g.D.Disk.state c.open_for_append.new.journal.disk.now in
    let opened = c.open_for_append.ensures in
    let once = opened_once g.D.Disk.state law c.args.disk.now c.start.new.disk c.begin-journal.result.disk.now
    c.open_for_append.new.journal.disk.now c.begin-journal.ensures.disk c.start.ensures.keeps c.start.ensures.counts.later
    opened.looks.rests opened.counts.later in
    let back = c.in_err-archive.disk-1-own.given.1 (sym (opened.looks.name ∙ c.begin-journal.ensures.name)) in
    subst (λ d. DiskGoesOn old (g.D.Disk.state d)) (sym back) (once_goes once)

-- ---- taken in

pub add_founded-answer-requires-clause-lent : goal.add_founded-answer-requires-clause-lent
add_founded-answer-requires-clause-lent g c κs within = refl

pub add_founded-answer-requires-clause-told : goal.add_founded-answer-requires-clause-told
add_founded-answer-requires-clause-told g c κs within = refl

pub add_founded-answer-requires-clause-held : goal.add_founded-answer-requires-clause-held
add_founded-answer-requires-clause-held g c κs within = λ name.
    let opened = c.open_for_append.ensures in
    let from = opens_from g.L.Lent.tells name c.begin-journal.result c.open_for_append.new.journal c.start.new.disk c.in_ok-header.header _
    c.begin-journal.ensures.header c.begin-journal.ensures.disk c.in_ok-header.ensures.begins
    opened.looks c.in_ok-archive.ensures.opened c.in_ok-archive.ensures.header c.in_ok-archive.ensures.at_end
    (λ tells. subst (λ d. IfSome (g.D.Disk.state d).seen IsArchive) (sym c.begin-journal.ensures.disk) (subst (λ t. IfSome t IsArchive) (sym c.start.ensures.keeps.seen) (c.requires.archive tells))) in
    let books = c.into_books.ensures in
    let hold = c.hold-holding.ensures in
    rw (hold.types) (rw (hold.words) (rw (hold.files) (is_held (lent_state g.L.Lent.tells name (state_of c.begin-journal.result)) (lent_state g.L.Lent.tells name (state_of c.open_for_append.new.journal)) _ _ from
    (opens_told g.L.Lent.tells (g.D.Disk.state c.begin-journal.result.disk.now).seen _ c.in_ok-archive.ensures.opened) c.into_books.result.types c.into_books.result.words
    (record { types_are = sym (ap (λ (k : Kept). k.types) books); words_are = sym (ap (λ (k : Kept). k.words) books); types_limit = sym (ap (λ (k : Kept). k.types_limit) books); words_limit = sym (ap (λ (k : Kept). k.words_limit) books) })
    (length c.as_slice.result.now) (ap length (c.as_slice.ensures ∙ c.files.ensures)))))

pub returns-clause-added : goal.returns-clause-added
returns-clause-added g c =
    let law = (g.met.D.Disk g.world.𝓛 g.world.𝓜 g.world.𝓡 ((λ s x. x), (λ x. x), (λ x. x), λ x. x)).lawful in
    let old = g.D.Disk.state c.args.disk.now in
    let mid = g.D.Disk.state c.begin-journal.result.disk.now in
    let late = g.D.Disk.state c.open_for_append.new.journal.disk.now in
    let opened = c.open_for_append.ensures in
    let once = opened_once g.D.Disk.state law c.args.disk.now c.start.new.disk c.begin-journal.result.disk.now
    c.open_for_append.new.journal.disk.now c.begin-journal.ensures.disk c.start.ensures.keeps c.start.ensures.counts.later
    opened.looks.rests opened.counts.later in
    let done = c.add_founded-answer.ensures in
    let back = c.disk-2-1.given.1 (sym (done.back ∙ (opened.looks.name ∙ c.begin-journal.ensures.name))) in
    let tells = g.L.Lent.tells in
    subst (λ d. IfOk c.add_founded-answer.result.0 (λ first. AddsNewLogs (g.H.Shelf.content c.args.shelf.now) (logs_around g.H.Shelf.unread g.H.Shelf.open_faults g.H.Shelf.read_faults c.args.shelf.now c.add_founded-answer.new.shelf) c.args.asked first c.add_founded-answer.new.taken.items (told_if tells old) (told_if tells (g.D.Disk.state d)))) (sym back)
    (IfOk-weaker c.add_founded-answer.result.0 _ _ (λ first adds. adds_looked (told_if tells old) (told_if tells mid) (told_if tells late) (looked_told tells old mid late once.looked) _ (goes_told tells late _ done.goes_on) c.args.asked (g.H.Shelf.content c.args.shelf.now) _ first c.add_founded-answer.new.taken.items adds) done.came.added)

pub returns-clause-refused : goal.returns-clause-refused
returns-clause-refused g c =
    let law = (g.met.D.Disk g.world.𝓛 g.world.𝓜 g.world.𝓡 ((λ s x. x), (λ x. x), (λ x. x), λ x. x)).lawful in
    let old = g.D.Disk.state c.args.disk.now in
    let mid = g.D.Disk.state c.begin-journal.result.disk.now in
    let late = g.D.Disk.state c.open_for_append.new.journal.disk.now in
    let opened = c.open_for_append.ensures in
    let once = opened_once g.D.Disk.state law c.args.disk.now c.start.new.disk c.begin-journal.result.disk.now
    c.open_for_append.new.journal.disk.now c.begin-journal.ensures.disk c.start.ensures.keeps c.start.ensures.counts.later
    opened.looks.rests opened.counts.later in
    let done = c.add_founded-answer.ensures in
    let back = c.disk-2-1.given.1 (sym (done.back ∙ (opened.looks.name ∙ c.begin-journal.ensures.name))) in
    let tells = g.L.Lent.tells in
    subst (λ d. IfErr c.add_founded-answer.result.0 (RefusesNewLogs c.args.asked (told_if tells old) (told_if tells (g.D.Disk.state d)))) (sym back)
    (IfErr-weaker c.add_founded-answer.result.0 _ _ (λ refusal refuses. refuses_looked (told_if tells old) (told_if tells mid) (told_if tells late) (looked_told tells old mid late once.looked) _ (goes_told tells late _ done.goes_on) c.args.asked refusal refuses) done.came.refused)

pub returns-clause-damaged : goal.returns-clause-damaged
returns-clause-damaged g c = IfErr-weaker c.add_founded-answer.result.0 _ _ (λ refusal none. no_damage _ _ refusal none) c.add_founded-answer.ensures.undamaged

pub returns-clause-goes_on : goal.returns-clause-goes_on
returns-clause-goes_on g c =
    let law = (g.met.D.Disk g.world.𝓛 g.world.𝓜 g.world.𝓡 ((λ s x. x), (λ x. x), (λ x. x), λ x. x)).lawful in
    let old = g.D.Disk.state c.args.disk.now in
    let mid = g.D.Disk.state c.begin-journal.result.disk.now in
    let late = g.D.Disk.state c.open_for_append.new.journal.disk.now in
    let opened = c.open_for_append.ensures in
    let once = opened_once g.D.Disk.state law c.args.disk.now c.start.new.disk c.begin-journal.result.disk.now
    c.open_for_append.new.journal.disk.now c.begin-journal.ensures.disk c.start.ensures.keeps c.start.ensures.counts.later
    opened.looks.rests opened.counts.later in
    let done = c.add_founded-answer.ensures in
    let back = c.disk-2-1.given.1 (sym (done.back ∙ (opened.looks.name ∙ c.begin-journal.ensures.name))) in
    subst (λ d. DiskGoesOn old (g.D.Disk.state d)) (sym back)
    (DiskGoesOn-joined old late _ (law _) (once_goes once) done.goes_on)
