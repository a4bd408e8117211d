use Rattle.std.proofs.Common.{◌≤◌, ◌∙◌, ap, arith, length, map, refl, subst, sym}
use Rattle.std.specs.Prelude.{◌≡◌, IfErr, IfOk, IfSome, OnErr, OnOk, option_map}
use Rattle.std.proofs.lemmas.Result.{err_from_is_err_and}
use Rattle.log_seams.specs.Disk.{KeepsBytes}
use Rattle.log_sources.specs.Sources.{str_bytes}
use Rattle.disk_journal.specs.Journal.{state_of}
use Rattle.archive_open.specs.Archive.{shown}
use Rattle.archive_open.specs.Kept.{Kept}
use Rattle.archive_open.specs.Shown.{Opens}
use Rattle.live_search.specs.Reader.{LiveView, live_follower}
use Rattle.live_search.specs.declared.fixed.LiveFixed.{LiveFixed}
use Rattle.command_refusals.specs.GoesOn.{DiskGoesOn}
use Rattle.command_refusals.specs.Outcome.{add_from_archive, add_from_start, answer_of}
use Rattle.command_refusals.specs.Reading.{IsArchive}
use Rattle.command_refusals.proofs.GoingLemmas.{DiskGoesOn-joined, DiskGoesOn-kept, KeepsBytes-same}
use Rattle.command_answers.specs.Ingested.{TellsDamage}
use Rattle.command_answers.specs.Known.{told_if}
use Rattle.write_commands.specs.Followed.{Follows}
use Rattle.write_commands.specs.IngestPrints.{came_of}
use Rattle.write_commands.specs.StepsAdding.{AddsNewLogs, RefusesNewLogs}
use Rattle.file_outcomes.specs.StepsCauses.{logs_around}
use Rattle.file_outcomes.specs.StepsKnown.{IsNoDamage, lent_state}
use Rattle.file_outcomes.proofs.AppendLemmas.{is_held, may_append}
use Rattle.write_commands.proofs.CauseLemmas.{archive_cause, cause_sooner, refused_with, refuses_with, start_cause}
use Rattle.file_outcomes.proofs.HeldLemmas.{rests_keep}
use Rattle.write_commands.proofs.LookedLemmas.{adds_looked, refuses_looked}
use Rattle.file_outcomes.proofs.LentLemmas.{goes_told, keeps_twice, looked_told, opens_from, opens_told}
use Rattle.write_commands.proofs.DamageLemmas.{archive_damage, damage_sooner, damaged_with, no_damage, refuses_told, start_damage}
use Rattle.file_outcomes.proofs.StepsLemmas.{Looked, kept_nothing, looked_nothing}
use Rattle.watch_command.specs.StepsWatched.{AddsWatched, from_live}
use Rattle.watch_command.proofs.WatchedLemmas.{keeps_end, keeps_late, kept_by, looked_end, looked_late, may_begin, opened_twice, twice_goes, was_watched}
use Rattle.watch_command.proofs.adding.add_watched.Goals as goal

-- ---- refused before anything was written

pub returns-in_err-first-clause-refused : goal.returns-in_err-first-clause-refused
returns-in_err-first-clause-refused g c =
    let law = (g.met.D.Disk g.world.𝓛 g.world.𝓜 g.world.𝓡 ((λ s x. x), (λ x. x), (λ x. x), λ x. x)).lawful in
    let old = g.D.Disk.state c.args.disk.now in
    let mid = g.D.Disk.state c.open_archive.new.disk in
    let opened = c.open_archive.ensures in
    let p = err_from_is_err_and c.from_residual.result c.from_residual.ensures.1 in
    refuses_told g.L.Lent.tells c.args.asked old mid c.from_residual.result
    (refuses_with c.args.asked old mid c.from_residual.result
    (refused_with (map str_bytes c.args.asked.files.now) old mid c.from_residual.result p.0 _ p.1 p.2 (archive_cause (map str_bytes c.args.asked.files.now) old mid c.open_archive.result c.in_err-first.field-0.0 c.in_err-first.was opened.keeps opened.damaged opened.counts))
    (kept_nothing old mid (law _) (law _) opened.keeps opened.counts.later))

pub returns-in_err-first-clause-damaged : goal.returns-in_err-first-clause-damaged
returns-in_err-first-clause-damaged g c =
    let old = g.D.Disk.state c.args.disk.now in
    let mid = g.D.Disk.state c.open_archive.new.disk in
    let opened = c.open_archive.ensures in
    let p = err_from_is_err_and c.from_residual.result c.from_residual.ensures.1 in
    damaged_with old mid c.from_residual.result p.0 _ p.1 p.2 (archive_damage old mid c.open_archive.result c.in_err-first.field-0.0 c.in_err-first.was opened.keeps opened.damaged)

pub returns-in_err-header-clause-refused : goal.returns-in_err-header-clause-refused
returns-in_err-header-clause-refused g c =
    let law = (g.met.D.Disk g.world.𝓛 g.world.𝓜 g.world.𝓡 ((λ s x. x), (λ x. x), (λ x. x), λ x. x)).lawful in
    let old = g.D.Disk.state c.args.disk.now in
    let mid = g.D.Disk.state c.open_archive.new.disk in
    let late = g.D.Disk.state c.start.new.disk in
    let opened = c.open_archive.ensures in
    let begun = c.start.ensures in
    let p = err_from_is_err_and c.from_residual-in_err-header.result c.from_residual-in_err-header.ensures.1 in
    let once : Looked old old mid = record { law_old = law _; law_mid = law _; law_new = law _; first = KeepsBytes-same old; second = opened.keeps; counts = opened.counts.later } in
    refuses_told g.L.Lent.tells c.args.asked old late c.from_residual-in_err-header.result
    (refuses_with c.args.asked old late c.from_residual-in_err-header.result
    (refused_with (map str_bytes c.args.asked.files.now) old late c.from_residual-in_err-header.result p.0 _ p.1 p.2
    (cause_sooner (map str_bytes c.args.asked.files.now) old old mid late once (add_from_start c.in_err-header.field-0.0)
    (start_cause (map str_bytes c.args.asked.files.now) mid late c.start.result c.in_err-header.field-0.0 c.in_err-header.was begun.keeps begun.damaged begun.counts)))
    (looked_nothing old mid late (record { law_old = law _; law_mid = law _; law_new = law _; first = opened.keeps; second = begun.keeps; counts = omega (arith, opened.counts.later, begun.counts.later) })))

pub returns-in_err-header-clause-damaged : goal.returns-in_err-header-clause-damaged
returns-in_err-header-clause-damaged g c =
    let law = (g.met.D.Disk g.world.𝓛 g.world.𝓜 g.world.𝓡 ((λ s x. x), (λ x. x), (λ x. x), λ x. x)).lawful in
    let old = g.D.Disk.state c.args.disk.now in
    let mid = g.D.Disk.state c.open_archive.new.disk in
    let late = g.D.Disk.state c.start.new.disk in
    let opened = c.open_archive.ensures in
    let begun = c.start.ensures in
    let p = err_from_is_err_and c.from_residual-in_err-header.result c.from_residual-in_err-header.ensures.1 in
    damaged_with old late c.from_residual-in_err-header.result p.0 _ p.1 p.2
    (damage_sooner old mid late opened.keeps.seen (keeps_twice old mid late (law _) opened.keeps begun.keeps) (add_from_start c.in_err-header.field-0.0)
    (start_damage mid late c.start.result c.in_err-header.field-0.0 c.in_err-header.was begun.keeps begun.damaged))

pub returns-in_err-header-clause-goes_on : goal.returns-in_err-header-clause-goes_on
returns-in_err-header-clause-goes_on g c =
    let law = (g.met.D.Disk g.world.𝓛 g.world.𝓜 g.world.𝓡 ((λ s x. x), (λ x. x), (λ x. x), λ x. x)).lawful in
    DiskGoesOn-kept _ _ _ (law c.args.disk.now) (law c.open_archive.new.disk) (law c.start.new.disk) c.open_archive.ensures.keeps c.open_archive.ensures.counts.later c.start.ensures.keeps c.start.ensures.counts.later

pub returns-in_err-archive-clause-refused : goal.returns-in_err-archive-clause-refused
returns-in_err-archive-clause-refused g c =
    let law = (g.met.D.Disk g.world.𝓛 g.world.𝓜 g.world.𝓡 ((λ s x. x), (λ x. x), (λ x. x), λ x. x)).lawful in
    let old = g.D.Disk.state c.args.disk.now in
    let mid = g.D.Disk.state c.open_archive.new.disk in
    let late = g.D.Disk.state c.begin-journal.result.disk.now in
    let end = g.D.Disk.state c.open_for_append.new.journal.disk.now in
    let opened = c.open_for_append.ensures in
    let twice = opened_twice g.D.Disk.state law c.args.disk.now c.open_archive.new.disk c.start.new.disk
    c.begin-journal.result.disk.now c.open_for_append.new.journal.disk.now c.begin-journal.ensures.disk
    c.open_archive.ensures.keeps c.open_archive.ensures.counts.later c.start.ensures.keeps c.start.ensures.counts.later
    opened.looks.rests opened.counts.later in
    let p = err_from_is_err_and c.from_residual-in_err-archive.result c.from_residual-in_err-archive.ensures.1 in
    let back = c.in_err-archive.disk-1-own.given.1 (sym (opened.looks.name ∙ c.begin-journal.ensures.name)) in
    subst (λ d. IfErr c.from_residual-in_err-archive.result (RefusesNewLogs c.args.asked (told_if g.L.Lent.tells old) (told_if g.L.Lent.tells (g.D.Disk.state d)))) (sym back)
    (refuses_told g.L.Lent.tells c.args.asked old end c.from_residual-in_err-archive.result
    (refuses_with c.args.asked old end c.from_residual-in_err-archive.result
    (refused_with (map str_bytes c.args.asked.files.now) old end c.from_residual-in_err-archive.result p.0 _ p.1 p.2
    (cause_sooner (map str_bytes c.args.asked.files.now) old mid late end (looked_late twice) (add_from_archive c.in_err-archive.field-0.0)
    (archive_cause (map str_bytes c.args.asked.files.now) late end c.open_for_append.result c.in_err-archive.field-0.0 c.in_err-archive.was (rests_keep late end opened.looks.rests) opened.damaged opened.counts)))
    (looked_nothing old mid end (looked_end twice))))

pub returns-in_err-archive-clause-damaged : goal.returns-in_err-archive-clause-damaged
returns-in_err-archive-clause-damaged g c =
    let law = (g.met.D.Disk g.world.𝓛 g.world.𝓜 g.world.𝓡 ((λ s x. x), (λ x. x), (λ x. x), λ x. x)).lawful in
    let old = g.D.Disk.state c.args.disk.now in
    let late = g.D.Disk.state c.begin-journal.result.disk.now in
    let end = g.D.Disk.state c.open_for_append.new.journal.disk.now in
    let opened = c.open_for_append.ensures in
    let twice = opened_twice g.D.Disk.state law c.args.disk.now c.open_archive.new.disk c.start.new.disk
    c.begin-journal.result.disk.now c.open_for_append.new.journal.disk.now c.begin-journal.ensures.disk
    c.open_archive.ensures.keeps c.open_archive.ensures.counts.later c.start.ensures.keeps c.start.ensures.counts.later
    opened.looks.rests opened.counts.later in
    let p = err_from_is_err_and c.from_residual-in_err-archive.result c.from_residual-in_err-archive.ensures.1 in
    let back = c.in_err-archive.disk-1-own.given.1 (sym (opened.looks.name ∙ c.begin-journal.ensures.name)) in
    subst (λ d. IfErr c.from_residual-in_err-archive.result (TellsDamage old (g.D.Disk.state d))) (sym back)
    (damaged_with old end c.from_residual-in_err-archive.result p.0 _ p.1 p.2
    (damage_sooner old late end (keeps_late twice).seen (keeps_end twice) (add_from_archive c.in_err-archive.field-0.0)
    (archive_damage late end c.open_for_append.result c.in_err-archive.field-0.0 c.in_err-archive.was (rests_keep late end opened.looks.rests) opened.damaged)))

pub returns-in_err-archive-clause-goes_on : goal.returns-in_err-archive-clause-goes_on
returns-in_err-archive-clause-goes_on g c =
    let law = (g.met.D.Disk g.world.𝓛 g.world.𝓜 g.world.𝓡 ((λ s x. x), (λ x. x), (λ x. x), λ x. x)).lawful in
    let old = g.D.Disk.state c.args.disk.now in
    let opened = c.open_for_append.ensures in
    let twice = opened_twice g.D.Disk.state law c.args.disk.now c.open_archive.new.disk c.start.new.disk
    c.begin-journal.result.disk.now c.open_for_append.new.journal.disk.now c.begin-journal.ensures.disk
    c.open_archive.ensures.keeps c.open_archive.ensures.counts.later c.start.ensures.keeps c.start.ensures.counts.later
    opened.looks.rests opened.counts.later in
    let back = c.in_err-archive.disk-1-own.given.1 (sym (opened.looks.name ∙ c.begin-journal.ensures.name)) in
    subst (λ d. DiskGoesOn old (g.D.Disk.state d)) (sym back) (twice_goes twice)

-- ---- the workers and the reader

pub add_founded-answer-requires-clause-lent : goal.add_founded-answer-requires-clause-lent
add_founded-answer-requires-clause-lent g c κs within = refl

pub add_founded-answer-requires-clause-told : goal.add_founded-answer-requires-clause-told
add_founded-answer-requires-clause-told g c κs within = refl

pub add_founded-answer-requires-clause-held : goal.add_founded-answer-requires-clause-held
add_founded-answer-requires-clause-held g c κs within = λ name.
    let opened = c.open_for_append.ensures in
    let same = sym c.begin-journal.ensures.disk in
    let seen = c.start.ensures.keeps.seen ∙ c.open_archive.ensures.keeps.seen in
    let tells = g.L.Lent.tells in
    let from = opens_from tells name c.begin-journal.result c.open_for_append.new.journal c.start.new.disk c.in_ok-header.header _
    c.begin-journal.ensures.header c.begin-journal.ensures.disk c.in_ok-header.ensures.begins
    opened.looks c.in_ok-archive.ensures.opened c.in_ok-archive.ensures.header c.in_ok-archive.ensures.at_end
    (λ told. subst (λ d. IfSome (g.D.Disk.state d).seen IsArchive) same (subst (λ t. IfSome t IsArchive) (sym seen) (c.requires.archive told))) in
    let books = c.into_books.ensures in
    let hold = c.hold-holding.ensures in
    let first = subst (λ d. Opens (g.D.Disk.state d).seen (shown kept_by c.in_ok-first.first)) same (subst (λ t. Opens t (shown kept_by c.in_ok-first.first)) (sym seen) c.in_ok-first.ensures.opened) in
    rw (hold.types) (rw (hold.words) (rw (hold.files) (is_held (lent_state tells name (state_of c.begin-journal.result)) (lent_state tells name (state_of c.open_for_append.new.journal)) _ _ from
    (opens_told tells (g.D.Disk.state c.begin-journal.result.disk.now).seen _ first) c.into_books.result.types c.into_books.result.words
    (record { types_are = sym (ap (λ (k : Kept). k.types) books); words_are = sym (ap (λ (k : Kept). k.words) books); types_limit = sym (ap (λ (k : Kept). k.types_limit) books); words_limit = sym (ap (λ (k : Kept). k.words_limit) books) })
    (length c.as_slice.result.now) (ap length (c.as_slice.ensures ∙ c.files.ensures)))))

pub add_founded-answer-requires-clause-reader : goal.add_founded-answer-requires-clause-reader
add_founded-answer-requires-clause-reader g c κs within = λ name.
    let opened = c.open_for_append.ensures in
    let same = sym c.begin-journal.ensures.disk in
    let seen = c.start.ensures.keeps.seen ∙ c.open_archive.ensures.keeps.seen in
    let tells = g.L.Lent.tells in
    let from = opens_from tells name c.begin-journal.result c.open_for_append.new.journal c.start.new.disk c.in_ok-header.header _
    c.begin-journal.ensures.header c.begin-journal.ensures.disk c.in_ok-header.ensures.begins
    opened.looks c.in_ok-archive.ensures.opened c.in_ok-archive.ensures.header c.in_ok-archive.ensures.at_end
    (λ told. subst (λ d. IfSome (g.D.Disk.state d).seen IsArchive) same (subst (λ t. IfSome t IsArchive) (sym seen) (c.requires.archive told))) in
    let made = c.new-reader.ensures in
    let now = lent_state tells name (state_of c.open_for_append.new.journal) in
    may_begin g.K.Sink.written c.new-reader.result now (may_append (lent_state tells name (state_of c.begin-journal.result)) now _ from)
    _ (opens_told tells (g.D.Disk.state c.open_for_append.new.journal.disk.now).seen _ (subst (λ t. Opens t (shown kept_by c.in_ok-archive.archive)) (sym opened.looks.rests.seen) c.in_ok-archive.ensures.opened)) c.in_ok-archive.ensures.entries made.first made.handled made.runs made.stands

-- ---- the logs were added

pub returns-in-Ok-clause-added : goal.returns-in-Ok-clause-added
returns-in-Ok-clause-added g c =
    let law = (g.met.D.Disk g.world.𝓛 g.world.𝓜 g.world.𝓡 ((λ s x. x), (λ x. x), (λ x. x), λ x. x)).lawful in
    let old = g.D.Disk.state c.args.disk.now in
    let mid = g.D.Disk.state c.open_archive.new.disk in
    let end = g.D.Disk.state c.open_for_append.new.journal.disk.now in
    let opened = c.open_for_append.ensures in
    let twice = opened_twice g.D.Disk.state law c.args.disk.now c.open_archive.new.disk c.start.new.disk
    c.begin-journal.result.disk.now c.open_for_append.new.journal.disk.now c.begin-journal.ensures.disk
    c.open_archive.ensures.keeps c.open_archive.ensures.counts.later c.start.ensures.keeps c.start.ensures.counts.later
    opened.looks.rests opened.counts.later in
    let done = c.add_founded-answer.ensures in
    let begun = c.new-reader.result in
    let w = c.add_founded-answer.new.reader in
    let written = g.K.Sink.written in
    let faults = g.K.Sink.faults in
    let names = map str_bytes c.args.asked.files.now in
    let content = g.H.Shelf.content c.args.shelf.now in
    let logs = logs_around g.H.Shelf.unread g.H.Shelf.open_faults g.H.Shelf.read_faults c.args.shelf.now c.add_founded-answer.new.shelf in
    let files = c.add_founded-answer.new.taken.items in
    let came = map (came_of content) files in
    let tells = g.L.Lent.tells in
    let last = g.D.Disk.state c.add_founded-answer.result.1.now in
    let back = c.disk-2-1.given.1 (sym (done.back ∙ (opened.looks.name ∙ c.begin-journal.ensures.name))) in
    let from = opens_from tells 0 c.begin-journal.result c.open_for_append.new.journal c.start.new.disk c.in_ok-header.header _
    c.begin-journal.ensures.header c.begin-journal.ensures.disk c.in_ok-header.ensures.begins
    opened.looks c.in_ok-archive.ensures.opened c.in_ok-archive.ensures.header c.in_ok-archive.ensures.at_end
    (λ told. subst (λ t. IfSome t IsArchive) (sym (keeps_late twice).seen) (c.requires.archive told)) in
    let now = lent_state tells 0 (state_of c.open_for_append.new.journal) in
    let may = may_append (lent_state tells 0 (state_of c.begin-journal.result)) now _ from in
    let looked = looked_told tells old mid end (looked_end twice) in
    let adds = subst (λ r. IfOk r (λ first. AddsNewLogs content logs c.args.asked first files (told_if tells end) (told_if tells last))) c.in-Ok.is done.came.added in
    let follows = subst (λ r. OnOk r (Follows (live_follower written begun) (live_follower written w) c.args.asked.segment names came (told_if tells end) (told_if tells last))) c.in-Ok.is done.followed.followed in
    let back_out = c.out-1.given.1 (sym (c.into_out-out.ensures.name ∙ (ap (λ (x : LiveFixed _). x.name) follows.fixed ∙ c.new-reader.ensures.name))) in
    let refused = c.refusal.ensures in
    subst (λ d. AddsWatched content logs c.args.asked c.args.pattern (record { first = c.in-Ok.first; reader = c.outcome_of-outcome.result }) files (written c.args.out.now, written c.out-1.given.0) (faults c.args.out.now, faults c.out-1.given.0) (told_if tells old) (told_if tells (g.D.Disk.state d))) (sym back)
    (record {
      adds = adds_looked (told_if tells old) (told_if tells mid) (told_if tells end) looked (told_if tells last) (goes_told tells end last done.goes_on) c.args.asked content logs c.in-Ok.first files adds;
      watched = was_watched written faults begun w c.args.asked.segment c.args.pattern names came (told_if tells old) (told_if tells mid) now (told_if tells last) looked may (goes_told tells end last done.goes_on) follows
          (λ is. refused.sink (refused.is ∙ is)) (λ spared. refused.steady (λ is. spared (sym refused.is ∙ is)))
          _ (opens_told tells end.seen _ (subst (λ t. Opens t (shown kept_by c.in_ok-archive.archive)) (sym opened.looks.rests.seen) c.in_ok-archive.ensures.opened)) c.new-reader.ensures.first c.new-reader.ensures.pattern
          (answer_of c.outcome_of-outcome.result) c.args.out.now c.out-1.given.0 (c.outcome_of-outcome.ensures ∙ ap (option_map from_live) refused.is) c.new-reader.ensures.begun (back_out ∙ c.into_out-out.ensures.out);
    })

pub returns-in-Ok-clause-goes_on : goal.returns-in-Ok-clause-goes_on
returns-in-Ok-clause-goes_on g c =
    let law = (g.met.D.Disk g.world.𝓛 g.world.𝓜 g.world.𝓡 ((λ s x. x), (λ x. x), (λ x. x), λ x. x)).lawful in
    let old = g.D.Disk.state c.args.disk.now in
    let end = g.D.Disk.state c.open_for_append.new.journal.disk.now in
    let opened = c.open_for_append.ensures in
    let twice = opened_twice g.D.Disk.state law c.args.disk.now c.open_archive.new.disk c.start.new.disk
    c.begin-journal.result.disk.now c.open_for_append.new.journal.disk.now c.begin-journal.ensures.disk
    c.open_archive.ensures.keeps c.open_archive.ensures.counts.later c.start.ensures.keeps c.start.ensures.counts.later
    opened.looks.rests opened.counts.later in
    let done = c.add_founded-answer.ensures in
    let back = c.disk-2-1.given.1 (sym (done.back ∙ (opened.looks.name ∙ c.begin-journal.ensures.name))) in
    subst (λ d. DiskGoesOn old (g.D.Disk.state d)) (sym back) (DiskGoesOn-joined old end _ (law _) (twice_goes twice) done.goes_on)

pub returns-in-Ok-clause-later : goal.returns-in-Ok-clause-later
returns-in-Ok-clause-later g c =
    let law = (g.met.D.Disk g.world.𝓛 g.world.𝓜 g.world.𝓡 ((λ s x. x), (λ x. x), (λ x. x), λ x. x)).lawful in
    let end = g.D.Disk.state c.open_for_append.new.journal.disk.now in
    let opened = c.open_for_append.ensures in
    let twice = opened_twice g.D.Disk.state law c.args.disk.now c.open_archive.new.disk c.start.new.disk
    c.begin-journal.result.disk.now c.open_for_append.new.journal.disk.now c.begin-journal.ensures.disk
    c.open_archive.ensures.keeps c.open_archive.ensures.counts.later c.start.ensures.keeps c.start.ensures.counts.later
    opened.looks.rests opened.counts.later in
    let done = c.add_founded-answer.ensures in
    let begun = c.new-reader.result in
    let w = c.add_founded-answer.new.reader in
    let written = g.K.Sink.written in
    let faults = g.K.Sink.faults in
    let names = map str_bytes c.args.asked.files.now in
    let content = g.H.Shelf.content c.args.shelf.now in
    let logs = logs_around g.H.Shelf.unread g.H.Shelf.open_faults g.H.Shelf.read_faults c.args.shelf.now c.add_founded-answer.new.shelf in
    let files = c.add_founded-answer.new.taken.items in
    let came = map (came_of content) files in
    let tells = g.L.Lent.tells in
    let last = g.D.Disk.state c.add_founded-answer.result.1.now in
    let follows = subst (λ r. OnOk r (Follows (live_follower written begun) (live_follower written w) c.args.asked.segment names came (told_if tells end) (told_if tells last))) c.in-Ok.is done.followed.followed in
    let back_out = c.out-1.given.1 (sym (c.into_out-out.ensures.name ∙ (ap (λ (x : LiveFixed _). x.name) follows.fixed ∙ c.new-reader.ensures.name))) in
    subst (λ o. faults c.args.out.now ≤ faults o) (sym (back_out ∙ c.into_out-out.ensures.out))
    (subst (λ b. faults b ≤ faults w.out) (ap (λ (x : LiveFixed _). x.begun) follows.fixed ∙ c.new-reader.ensures.begun) c.refusal.ensures.later)

-- ---- they were not

pub returns-in-Err-clause-refused : goal.returns-in-Err-clause-refused
returns-in-Err-clause-refused g c =
    let law = (g.met.D.Disk g.world.𝓛 g.world.𝓜 g.world.𝓡 ((λ s x. x), (λ x. x), (λ x. x), λ x. x)).lawful in
    let old = g.D.Disk.state c.args.disk.now in
    let mid = g.D.Disk.state c.open_archive.new.disk in
    let end = g.D.Disk.state c.open_for_append.new.journal.disk.now in
    let opened = c.open_for_append.ensures in
    let twice = opened_twice g.D.Disk.state law c.args.disk.now c.open_archive.new.disk c.start.new.disk
    c.begin-journal.result.disk.now c.open_for_append.new.journal.disk.now c.begin-journal.ensures.disk
    c.open_archive.ensures.keeps c.open_archive.ensures.counts.later c.start.ensures.keeps c.start.ensures.counts.later
    opened.looks.rests opened.counts.later in
    let done = c.add_founded-answer.ensures in
    let back = c.disk-2-1.given.1 (sym (done.back ∙ (opened.looks.name ∙ c.begin-journal.ensures.name))) in
    let tells = g.L.Lent.tells in
    let last = g.D.Disk.state c.add_founded-answer.result.1.now in
    let refuses = subst (λ r. IfErr r (RefusesNewLogs c.args.asked (told_if tells end) (told_if tells last))) c.in-Err.is done.came.refused in
    subst (λ d. RefusesNewLogs c.args.asked (told_if tells old) (told_if tells (g.D.Disk.state d)) c.in-Err.refusal) (sym back)
    (refuses_looked (told_if tells old) (told_if tells mid) (told_if tells end) (looked_told tells old mid end (looked_end twice)) (told_if tells last) (goes_told tells end last done.goes_on) c.args.asked c.in-Err.refusal refuses)

pub returns-in-Err-clause-damaged : goal.returns-in-Err-clause-damaged
returns-in-Err-clause-damaged g c =
    no_damage _ _ c.in-Err.refusal (subst (λ r. IfErr r IsNoDamage) c.in-Err.is c.add_founded-answer.ensures.undamaged)

pub returns-in-Err-clause-rests : goal.returns-in-Err-clause-rests
returns-in-Err-clause-rests g c =
    let rests = subst (λ r. OnErr r (c.add_founded-answer.new.reader ≡ c.new-reader.result)) c.in-Err.is c.add_founded-answer.ensures.followed.rests in
    let back_out = c.out-1.given.1 (sym (c.into_out-out.ensures.name ∙ (ap (λ (v : LiveView _). v.name) rests ∙ c.new-reader.ensures.name))) in
    let same = back_out ∙ (c.into_out-out.ensures.out ∙ (ap (λ (v : LiveView _). v.out) rests ∙ c.new-reader.ensures.out)) in
    same

pub returns-in-Err-clause-goes_on : goal.returns-in-Err-clause-goes_on
returns-in-Err-clause-goes_on g c =
    let law = (g.met.D.Disk g.world.𝓛 g.world.𝓜 g.world.𝓡 ((λ s x. x), (λ x. x), (λ x. x), λ x. x)).lawful in
    let old = g.D.Disk.state c.args.disk.now in
    let end = g.D.Disk.state c.open_for_append.new.journal.disk.now in
    let opened = c.open_for_append.ensures in
    let twice = opened_twice g.D.Disk.state law c.args.disk.now c.open_archive.new.disk c.start.new.disk
    c.begin-journal.result.disk.now c.open_for_append.new.journal.disk.now c.begin-journal.ensures.disk
    c.open_archive.ensures.keeps c.open_archive.ensures.counts.later c.start.ensures.keeps c.start.ensures.counts.later
    opened.looks.rests opened.counts.later in
    let done = c.add_founded-answer.ensures in
    let back = c.disk-2-1.given.1 (sym (done.back ∙ (opened.looks.name ∙ c.begin-journal.ensures.name))) in
    subst (λ d. DiskGoesOn old (g.D.Disk.state d)) (sym back) (DiskGoesOn-joined old end _ (law _) (twice_goes twice) done.goes_on)

pub returns-in-Err-clause-later : goal.returns-in-Err-clause-later
returns-in-Err-clause-later g c =
    let rests = subst (λ r. OnErr r (c.add_founded-answer.new.reader ≡ c.new-reader.result)) c.in-Err.is c.add_founded-answer.ensures.followed.rests in
    let back_out = c.out-1.given.1 (sym (c.into_out-out.ensures.name ∙ (ap (λ (v : LiveView _). v.name) rests ∙ c.new-reader.ensures.name))) in
    let same = back_out ∙ (c.into_out-out.ensures.out ∙ (ap (λ (v : LiveView _). v.out) rests ∙ c.new-reader.ensures.out)) in
    subst (λ o. g.K.Sink.faults c.args.out.now ≤ g.K.Sink.faults o) (sym same) (omega arith)
