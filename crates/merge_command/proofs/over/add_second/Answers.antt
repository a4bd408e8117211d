use Rattle.std.proofs.Common.{◌∙◌, refl, sym, ap, subst, length, arith}
use Rattle.std.proofs.lemmas.Result.{err_from_is_err_and}
use Rattle.log_seams.specs.Outside.{Rose}
use Rattle.log_seams.proofs.MomentLemmas.{keeps_on}
use Rattle.disk_journal.specs.declared.journal.Journal.{Journal}
use Rattle.archive_open.specs.Archive.{shown}
use Rattle.archive_open.specs.Kept.{Kept}
use Rattle.archive_open.specs.Shown.{HasLastGate, Opens}
use Rattle.command_refusals.specs.GoesOn.{DiskGoesOn}
use Rattle.command_refusals.proofs.GoingLemmas.{DiskGoesOn-kept, DiskGoesOn-seen}
use Rattle.command_answers.specs.Merging.{Merges}
use Rattle.merge_command.specs.Came.{kept_by, merge_of, name_at, refused_by, view_shown}
use Rattle.file_outcomes.specs.JournalAt.{state_at}
use Rattle.merge_command.proofs.OpeningLemmas.{agree_behind, second_behind}
use Rattle.merge_command.proofs.WholeLemmas.{agree_refuses, behind, err_with, merges, second_refuses, view_told}
use Rattle.merge_command.proofs.over.add_second.Goals as goal

-- ---- refused

pub returns-in_err-second_archive-clause-refused : goal.returns-in_err-second_archive-clause-refused
returns-in_err-second_archive-clause-refused g c =
    let law = g.met.D.Disk.lawful in
    let d = g.D.Disk.state c.args.disk.now in
    let second = g.E.Disk.state c.args.second.now in
    let second_new = g.E.Disk.state c.open_second.new.disk in
    let p = err_from_is_err_and c.from_residual.result c.from_residual.ensures.1 in
    err_with (λ refusal. Merges (refused_by refusal) 0 d d second second_new) c.from_residual.result p.0 _ p.1 p.2
    (second_refuses d second second_new (law _) c.open_second.ensures.keeps c.in_err-second_archive.field-0.0 c.in_err-second_archive.ensures.refused)

pub returns-in_err-second_archive-clause-behind : goal.returns-in_err-second_archive-clause-behind
returns-in_err-second_archive-clause-behind g c =
    let p = err_from_is_err_and c.from_residual.result c.from_residual.ensures.1 in
    second_behind c.args.disk.now (g.E.Disk.state c.args.second.now) (g.E.Disk.state c.open_second.new.disk) c.from_residual.result p.0 _ p.1 p.2 c.in_err-second_archive.ensures.refused

pub returns-in_err-second_archive-clause-second : goal.returns-in_err-second_archive-clause-second
returns-in_err-second_archive-clause-second g c =
    let law = g.met.E.Disk.lawful in
    let looked = c.open_second.ensures in
    DiskGoesOn-seen _ _ (law _) (law _) looked.later looked.keeps.seen looked.keeps.time

pub returns-in_err-agree-clause-refused : goal.returns-in_err-agree-clause-refused
returns-in_err-agree-clause-refused g c =
    let law = g.met.D.Disk.lawful in
    let d = g.D.Disk.state c.args.disk.now in
    let held = c.requires.held 0 in
    let second = g.E.Disk.state c.args.second.now in
    let second_new = g.E.Disk.state c.open_second.new.disk in
    let p = err_from_is_err_and c.from_residual-in_err-agree.result c.from_residual-in_err-agree.ensures.1 in
    err_with (λ refusal. Merges (refused_by refusal) 0 d d second second_new) c.from_residual-in_err-agree.result p.0 _ p.1 p.2
    (agree_refuses (state_at 0 d c.args.end) held.opens (law _) c.args.holding.files held.names second second_new c.open_second.ensures.keeps
    (shown kept_by c.in_ok-second_archive.second_archive) c.in_ok-second_archive.ensures.opened c.version-other.result (length c.as_slice.result.now)
    (c.version-other.ensures ∙ ap (λ (k : Kept). k.version) c.names.ensures) (ap length (c.as_slice.ensures ∙ c.files.ensures)) c.in_err-agree.field-0.0 c.in_err-agree.ensures)

pub returns-in_err-agree-clause-behind : goal.returns-in_err-agree-clause-behind
returns-in_err-agree-clause-behind g c =
    let p = err_from_is_err_and c.from_residual-in_err-agree.result c.from_residual-in_err-agree.ensures.1 in
    agree_behind c.args.disk.now c.args.end.header.version c.args.holding.files c.version-other.result (length c.as_slice.result.now) c.from_residual-in_err-agree.result p.0 _ p.1 p.2 c.in_err-agree.ensures

pub returns-in_err-agree-clause-second : goal.returns-in_err-agree-clause-second
returns-in_err-agree-clause-second g c =
    let law = g.met.E.Disk.lawful in
    let looked = c.open_second.ensures in
    DiskGoesOn-seen _ _ (law _) (law _) looked.later looked.keeps.seen looked.keeps.time

-- ---- merged

pub merge_opened-left-requires-clause-begin : goal.merge_opened-left-requires-clause-begin
merge_opened-left-requires-clause-begin g c =
    record {
      version_is = sym (c.version-other.ensures ∙ ap (λ (k : Kept). k.version) c.names.ensures) ∙ c.in_ok-agree.ensures.0;
      opens = (c.requires.held _).opens;
      holds = (c.requires.held 0).names;
      few = omega (arith, c.in_ok-agree.ensures.1, ap length (c.as_slice.ensures ∙ c.files.ensures));
    }

pub merge_opened-left-requires-clause-books : goal.merge_opened-left-requires-clause-books
merge_opened-left-requires-clause-books g c = (c.requires.held _).texts

pub returns-clause-came : goal.returns-clause-came
returns-clause-came g c =
    let second = g.E.Disk.state c.args.second.now in
    let second_mid = g.E.Disk.state c.open_second.new.disk in
    let second_new = g.E.Disk.state c.merge_opened-left.result.disk.now in
    let b = shown kept_by c.in_ok-second_archive.second_archive in
    let m = merge_of (record {
      first = c.args.holding.files;
      second = c.in_ok-second_archive.second_archive;
      files = c.merge_opened-left.new.files;
      refusal = c.refusal_of.result;
      stopped = c.place_of.result;
    }) in
    let version = λ (k : Kept). k.version in
    let ends = c.merge_opened-left.ensures.ends in
    let read = c.merge_opened-left.ensures.second in
    let told = sym c.open_second.ensures.keeps.seen in
    let old = g.D.Disk.state c.args.disk.now in
    let back = c.disk-1.given.1 (sym ends.merged.goes.name) in
    let back_second = c.second-1.given.1 (sym read.lent) in
    subst (λ d. Merges m c.args.holding.files old (g.D.Disk.state d) second (g.E.Disk.state c.second-1.given.0)) (sym back)
    (subst (λ e. Merges m c.args.holding.files old (g.D.Disk.state c.merge_opened-left.result.journal.disk.now) second (g.E.Disk.state e)) (sym back_second)
    (merges c.segments_go_on.ensures.files c.segments_go_on.ensures.fair c.segments_go_on.ensures.theirs _ c.merge_opened-left.result.journal (c.requires.held _).opens
    (view_shown b second_mid.seen) b (subst (λ t. Opens t b) told c.in_ok-second_archive.ensures.opened) (view_told b second_mid.seen)
    (subst (λ t. HasLastGate t b) told c.in_ok-second_archive.ensures.last) c.last_gate.result c.last_gate.ensures
    second second_new told (keeps_on second second_mid second_new c.open_second.ensures.keeps read.rests)
    c.args.holding.files (c.requires.held 0).names c.merge_opened-left.new.files.items c.merge_opened-left.result.refusal ends c.merge_opened-left.ensures.none
    (λ file is. subst (λ n. Rose n second_new.faults) c.in_ok-second_archive.ensures.steady (read.fault file is))
    (sym (c.version-other.ensures ∙ ap version c.names.ensures) ∙ c.in_ok-agree.ensures.0)
    (omega (arith, c.in_ok-agree.ensures.1, ap length (c.as_slice.ensures ∙ c.files.ensures)))
    m refl c.refusal_of.ensures (ap (λ place. name_at b.files place) c.place_of.ensures)))

pub returns-clause-behind : goal.returns-clause-behind
returns-clause-behind g c =
    let second = g.E.Disk.state c.args.second.now in
    let second_mid = g.E.Disk.state c.open_second.new.disk in
    let second_new = g.E.Disk.state c.merge_opened-left.result.disk.now in
    let b = shown kept_by c.in_ok-second_archive.second_archive in
    let m = merge_of (record {
      first = c.args.holding.files;
      second = c.in_ok-second_archive.second_archive;
      files = c.merge_opened-left.new.files;
      refusal = c.refusal_of.result;
      stopped = c.place_of.result;
    }) in
    let version = λ (k : Kept). k.version in
    let ends = c.merge_opened-left.ensures.ends in
    let read = c.merge_opened-left.ensures.second in
    let told = sym c.open_second.ensures.keeps.seen in
    let back = c.disk-1.given.1 (sym ends.merged.goes.name) in
    let comes = behind c.segments_go_on.ensures.files c.segments_go_on.ensures.fair c.segments_go_on.ensures.theirs _ c.merge_opened-left.result.journal (c.requires.held _).opens
    (view_shown b second_mid.seen) b (subst (λ t. Opens t b) told c.in_ok-second_archive.ensures.opened) (view_told b second_mid.seen)
    (subst (λ t. HasLastGate t b) told c.in_ok-second_archive.ensures.last) c.last_gate.result c.last_gate.ensures
    second second_new told (keeps_on second second_mid second_new c.open_second.ensures.keeps read.rests)
    c.args.holding.files (c.requires.held 0).names c.merge_opened-left.new.files.items c.merge_opened-left.result.refusal ends c.merge_opened-left.ensures.none
    (λ file is. subst (λ n. Rose n second_new.faults) c.in_ok-second_archive.ensures.steady (read.fault file is))
    (sym (c.version-other.ensures ∙ ap version c.names.ensures) ∙ c.in_ok-agree.ensures.0)
    (omega (arith, c.in_ok-agree.ensures.1, ap length (c.as_slice.ensures ∙ c.files.ensures)))
    m refl c.refusal_of.ensures (ap (λ place. name_at b.files place) c.place_of.ensures) in
    record { undamaged = comes.undamaged; alone = λ such none. back ∙ ap (λ (j : Journal _ _). j.disk.now) (comes.alone such none) }

pub returns-clause-goes_on : goal.returns-clause-goes_on
returns-clause-goes_on g c =
    let goes = c.merge_opened-left.ensures.ends.merged.goes in
    subst (λ d. DiskGoesOn (g.D.Disk.state c.args.disk.now) (g.D.Disk.state d)) (sym (c.disk-1.given.1 (sym goes.name))) (record { counts = goes.counts; tells = goes.tells; moments = goes.moments })

pub returns-clause-second : goal.returns-clause-second
returns-clause-second g c =
    let law = g.met.E.Disk.lawful in
    let second = g.E.Disk.state c.args.second.now in
    let looked = c.open_second.ensures in
    let read = c.merge_opened-left.ensures.second in
    subst (λ e. DiskGoesOn second (g.E.Disk.state e)) (sym (c.second-1.given.1 (sym read.lent)))
    (DiskGoesOn-kept second _ _ (law _) (law _) (law _) looked.keeps looked.later (record { seen = read.rests.seen; no_more = read.rests.no_more; time = read.rests.time }) read.later)
