use Rattle.std.proofs.Common.{◌≡◌, ◌-◌, ◌∙◌, ap, arith, length, subst, sym}
use Rattle.std.specs.Prelude.{IfSome, option_map}
use Rattle.archive_meaning.specs.declared.TheConstants.{MAX_ROWS}
use Rattle.archive_jobs.specs.Jobs.{AreJobsOf}
use Rattle.archive_jobs.specs.Lent.{IsRead}
use Rattle.command_refusals.specs.GoesOn.{DiskGoesOn}
use Rattle.command_answers.specs.Upgrading.{EndsTexts, header_for}
use Rattle.upgrade_command.specs.Files.{AreReports, came_by, read_by, stop_by}
use Rattle.upgrade_command.specs.Taking.{TakesNone, TakesTexts}
use Rattle.upgrade_command.proofs.CameLemmas.{came_told}
use Rattle.upgrade_command.proofs.FillLemmas.{back_whole, did_counted, err_is, ok_is, read_ends}
use Rattle.upgrade_command.proofs.IntoLemmas.{into_goes, into_names, into_texts}
use Rattle.upgrade_command.proofs.taking.take_lent.Goals as goal

pub returns-in-Ok-answer-clause-goes : goal.returns-in-Ok-answer-clause-goes
returns-in-Ok-answer-clause-goes g c =
    let law = (g.met.E.Disk g.world.𝓛 g.world.𝓜 g.world.𝓡 ((λ s x. x), (λ x. x), (λ x. x), λ x. x)).lawful in
    let made = c.in_default-create.ensures in
    let begun = c.begin_made-journal.ensures in
    let taken = c.name_and_fill-taken in
    let back = c.second-in-Ok-answer-1.given.1 (sym (taken.ensures.goes.name ∙ begun.name)) in
    subst (λ d. DiskGoesOn (g.E.Disk.state c.args.second.now) (g.E.Disk.state d)) (sym back)
    (into_goes law _ g.L.Lent.lent.disk c.requires.old.opens c.new_header-header.result (c.new_header-header.ensures ∙ ap header_for c.header.ensures) c.args.second.now c.create.new.disk c.begin_made-journal.result taken.result.journal
    begun.disk begun.header made.leaves made.tells made.moments.later made.moments made.counts.steady begun.new taken.ensures.goes made.counts.later)

pub returns-in-Ok-answer-clause-stop : goal.returns-in-Ok-answer-clause-stop
returns-in-Ok-answer-clause-stop g c =
    let given = subst (λ b. IfSome b (λ d. IsRead g.D.Disk.state g.L.Lent.lent (read_by c.name_and_fill-taken.result.answer) d.ghost_name d.now)) c.in-Some.is c.name_and_fill-taken.ensures.read in
    let read = subst (λ r. IsRead g.D.Disk.state g.L.Lent.lent (read_by r) c.in-Some.disk.ghost_name c.in-Some.disk.now) c.in-Ok-answer.is given in
    subst (λ s. IfSome s (EndsTexts g.L.Lent.lent.disk (g.D.Disk.state c.in-Some.disk.now))) (sym c.stop_of-stop.ensures)
    (read_ends g.D.Disk.state g.L.Lent.lent c.in-Some.disk.ghost_name c.in-Some.disk.now _ c.last_gate.result c.last_gate.ensures c.requires.old.last c.in-Ok-answer.cause read)

pub returns-in-Ok-answer-clause-taken : goal.returns-in-Ok-answer-clause-taken
returns-in-Ok-answer-clause-taken g c =
    let law = (g.met.E.Disk g.world.𝓛 g.world.𝓜 g.world.𝓡 ((λ s x. x), (λ x. x), (λ x. x), λ x. x)).lawful in
    let made = c.in_default-create.ensures in
    let begun = c.begin_made-journal.ensures in
    let taken = c.name_and_fill-taken in
    let files = c.args.old.now.archive.files in
    let js = c.as_mut_slice.result.now in
    let fills = ok_is _ taken.result.answer c.in-Ok-answer.cause c.in-Ok-answer.is taken.ensures.filled in
    let count : length js ≡ length files = ap length c.as_mut_slice.ensures.value ∙ c.in-Ok.ensures.count in
    let counted : length taken.new.jobs ≡ length js = did_counted MAX_ROWS c.in-Ok-answer.cause fills.mid taken.result.journal js taken.new.jobs fills.did in
    let whole = back_whole c.in-Ok.jobs.len taken.new.jobs c.in-Ok.jobs.items (omega (arith, c.in-Ok.jobs.ok.0)) (counted ∙ ap length c.as_mut_slice.ensures.value) in
    let back = c.second-in-Ok-answer-1.given.1 (sym (taken.ensures.goes.name ∙ begun.name)) in
    record {
      came = came_by files js taken.new.jobs;
      told = came_told files js taken.new.jobs c.report_jobs-reports.result.items count (subst (AreReports taken.new.jobs c.report_jobs-reports.result.items) (c.as_slice-files.ensures ∙ c.files.ensures) (subst (λ ks. AreReports ks c.report_jobs-reports.result.items c.as_slice-files.result.now) (c.as_slice.ensures.value ∙ whole) c.report_jobs-reports.ensures));
      takes = subst (λ s. TakesTexts MAX_ROWS s (header_for c.args.old.now.archive.header) (came_by files js taken.new.jobs) g.L.Lent.lent.disk (g.E.Disk.state c.args.second.now) (g.E.Disk.state c.second-in-Ok-answer-1.given.0)) (sym (c.stop_of-stop.ensures ∙ ap (λ last. option_map (stop_by last) c.in-Ok-answer.cause) c.last_gate.ensures))
          (subst (λ d. TakesTexts MAX_ROWS (option_map (stop_by (c.args.old.now.archive.end - 1)) c.in-Ok-answer.cause) (header_for c.args.old.now.archive.header) (came_by files js taken.new.jobs) g.L.Lent.lent.disk (g.E.Disk.state c.args.second.now) (g.E.Disk.state d)) (sym back)
          (into_texts law _ g.L.Lent.lent.disk c.requires.old.opens c.new_header-header.result (c.new_header-header.ensures ∙ ap header_for c.header.ensures) c.args.second.now c.create.new.disk c.begin_made-journal.result taken.result.journal
          begun.disk begun.header made.leaves made.tells made.moments.later made.moments made.counts.steady begun.new taken.ensures.goes
          c.one_list_of_parts.ensures.one MAX_ROWS (omega arith) (c.args.old.now.archive.end - 1) c.in-Ok-answer.cause js taken.new.jobs (subst (λ l. AreJobsOf g.L.Lent.lent.disk.seen files l) (sym c.as_mut_slice.ensures.value) c.in-Ok.ensures) fills));
    }

pub returns-clause-goes : goal.returns-clause-goes
returns-clause-goes g c =
    let law = (g.met.E.Disk g.world.𝓛 g.world.𝓜 g.world.𝓡 ((λ s x. x), (λ x. x), (λ x. x), λ x. x)).lawful in
    let made = c.in_default-create.ensures in
    let begun = c.begin_made-journal.ensures in
    let taken = c.name_and_fill-taken in
    let back = c.second-in-Err-answer-1.given.1 (sym (taken.ensures.goes.name ∙ begun.name)) in
    subst (λ d. DiskGoesOn (g.E.Disk.state c.args.second.now) (g.E.Disk.state d)) (sym back)
    (into_goes law _ g.L.Lent.lent.disk c.requires.old.opens c.new_header-header.result (c.new_header-header.ensures ∙ ap header_for c.header.ensures) c.args.second.now c.create.new.disk c.begin_made-journal.result taken.result.journal
    begun.disk begun.header made.leaves made.tells made.moments.later made.moments made.counts.steady begun.new taken.ensures.goes made.counts.later)

pub returns-clause-refused : goal.returns-clause-refused
returns-clause-refused g c =
    let law = (g.met.E.Disk g.world.𝓛 g.world.𝓜 g.world.𝓡 ((λ s x. x), (λ x. x), (λ x. x), λ x. x)).lawful in
    let made = c.in_default-create.ensures in
    let begun = c.begin_made-journal.ensures in
    let taken = c.name_and_fill-taken in
    let back = c.second-in-Err-answer-1.given.1 (sym (taken.ensures.goes.name ∙ begun.name)) in
    let names = err_is _ taken.result.answer c.in-Err-answer.refusal c.in-Err-answer.is taken.ensures.refused in
    subst (λ d. TakesNone (header_for c.args.old.now.archive.header) g.L.Lent.lent.disk (g.E.Disk.state c.args.second.now) (g.E.Disk.state d) c.from-in-Err-answer.result) (sym back)
    (subst (λ r. TakesNone (header_for c.args.old.now.archive.header) g.L.Lent.lent.disk (g.E.Disk.state c.args.second.now) (g.E.Disk.state taken.result.journal.disk.now) r) (sym c.from-in-Err-answer.ensures)
    (into_names law _ g.L.Lent.lent.disk c.requires.old.opens c.new_header-header.result (c.new_header-header.ensures ∙ ap header_for c.header.ensures) c.args.second.now c.create.new.disk c.begin_made-journal.result taken.result.journal
    begun.disk begun.header made.leaves made.tells made.moments.later made.moments made.counts.steady begun.new taken.ensures.goes c.in-Err-answer.refusal names.0 names.1))
