use Rattle.std.proofs.Common.{refl, subst, sym}
use Rattle.archive_meaning.specs.declared.TheConstants.{MAX_ROWS}
use Rattle.file_outcomes.specs.Taken.{AreToldAs}
use Rattle.upgrade_command.proofs.AnswerLemmas.{files_taken, refused_files, refused_old}
use Rattle.upgrade_command.proofs.upgrade.upgrade_by.Goals as goal

pub returns-in-Ok-take_files-clause-answers : goal.returns-in-Ok-take_files-clause-answers
returns-in-Ok-take_files-clause-answers g c = λ content unread opens reads.
    files_taken MAX_ROWS _ (g.D.Disk.state c.args.disk.now) (g.D.Disk.state c.open_old.new.disk) (g.D.Disk.state c.take_files.new.disk) (g.E.Disk.state c.args.second.now) (g.E.Disk.state c.take_files.new.second) _ _ _ c.in-Ok.ensures.old c.open_old.ensures.keeps c.in-Ok.ensures.steady c.take_files.ensures.rests
    c.in-Ok-take_files.ended.stop c.in-Ok-take_files.ended.reports.items c.in-Ok-take_files.ensures.stop c.in-Ok-take_files.ensures.taken
    (c.print_files.ensures.prints c.in-Ok-take_files.ensures.taken.came (subst (AreToldAs c.in-Ok-take_files.ensures.taken.came) (sym c.as_slice.ensures.value) c.in-Ok-take_files.ensures.taken.told) content unread opens reads)

pub returns-in-Ok-clause-answers : goal.returns-in-Ok-clause-answers
returns-in-Ok-clause-answers g c = λ content unread opens reads.
    refused_files MAX_ROWS _ (g.D.Disk.state c.args.disk.now) (g.D.Disk.state c.open_old.new.disk) (g.D.Disk.state c.take_files.new.disk) (g.E.Disk.state c.args.second.now) (g.E.Disk.state c.take_files.new.second) _ _ _ c.in-Ok.ensures.old c.open_old.ensures.keeps c.in-Ok.ensures.steady c.take_files.ensures.rests
    c.in-Err-take_files.refusal (rw (← c.refusal_of_upgrade.ensures) c.report.ensures.status) (rw (← c.refusal_of_upgrade.ensures) c.report.ensures.said) refl refl c.in-Err-take_files.ensures.refused

pub returns-clause-answers : goal.returns-clause-answers
returns-clause-answers g c = λ content unread opens reads.
    refused_old MAX_ROWS _ (g.D.Disk.state c.args.disk.now) (g.D.Disk.state c.open_old.new.disk) (g.E.Disk.state c.args.second.now) _ c.in-Err.refusal (rw (← c.refusal_of_upgrade-in-Err.ensures) c.report-in-Err.ensures.status) (rw (← c.refusal_of_upgrade-in-Err.ensures) c.report-in-Err.ensures.said) refl refl c.open_old.ensures.keeps c.in-Err.ensures.refused
