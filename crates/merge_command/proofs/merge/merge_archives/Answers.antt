use Rattle.std.proofs.Common.{refl, subst}
use Rattle.command_answers.specs.Merging.{TellsInOrder}
use Rattle.file_outcomes.proofs.KnownLemmas.{are_archive}
use Rattle.merge_command.specs.Came.{merge_by, merge_of}
use Rattle.merge_command.proofs.AnswerLemmas.{answers, refused_all}
use Rattle.merge_command.proofs.merge.merge_archives.Goals as goal

pub add_lent-requires : goal.add_lent-requires
add_lent-requires g c = record { archive = λ are. are_archive g.B.Base.archive (g.D.Disk.state c.args.disk.now).seen are }

pub returns-in-Ok-clause-answers : goal.returns-in-Ok-clause-answers
returns-in-Ok-clause-answers g c = λ content unread opens reads.
    let old = g.D.Disk.state c.args.disk.now in
    let new = g.D.Disk.state c.add_lent.new.disk in
    answers g.B.Base.archive _ old new (g.E.Disk.state c.args.second.now) (g.E.Disk.state c.add_lent.new.second) _ (merge_of c.in-Ok.came) c.in-Ok.came.first
    c.in-Ok.ensures.came (subst (λ r. TellsInOrder (merge_by r) old new) c.in-Ok.is c.add_lent.ensures.in_order) (c.print_came.ensures.prints content unread opens reads)

pub returns-in-Err-clause-answers : goal.returns-in-Err-clause-answers
returns-in-Err-clause-answers g c = λ content unread opens reads.
    let old = g.D.Disk.state c.args.disk.now in
    let new = g.D.Disk.state c.add_lent.new.disk in
    refused_all g.B.Base.archive _ old new (g.E.Disk.state c.args.second.now) (g.E.Disk.state c.add_lent.new.second) _ c.in-Err.refusal
    c.report_merge.ensures.status c.report_merge.ensures.said refl refl c.in-Err.ensures.refused (subst (λ r. TellsInOrder (merge_by r) old new) c.in-Err.is c.add_lent.ensures.in_order)
