use Rattle.std.proofs.Common.{refl}
use Rattle.upgrade_command.proofs.AnswerLemmas.{printed_on, printed_stop}
use Rattle.upgrade_command.proofs.upgrade.print_files.Goals as goal

pub returns-in-Some-clause-prints : goal.returns-in-Some-clause-prints
returns-in-Some-clause-prints g c = λ came told content unread opens reads.
    rw c.in-Some.is (printed_stop _ _ c.in-Some.refusal came (rw (← c.refusal_of_upgrade.ensures) c.report.ensures.status) (rw (← c.refusal_of_upgrade.ensures) c.report.ensures.said) refl refl)

pub returns-in-None-clause-prints : goal.returns-in-None-clause-prints
returns-in-None-clause-prints g c = λ came told content unread opens reads.
    printed_on _ _ c.args.stop came c.in-None.is (c.print_taken.ensures.prints came told content unread (λ name. (opens name, opens name)) (λ name. (reads name, reads name)))
