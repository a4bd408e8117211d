use Rattle.file_outcomes.proofs.PrintLemmas.{printed_all, printed_short}
use Rattle.file_outcomes.proofs.file_report.print_taken.Goals as goal

pub returns-in-Ok-clause-prints : goal.returns-in-Ok-clause-prints
returns-in-Ok-clause-prints g c = λ came told content unread opens reads.
    printed_all _ _ c.args.first came c.args.files.now told c.in-Ok.ensures.ok c.report_taken.ensures.status c.report_taken.ensures.said c.in-Ok.ensures.cause.steady

pub returns-in-Err-clause-prints : goal.returns-in-Err-clause-prints
returns-in-Err-clause-prints g c = λ came told content unread opens reads.
    printed_short _ _ c.args.first came c.args.files.now told c.print_directory.result c.in-Err.refusal c.in-Err.is c.print_directory.ensures.cause
    c.in-Err.ensures.err (rw (← c.refusal_of_print.ensures) c.report.ensures.status) (rw (← c.refusal_of_print.ensures) c.report.ensures.said)
