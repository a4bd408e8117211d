use Rattle.std.proofs.Common.{rules}
use Rattle.printed_lines.proofs.AnswerLemmas.{on_err}
use Rattle.printed_lines.proofs.RowLemmas.{gathered_cut, gathered_sent}
use Rattle.printed_lines.proofs.rows.print_segment.Goals as goal

pub returns-in_err-flush-clause-front : goal.returns-in_err-flush-clause-front
returns-in_err-flush-clause-front g c = on_err c.from_residual-in_err-flush.result _ (λ knows version messages are.
    gathered_cut c.args.pattern.now _ _ _ _ _ (c.in_ok-print_rows.ensures.done (search rules) knows version messages are) c.in_err-flush.ensures.err)

pub returns-clause-done : goal.returns-clause-done
returns-clause-done g c = λ _ knows version messages are.
    gathered_sent c.args.pattern.now _ _ _ _ _ (c.in_ok-print_rows.ensures.done (search rules) knows version messages are) c.in_ok-flush.ensures.ok
