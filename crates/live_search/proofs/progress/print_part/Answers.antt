use Rattle.std.proofs.Common.{◌+◌, subst}
use Rattle.std.proofs.lemmas.Result.{IfOk-weaker}
use Rattle.live_search.proofs.AnswerLemmas.{on_err_to}
use Rattle.printed_lines.specs.Lines.{numbered}
use Rattle.printed_lines.specs.Printed.{HasPrinted, HasPrintedFront}
use Rattle.live_search.proofs.HandleLemmas.{by_names, knows_by}
use Rattle.live_search.proofs.progress.print_part.Goals as goal

pub returns-clause-done : goal.returns-clause-done
returns-clause-done g c =
    let named = g.met.B.KeepsTexts.named c.args.progress.now.grown.names in
    IfOk-weaker c.print_segment.result _ _ (λ fits r yes knows version messages are.
    subst (λ n. HasPrinted c.args.progress.now.pattern (numbered n (c.args.head.now.first + 1) messages) (g.K.Sink.written c.args.out.now) (g.K.Sink.written c.print_segment.new.out)) c.name_of-name.ensures
    (r yes (knows_by _ _ (g.B.KeepsTexts.kept c.args.progress.now.grown.names) c.args.progress.now.pattern c.args.progress.now.sieve named.0 named.1 knows) version messages (by_names version c.args.columns.now.rows _ _ (g.B.KeepsTexts.kept c.args.progress.now.grown.names) messages named.0 named.1 are))) c.print_segment.ensures.done

pub returns-clause-misfit : goal.returns-clause-misfit
returns-clause-misfit g c =
    let named = g.met.B.KeepsTexts.named c.args.progress.now.grown.names in
    IfOk-weaker c.print_segment.result _ _ (λ fits r no version messages are.
    r no version messages (by_names version c.args.columns.now.rows _ _ (g.B.KeepsTexts.kept c.args.progress.now.grown.names) messages named.0 named.1 are)) c.print_segment.ensures.misfit

pub returns-clause-front : goal.returns-clause-front
returns-clause-front g c =
    let named = g.met.B.KeepsTexts.named c.args.progress.now.grown.names in
    on_err_to c.print_segment.result _ _ (λ r knows version messages are.
    subst (λ n. HasPrintedFront c.args.progress.now.pattern (numbered n (c.args.head.now.first + 1) messages) (g.K.Sink.written c.args.out.now) (g.K.Sink.written c.print_segment.new.out)) c.name_of-name.ensures
    (r (knows_by _ _ (g.B.KeepsTexts.kept c.args.progress.now.grown.names) c.args.progress.now.pattern c.args.progress.now.sieve named.0 named.1 knows) version messages (by_names version c.args.columns.now.rows _ _ (g.B.KeepsTexts.kept c.args.progress.now.grown.names) messages named.0 named.1 are))) c.print_segment.ensures.front
