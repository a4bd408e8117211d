use Rattle.std.proofs.Common.{◌∙◌, ap}
use Rattle.std.specs.Prelude.{is_ok}
use Rattle.std.proofs.lemmas.Result.{err_from_is_err_and}
use Rattle.bench_command.proofs.SummaryLemmas.{printed_all, printed_front, printed_none}
use Rattle.bench_command.proofs.summary.summarize.Goals as goal

pub returns-in_err-report-clause-prints : goal.returns-in_err-report-clause-prints
returns-in_err-report-clause-prints g c =
    let p = err_from_is_err_and c.from_residual.result c.from_residual.ensures.1 in
    printed_none (is_ok c.from_residual.result) c.args.messages _ _ (ap is_ok p.1)

pub returns-in_err-line-clause-prints : goal.returns-in_err-line-clause-prints
returns-in_err-line-clause-prints g c =
    let p = err_from_is_err_and c.from_residual-in_err-line.result c.from_residual-in_err-line.ensures.1 in
    printed_none (is_ok c.from_residual-in_err-line.result) c.args.messages _ _ (ap is_ok p.1)

pub returns-in_err-write_all-clause-prints : goal.returns-in_err-write_all-clause-prints
returns-in_err-write_all-clause-prints g c =
    let p = err_from_is_err_and c.from_residual-in_err-write_all.result c.from_residual-in_err-write_all.ensures.1 in
    printed_front (is_ok c.from_residual-in_err-write_all.result) c.args.messages _ _ _ c.as_slice.result.now c.in_ok-report.report (ap is_ok p.1) c.in_ok-report.ensures.counted (c.as_slice.ensures.value ∙ c.in_ok-line.ensures) c.in_err-write_all.ensures.err

pub returns-clause-prints : goal.returns-clause-prints
returns-clause-prints g c =
    printed_all c.args.messages _ _ _ c.as_slice.result.now c.in_ok-report.report c.in_ok-report.ensures.counted (c.as_slice.ensures.value ∙ c.in_ok-line.ensures) c.in_ok-write_all.ensures.ok
