use Rattle.std.proofs.Common.{rules, subst, sym, ◌∙◌}
use Rattle.std.proofs.lemmas.Result.{err_from_is_err_and}
use Rattle.record_format.specs.Header.{IsHeader}
use Rattle.archive_open.proofs.OpenLemmas.{start_refused}
use Rattle.archive_open.proofs.ReadLemmas.{start_damaged_from}
use Rattle.std.proofs.lemmas.Result.{IfOk-weaker}
use Rattle.upgrade_command.proofs.old.open_headed.Goals as goal

pub returns-in_err-header-clause-damaged : goal.returns-in_err-header-clause-damaged
returns-in_err-header-clause-damaged g c = λ at is.
    let p = err_from_is_err_and c.from_residual.result c.from_residual.ensures.1 in
    start_refused at (g.D.Disk.state c.args.disk.now) (c.in_err-header.ensures.damaged at (search (rules, is, p.1, p.2, start_damaged_from)))

pub returns-clause-header : goal.returns-clause-header
returns-clause-header g c = IfOk-weaker c.open_for_append.result _ _ (λ a same. subst IsHeader (sym (same ∙ c.begin-journal.ensures.header)) c.in_ok-header.ensures.begins.legal) c.open_for_append.ensures.header
