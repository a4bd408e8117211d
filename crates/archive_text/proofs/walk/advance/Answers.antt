use Rattle.std.proofs.Common.{rules}
use Rattle.std.proofs.lemmas.Result.{err_from_is_err_and}
use Rattle.archive_text.proofs.walk.advance.Goals as goal

pub returns-in_err-load_page-clause-damaged : goal.returns-in_err-load_page-clause-damaged
returns-in_err-load_page-clause-damaged g c = λ is types words.
    let p = err_from_is_err_and c.from_residual.result c.from_residual.ensures.1 in
    c.in_err-load_page.ensures.damaged (search (rules, is, p.1, p.2)) types words

pub returns-clause-damaged : goal.returns-clause-damaged
returns-clause-damaged g c = λ is types words bytes messages told. c.open_next.ensures.damaged is types words messages bytes
