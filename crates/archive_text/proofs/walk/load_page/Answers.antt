use Rattle.std.proofs.Common.{rules, sym, ◌∙◌}
use Rattle.std.proofs.lemmas.List.{drop_all}
use Rattle.std.proofs.lemmas.Result.{err_from_is_err_and}
use Rattle.archive_text.specs.Ahead.{ahead}
use Rattle.archive_text.proofs.WritingLemmas.{page_goes, page_not}
use Rattle.archive_text.proofs.walk.load_page.Goals as goal

pub returns-in_err-walk-clause-damaged : goal.returns-in_err-walk-clause-damaged
returns-in_err-walk-clause-damaged g c = λ is types words bytes messages told ahead_is.
    let p = err_from_is_err_and c.from_residual.result c.from_residual.ensures.1 in
    page_not types words bytes _ (ahead c.args.walk.now) c.in-Some.pages told (sym c.take.ensures.value ∙ c.in-Some.is) (c.in_err-walk.ensures.damaged (search (rules, is, p.1, p.2))) messages ahead_is

pub returns-clause-goes : goal.returns-clause-goes
returns-clause-goes g c = λ types words bytes told.
    let walk = c.args.walk.now in
    page_goes types words bytes _ (ahead walk) c.in_ok-walk.field-0.rows c.in-Some.pages c.next_page.new.self walk.lines told (drop_all walk.row walk.columns.rows c.requires.done) (sym c.take.ensures.value ∙ c.in-Some.is) c.in_ok-walk.ensures.page
