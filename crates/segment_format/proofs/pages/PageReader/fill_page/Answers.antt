use Rattle.std.proofs.Common.{◌≡◌, ℕ, List, sym, subst, arith}
use Rattle.std.proofs.lemmas.Result.{err_from_is_err_and}
use Rattle.column_store.specs.Row.{variable_count}
use Rattle.segment_format.specs.Spelled.{AreColumnsIn}
use Rattle.segment_format.proofs.PagesLemmas.{page_length}
use Rattle.segment_format.proofs.pages.PageReader.fill_page.Goals as goal

pub returns-in_err-page-clause-malformed : goal.returns-in_err-page-clause-malformed
returns-in_err-page-clause-malformed c =
    let p = err_from_is_err_and c.from_residual-in_err-page.result c.from_residual-in_err-page.ensures.1 in
    λ was rows is.
    let bytes : List ℕ = c.args.bytes.now in
    let n : ℕ = c.page_rows-rows.result in
    let same : variable_count rows ≡ c.in_ok-words.words =
    omega (arith, page_length c.args.self.now bytes rows is, c.in_ok-words.ensures.length, c.page_rows-rows.ensures) in
    let counted : AreColumnsIn bytes n (variable_count rows) rows = subst (λ (k : ℕ). AreColumnsIn bytes k (variable_count rows) rows) (sym c.page_rows-rows.ensures) is.columns in
    c.columns_in.ensures.malformed (cc (c.in_err-page.was, p.1, p.2)) rows (subst (λ (k : ℕ). AreColumnsIn bytes n k rows) same counted)
