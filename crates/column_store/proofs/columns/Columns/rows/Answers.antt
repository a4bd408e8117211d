use Rattle.std.proofs.Common.{◌≡◌, ap, ◌∙◌, rules, length, sym}
use Rattle.column_store.specs.Columns.{ColumnsState}
use Rattle.column_store.proofs.RowsLemmas.{length-rows_of}
use Rattle.column_store.proofs.columns.Columns.rows.Goals as goal

pub returns : goal.returns
returns c =
    let i = c.self.inside in
    let len : c.len.result ≡ length i.patterns.items = search rules in
    len
    ∙ sym (length-rows_of i.patterns.items i.moments.items i.types.items i.ends.items i.words.items)
    ∙ ap (λ (s : ColumnsState). length s.rows) c.self.view_is
