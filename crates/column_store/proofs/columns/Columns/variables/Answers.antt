use Rattle.std.proofs.Common.{◌≡◌, ap, ◌∙◌, rules, length}
use Rattle.column_store.specs.Row.{variable_count}
use Rattle.column_store.specs.Columns.{ColumnsState}
use Rattle.column_store.proofs.RowsLemmas.{variables_are}
use Rattle.column_store.proofs.columns.Columns.variables.Goals as goal

pub returns : goal.returns
returns c =
    let i = c.self.inside in
    let len : c.len.result ≡ length i.words.items = search rules in
    len
    ∙ variables_are i.patterns.items i.moments.items i.types.items i.ends.items i.words.items i.bytes c.self.invariant
    ∙ ap (λ (s : ColumnsState). variable_count s.rows) c.self.view_is
