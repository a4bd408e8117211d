use Rattle.std.proofs.Common.{ap, ◌∙◌}
use Rattle.column_store.specs.Columns.{ColumnsState, ends_from}
use Rattle.column_store.proofs.RowsLemmas.{ends_are}
use Rattle.column_store.proofs.columns.Columns.ends.Goals as goal

pub returns : goal.returns
returns c =
    let i = c.self.inside in
    c.as_slice.ensures.value
    ∙ ends_are i.patterns.items i.moments.items i.types.items i.ends.items i.words.items i.bytes c.self.invariant
    ∙ ap (λ (s : ColumnsState). ends_from 0 s.rows) c.self.view_is
