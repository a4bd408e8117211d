use Rattle.std.proofs.Common.{rules, subst, All}
use Rattle.column_store.specs.Row.{IsRow}
use Rattle.column_store.specs.Columns.{ColumnsState}
use Rattle.column_store.proofs.RowsLemmas.{rows_fit}
use Rattle.column_store.proofs.columns.Columns.rows_fit.Goals as goal

pub returns : goal.returns
returns c =
    let i = c.self.inside in
    subst (λ (s : ColumnsState). All IsRow s.rows) c.self.view_is
    (rows_fit i.patterns.items i.moments.items i.types.items i.ends.items i.words.items i.bytes c.self.invariant
    (search rules) (search rules) (search rules) (search rules))
