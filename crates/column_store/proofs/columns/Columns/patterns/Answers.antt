use Rattle.std.proofs.Common.{sym, ap, ◌∙◌, refl, map}
use Rattle.column_store.specs.Columns.{ColumnsState}
use Rattle.column_store.proofs.RowsLemmas.{field-rows_of}
use Rattle.column_store.proofs.columns.Columns.patterns.Goals as goal

pub returns : goal.returns
returns c =
    let i = c.self.inside in
    c.as_slice.ensures.value
    ∙ sym (field-rows_of (λ r. r.pattern) i.patterns.items 0 i.patterns.items i.moments.items i.types.items i.ends.items i.words.items refl (λ k lt. refl))
    ∙ ap (λ (s : ColumnsState). map (λ r. r.pattern) s.rows) c.self.view_is
