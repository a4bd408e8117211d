use Rattle.std.proofs.Common.{ap, ◌∙◌}
use Rattle.std.specs.List.{flat_map}
use Rattle.column_store.specs.Columns.{ColumnsState}
use Rattle.column_store.proofs.RowsLemmas.{words_are}
use Rattle.column_store.proofs.columns.Columns.words.Goals as goal

pub returns : goal.returns
returns c =
    let i = c.self.inside in
    c.as_slice.ensures.value
    ∙ words_are i.patterns.items i.moments.items i.types.items i.ends.items i.words.items i.bytes c.self.invariant
    ∙ ap (λ (s : ColumnsState). flat_map (λ r. r.words) s.rows) c.self.view_is
