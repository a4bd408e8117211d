use Rattle.std.proofs.Common.{refl, subst}
use Rattle.column_store.specs.declared.arrays.Arrays.{Arrays}
use Rattle.column_store.specs.Columns.{ColumnsState, AreArraysOf}
use Rattle.column_store.proofs.RowsLemmas.{arrays_of_ends}
use Rattle.column_store.proofs.columns.Columns.into_arrays.Goals as goal

pub returns : goal.returns
returns c =
    let i = c.self.inside in
    let a : Arrays = record { patterns = i.patterns; moments = i.moments; types = i.types; counts = c.ends_to_counts.result; words = i.words } in
    subst (λ (s : ColumnsState). AreArraysOf s.rows a) c.self.view_is
    (arrays_of_ends i.patterns.items i.moments.items i.types.items i.ends.items i.words.items i.bytes c.self.invariant a refl refl refl refl
    c.ends_to_counts.ensures.length c.ends_to_counts.ensures.counts)
