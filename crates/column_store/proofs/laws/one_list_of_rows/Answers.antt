use Rattle.std.proofs.Common.{sym, ◌∙◌}
use Rattle.column_store.proofs.RowsLemmas.{one_list}
use Rattle.column_store.proofs.laws.one_list_of_rows.Goals as goal

pub returns : goal.returns
returns c = λ rows others a are others_are.
    one_list rows others (sym are.patterns ∙ others_are.patterns) (sym are.moments ∙ others_are.moments) (sym are.types ∙ others_are.types) (sym are.counts ∙ others_are.counts)
    (sym are.words ∙ others_are.words)
