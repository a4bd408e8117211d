-- Rows that were put together in an array.
use Rattle.std.proofs.Common.{◌≡◌, ℕ, List}
use Rattle.std.specs.Prelude.{IfOk, IfNone, Option, None, Some, Result, Ok, Err, slice_get}
use Rattle.column_store.specs.declared.row.Row.{Row}
use Rattle.row_codec.specs.Means.{HasSpelling}
use Rattle.row_codec.specs.StepsBody.{HasBody}
use Rattle.row_codec.proofs.BodyLemmas.{spelling_body}

-- a row cannot be written where its body cannot
pub row_misfit : {E : Type 0} (answer : Result (Option ℕ) E) (row : Row) (types words : List (List ℕ)) (text : List ℕ) → slice_get types row.log_type ≡ Some text
    → IfOk answer (λ laid. IfNone laid (¬ HasBody words text row.words)) → IfOk answer (λ laid. IfNone laid (¬ HasSpelling row types words))
row_misfit (Err error) row types words text at none = tt
row_misfit (Ok (Some end)) row types words text at none = tt
row_misfit (Ok None) row types words text at none = λ has. none (spelling_body row types words text at has)
