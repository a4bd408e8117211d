-- What follows for a row that has the numbers of another archive.
use Rattle.std.specs.Prelude.{ℕ, List}
use Rattle.column_store.specs.declared.row.Row.{Row}
use Rattle.row_codec.specs.Means.{IsCanonical}
use Rattle.row_rename.specs.Renamed.{IsRenamed}

-- it is there the encoding of the message that it is here the encoding of
abbrev pub RenamedMeansSame : Type 0
RenamedMeansSame =
    (version : ℕ) (row renamed : Row) (types words new_types new_words : List (List ℕ)) (message : List ℕ)
    → IsRenamed types words new_types new_words row renamed
    → IsCanonical version row types words message → IsCanonical version renamed new_types new_words message
