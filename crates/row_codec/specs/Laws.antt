-- What follows of the meaning of rows.
use Rattle.std.specs.Prelude.{◌≡◌, ℕ, List}
use mathlib.Core.List.{IsPrefix}
use Rattle.column_store.specs.declared.row.Row.{Row}
use Rattle.row_codec.specs.Means.{IsCanonical, IsSpelling, Means}
use Rattle.plain_list.specs.Texts.{AreDistinct}

-- a row that is the encoding of a message stays so when texts are added to the dictionaries
abbrev pub CanonicalStays : Type 0
CanonicalStays =
    (version : ℕ) (row : Row) (types words more_types more_words : List (List ℕ)) (message : List ℕ)
    → IsPrefix types more_types → IsPrefix words more_words
    → IsCanonical version row types words message → IsCanonical version row more_types more_words message

-- a row that means a message is written as it
abbrev pub MeaningIsSpelling : Type 0
MeaningIsSpelling =
    (row : Row) (types words : List (List ℕ)) (message : List ℕ)
    → Means row types words message → IsSpelling row types words message

-- a row is written as one message
abbrev pub OneSpelling : Type 0
OneSpelling =
    (row : Row) (types words : List (List ℕ)) (a b : List ℕ)
    → IsSpelling row types words a → IsSpelling row types words b → a ≡ b

-- a row means one message
abbrev pub OneMeaning : Type 0
OneMeaning =
    (row : Row) (types words : List (List ℕ)) (a b : List ℕ)
    → Means row types words a → Means row types words b → a ≡ b

-- a message has one row where no text has two numbers
abbrev pub OneRow : Type 0
OneRow =
    (version : ℕ) (a b : Row) (types words : List (List ℕ)) (message : List ℕ)
    → AreDistinct types → AreDistinct words
    → IsCanonical version a types words message → IsCanonical version b types words message → a ≡ b

-- what a row that is the encoding of a message is written as is that message
abbrev pub RowsReturn : Type 0
RowsReturn =
    (version : ℕ) (row : Row) (types words : List (List ℕ)) (message text : List ℕ)
    → IsCanonical version row types words message → IsSpelling row types words text → text ≡ message
