-- What a row means depends on no other texts than those that its numbers name.
use Rattle.std.specs.Prelude.{◌≡◌, ℕ, List, Contains, slice_get}
use Rattle.column_store.specs.declared.row.Row.{Row}
use Rattle.row_codec.specs.Means.{IsCanonical, IsSpelling, Means}
use Rattle.row_codec.specs.Numbers.{numbers_of_row}

-- both lists have the same text at each of the numbers, or both have none
abbrev pub Agree : List ℕ → List (List ℕ) → List (List ℕ) → Type 0
Agree numbers a b = (n : ℕ) → Contains numbers n → slice_get a n ≡ slice_get b n

-- what a row is written as is the same by all words that agree at its numbers
abbrev pub SpellingIsLocal : Type 0
SpellingIsLocal =
    (row : Row) (types a b : List (List ℕ)) (message : List ℕ)
    → Agree (numbers_of_row types row) a b → IsSpelling row types a message → IsSpelling row types b message

-- what it means too
abbrev pub MeaningIsLocal : Type 0
MeaningIsLocal =
    (row : Row) (types a b : List (List ℕ)) (message : List ℕ)
    → Agree (numbers_of_row types row) a b → Means row types a message → Means row types b message

-- and whether it is the encoding of a message
abbrev pub EncodingIsLocal : Type 0
EncodingIsLocal =
    (version : ℕ) (row : Row) (types a b : List (List ℕ)) (message : List ℕ)
    → Agree (numbers_of_row types row) a b → IsCanonical version row types a message → IsCanonical version row types b message

-- ---- nor on other log types than its own

-- both lists have the same log type of a row, or both have none
abbrev pub HaveType : Row → List (List ℕ) → List (List ℕ) → Type 0
HaveType row a b = slice_get a row.log_type ≡ slice_get b row.log_type

-- which words a row has is the same by all log types that have its own
abbrev pub NumbersAreOfType : Type 0
NumbersAreOfType = (row : Row) (a b : List (List ℕ)) → HaveType row a b → numbers_of_row a row ≡ numbers_of_row b row

-- what it is written as is
abbrev pub SpellingIsOfType : Type 0
SpellingIsOfType =
    (row : Row) (a b words : List (List ℕ)) (message : List ℕ) → HaveType row a b
    → IsSpelling row a words message → IsSpelling row b words message

-- what it means
abbrev pub MeaningIsOfType : Type 0
MeaningIsOfType =
    (row : Row) (a b words : List (List ℕ)) (message : List ℕ) → HaveType row a b
    → Means row a words message → Means row b words message

-- and whether it is the encoding of a message
abbrev pub EncodingIsOfType : Type 0
EncodingIsOfType =
    (version : ℕ) (row : Row) (a b words : List (List ℕ)) (message : List ℕ) → HaveType row a b
    → IsCanonical version row a words message → IsCanonical version row b words message
