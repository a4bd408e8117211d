-- The numbers of dictionary words that a row has.
use Rattle.std.specs.Prelude.{ℕ, Bool, true, false, List, [], ◌∷◌, slice_index_or, if◌then◌else◌, ◌==◌}
use Rattle.logtype_text.specs.declared.symbols.Kind.{Kind}
use Rattle.logtype_text.specs.declared.symbols.Kind.TheVariants.{Whole, Word, Decimal}
use Rattle.column_store.specs.declared.row.Row.{Row}

-- the kinds of the slots of a log type's text, from the left; `escaped` tells that a `\` stands before it
abbrev pub kinds_from : Bool → List ℕ → List Kind
kinds_from escaped [] = []
kinds_from true (b ∷ text) = kinds_from false text
kinds_from false (b ∷ text) =
    if b == 0x5C then kinds_from true text
    else (if b == 0x11 then Whole ∷ kinds_from false text
    else (if b == 0x12 then Word ∷ kinds_from false text
    else (if b == 0x13 then Decimal ∷ kinds_from false text else kinds_from false text)))

-- the words at slots of this kind are numbers of the dictionary
abbrev pub word_numbers : List Kind → List ℕ → List ℕ
word_numbers [] row = []
word_numbers (kind ∷ kinds) [] = []
word_numbers (Word ∷ kinds) (word ∷ row) = word ∷ word_numbers kinds row
word_numbers (Whole ∷ kinds) (word ∷ row) = word_numbers kinds row
word_numbers (Decimal ∷ kinds) (word ∷ row) = word_numbers kinds row

-- a row's dictionary numbers from left to right
abbrev pub numbers_of_row : List (List ℕ) → Row → List ℕ
numbers_of_row types row = word_numbers (kinds_from false (slice_index_or types row.log_type [])) row.words
