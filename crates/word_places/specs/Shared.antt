-- Words of a share that are taken in.
use Rattle.std.specs.Prelude.{ℕ, List, [], ◌∷◌, Option, Some, None}
use Rattle.word_places.specs.declared.held.HeldRecord.{HeldRecord}

-- the first words that are there
abbrev pub words_first : Option (List (List ℕ)) → Option (List (List ℕ)) → Option (List (List ℕ))
words_first None others = others
words_first (Some words) others = Some words

-- a record, with these words if it has none
abbrev pub with_words : HeldRecord → Option (List (List ℕ)) → HeldRecord
with_words r words = record { place = r.place; words = words_first r.words words }

-- each record, with the words of the other one at its place if it has none
abbrev pub taken_each : List HeldRecord → List HeldRecord → List HeldRecord
taken_each [] others = []
taken_each (r ∷ records) [] = r ∷ records
taken_each (r ∷ records) (s ∷ others) = with_words r s.words ∷ taken_each records others
