-- Where the records of log types and of words stand among the entries of a journal.
use Rattle.std.specs.Prelude.{ℕ, ◌+◌, List, [], ◌∷◌, ◌++◌, length}
use Rattle.record_format.specs.Lists.{texts_payload}
use Rattle.row_codec.specs.declared.namer.Which.{Which}
use Rattle.row_codec.specs.declared.namer.Which.TheVariants as which
use Rattle.archive_meaning.specs.declared.entry.JournalEntry.{JournalEntry}
use Rattle.archive_meaning.specs.declared.entry.JournalEntry.TheVariants.{Files, Types, Words, Segment}
use Rattle.archive_meaning.specs.Spelled.{record_of, types_in}
use Rattle.word_places.specs.declared.place.WordsPlace.{WordsPlace}

-- the place of a record of texts whose gate is at a place
abbrev pub texts_place : ℕ → ℕ → List (List ℕ) → WordsPlace
texts_place at first texts = record {
  payload = at + 10;
  length = length (texts_payload first texts);
  first = first;
  count = length texts;
}

-- an entry whose gate is at a place, as a record of log types or as one of words
abbrev pub texts_placed : Which → ℕ → JournalEntry → List WordsPlace
texts_placed kind at (Files names) = []
texts_placed which.Types at (Types first texts) = texts_place at first texts ∷ []
texts_placed which.Words at (Types first texts) = []
texts_placed which.Types at (Words first texts) = []
texts_placed which.Words at (Words first texts) = texts_place at first texts ∷ []
texts_placed kind at (Segment s) = []

-- those of entries, the first of which has its gate at a place, behind entries with these log types
abbrev pub texts_from : Which → ℕ → List (List ℕ) → List JournalEntry → List WordsPlace
texts_from kind at types [] = []
texts_from kind at types (e ∷ es) =
    texts_placed kind at e ++ texts_from kind (at + 10 + length (record_of types e).payload) (types ++ types_in e) es

abbrev pub types_places_of : List JournalEntry → List WordsPlace
types_places_of es = texts_from which.Types 32 [] es

abbrev pub words_places_of : List JournalEntry → List WordsPlace
words_places_of es = texts_from which.Words 32 [] es
