-- Where the log types, the words and the heads of a journal stand.
use Rattle.std.specs.Prelude.{ℕ, List, All}
use Rattle.record_format.specs.declared.header.Header.{Header}
use Rattle.archive_meaning.specs.declared.entry.JournalEntry.{JournalEntry}
use Rattle.archive_meaning.specs.Stands.{StandsFor}
use Rattle.archive_open.specs.Shown.{places_of}
use Rattle.word_places.specs.Places.{AreWords}
use Rattle.archive_places.specs.Heads.{HasHeadAt}
use Rattle.archive_places.specs.Words.{types_places_of, words_places_of}

-- bytes that stand for a journal have its log types at the places of its records of log types
abbrev pub TypesStand : Type 0
TypesStand =
    (bytes : List ℕ) (h : Header) (es : List JournalEntry) (stood : StandsFor bytes h es)
    → AreWords 0 (types_places_of es) bytes stood.legal.held.types

-- its words at those of its records of words
abbrev pub WordsStand : Type 0
WordsStand =
    (bytes : List ℕ) (h : Header) (es : List JournalEntry) (stood : StandsFor bytes h es)
    → AreWords 0 (words_places_of es) bytes stood.legal.held.words

-- and the head of each of its segments where that segment's payload begins
abbrev pub HeadsStand : Type 0
HeadsStand = (bytes : List ℕ) (h : Header) (es : List JournalEntry) → StandsFor bytes h es → All (HasHeadAt bytes) (places_of es)
