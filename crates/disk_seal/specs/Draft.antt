-- When a draft may become the next segment of its file.
use Rattle.std.specs.Prelude.{◌≡◌, ℕ, ◌<◌, List, [], ◌∷◌, length}
use Rattle.record_format.specs.declared.header.Header.{Header}
use Rattle.archive_meaning.specs.declared.entry.SegmentEntry.{SegmentEntry}
use Rattle.archive_meaning.specs.declared.entry.JournalEntry.{JournalEntry}
use Rattle.archive_meaning.specs.Held.{Held, nothing_held}
use Rattle.archive_meaning.specs.Legal.{Run, AddsSegment}
use Rattle.archive_meaning.specs.Spelled.{words_named}
use Rattle.disk_seal.specs.declared.entry.StoreEntry.{StoreEntry}
use Rattle.disk_seal.specs.declared.entry.StoreEntry.TheVariants.{Entry, Blank, Stopped}

-- the entries of a journal that stand in a store's list
abbrev pub journal_seen : List StoreEntry → List JournalEntry
journal_seen [] = []
journal_seen (Entry e ∷ es) = e ∷ journal_seen es
journal_seen (Blank ∷ es) = journal_seen es
journal_seen (Stopped now ∷ es) = journal_seen es

-- Behind these entries and with these texts the segment goes on with its file, which has a name: its rows are the encodings
-- of some messages, and the numbers are those of the words that they name, sorted, each once.
pub record MayFollow (h : Header) (es : List JournalEntry) (types words : List (List ℕ)) (s : SegmentEntry) (numbers : List ℕ)
    : Type 0 where
  pub held : Held
  pub run : Run h nothing_held es held
  pub named : s.file < length held.names
  pub messages : List (List ℕ)
  pub adds : AddsSegment h.version (record held { types = types; words = words }) s messages
  pub are : numbers ≡ words_named types s.rows
