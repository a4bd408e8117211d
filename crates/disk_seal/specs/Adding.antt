-- What becomes of a store that adds records to its journal.
use Rattle.std.specs.Prelude.{◌≡◌, ℕ, ◌+◌, ◌<◌, ◌≤◌, ◌^◌, Bool, List, [], ◌∷◌, ◌++◌, length, take, drop, None, Some}
use Rattle.log_seams.specs.Disk.{LeavesOnly}
use Rattle.turn_lock.specs.Words.{seen}
use Rattle.dict_lock.specs.Shared.{BookPass}
use Rattle.record_format.specs.declared.header.Header.{Header}
use Rattle.disk_journal.specs.Record.{Saved, IsFrame, saved_of}
use Rattle.archive_meaning.specs.declared.entry.JournalEntry.{JournalEntry}
use Rattle.archive_meaning.specs.Spelled.{record_of, types_in, types_of}
use Rattle.archive_meaning.specs.Stands.{IsLegal}
use Rattle.disk_seal.specs.declared.entry.StoreEntry.TheVariants.{Stopped}
use Rattle.disk_seal.specs.Told.{IfTold, entry_of, entry_for}
use Rattle.ingest_meaning.specs.WordsIn.{words_in}
use Rattle.disk_seal.specs.View.{StoreView, StoreState, tells, journal_of, store_entries, Image}

-- what no call on a store changes but those on its books
pub record Stays {D : Type 0} (v w : StoreView D) : Type 0 where
  pub name : w.name ≡ v.name
  pub opened : w.opened ≡ v.opened
  pub faults : w.faults ≡ v.faults
  pub header : w.header ≡ v.header
  pub first : w.first ≡ v.first
  pub types : w.types ≡ v.types
  pub words : w.words ≡ v.words

-- the record may follow these entries: it is spelled as its entry is behind them, and they are legal with it
pub record IsNext (h : Header) (es : List JournalEntry) (r : Saved) : Type 0 where
  pub form : record_of (types_of es) (entry_of r) ≡ r
  pub legal : IsLegal h (es ++ entry_of r ∷ [])

-- a record saves so many texts more, the next ones that the pass has seen
pub record Saves (told : Bool) (p : BookPass) (saved more : ℕ) (texts : List (List ℕ)) : Type 0 where
  pub low : saved + more ≤ length (seen p)
  pub small : saved + more < 2 ^ 32
  pub these : IfTold told (take more (drop saved (seen p)) ≡ texts)

-- What decides over the next record: whether entries are told, the header, the entries so far, the place of the gate,
-- the passes of the books, and how many of their texts are saved.
pub record Front : Type 0 where
  pub told : Bool
  pub header : Header
  pub journal : List JournalEntry
  pub place : ℕ
  pub types : BookPass
  pub words : BookPass
  pub types_saved : ℕ
  pub words_saved : ℕ

abbrev pub front_of : StoreState → Front
front_of s = record {
  told = tells s;
  header = s.header;
  journal = journal_of s;
  place = s.place;
  types = s.types;
  words = s.words;
  types_saved = s.types_saved;
  words_saved = s.words_saved;
}

-- a framed text may be appended as the next record, which saves so many texts more of each book
pub record CanAdd (text : List ℕ) (more_types more_words : ℕ) (f : Front) : Type 0 where
  pub framed : IsFrame text
  pub next : IfTold f.told (IsNext f.header f.journal (saved_of text))
  pub room : f.place + 1 + length text ≤ f.header.length_limit
  pub of_types : Saves f.told f.types f.types_saved more_types (types_in (entry_of (saved_of text)))
  pub of_words : Saves f.told f.words f.words_saved more_words (words_in (entry_of (saved_of text)))

-- the journal has one entry more, whose record took so many bytes, and so many texts more are saved
pub record HasOneMore (size types words : ℕ) (e : JournalEntry) (s t : StoreState) : Type 0 where
  pub count : t.count ≡ s.count + 1
  pub place : t.place ≡ s.place + size
  pub types_saved : t.types_saved ≡ s.types_saved + types
  pub words_saved : t.words_saved ≡ s.words_saved + words
  pub stopped : t.stopped ≡ None
  pub journal : IfTold (tells s) (journal_of t ≡ journal_of s ++ e ∷ [])
  pub entries : store_entries t ≡ store_entries s ++ entry_for (tells s) e ∷ []

-- a fault stopped it, and the journal is as it was
pub record HasStopped (s t : StoreState) : Type 0 where
  pub stopped : t.stopped ≡ Some t.disk.faults
  pub journal : journal_of t ≡ journal_of s
  pub entries : store_entries t ≡ store_entries s ++ Stopped t.disk.faults ∷ []

-- a crash at any moment leaves the journal of before, with none, the first, .. or all of the entries
abbrev pub LeavesFirst : List JournalEntry → StoreState → StoreState → Type 0
LeavesFirst es s t = LeavesOnly s.disk t.disk (Image s s.count (journal_of s ++ es))
