-- What becomes of a store that adds several records.
use Rattle.std.specs.Prelude.{◌≡◌, ℕ, ◌+◌, ◌<◌, List, [], ◌∷◌, ◌++◌, length, map, take, None, Some}
use Rattle.disk_journal.specs.Record.{saved_of}
use Rattle.archive_meaning.specs.declared.entry.JournalEntry.{JournalEntry}
use Rattle.disk_seal.specs.declared.entry.StoreEntry.TheVariants.{Stopped}
use Rattle.disk_seal.specs.declared.pieces.Piece.{Piece}
use Rattle.disk_seal.specs.Told.{IfTold, entry_of, entry_for}
use Rattle.disk_seal.specs.View.{StoreState, tells, journal_of, store_entries}
use Rattle.disk_seal.specs.Adding.{Front, CanAdd}

-- the entries of framed records
abbrev pub added_by : List Piece → List JournalEntry
added_by [] = []
added_by (p ∷ ps) = entry_of (saved_of p.text) ∷ added_by ps

-- the bytes that they need
abbrev pub size_of : List Piece → ℕ
size_of [] = 0
size_of (p ∷ ps) = length p.text + size_of ps

-- what decides over the record behind one
abbrev pub front_with : Piece → Front → Front
front_with p f = record f {
  journal = f.journal ++ entry_of (saved_of p.text) ∷ [];
  place = f.place + length p.text;
  types_saved = f.types_saved + p.types;
  words_saved = f.words_saved + p.words;
}

-- each may follow those before it
abbrev pub CanFollow : List Piece → Front → Type 0
CanFollow [] f = Unit {0}
CanFollow (p ∷ ps) f = CanAdd p.text p.types p.words f × CanFollow ps (front_with p f)

-- all entries were added, with records of so many bytes
pub record AddsAll (size : ℕ) (es : List JournalEntry) (s t : StoreState) : Type 0 where
  pub place : t.place ≡ s.place + size
  pub stopped : t.stopped ≡ None
  pub journal : IfTold (tells s) (journal_of t ≡ journal_of s ++ es)
  pub entries : store_entries t ≡ store_entries s ++ map (entry_for (tells s)) es

-- the first of the entries were added, not all of them, and then a fault stopped the store
pub record AddsSome (es : List JournalEntry) (s t : StoreState) : Type 0 where
  pub k : ℕ
  pub below : k < length es
  pub stopped : t.stopped ≡ Some t.disk.faults
  pub journal : IfTold (tells s) (journal_of t ≡ journal_of s ++ take k es)
  pub entries : store_entries t ≡ store_entries s ++ (map (entry_for (tells s)) (take k es) ++ Stopped t.disk.faults ∷ [])
