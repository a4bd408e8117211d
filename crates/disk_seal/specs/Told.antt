-- What holds where a disk tells its bytes, and the entries that these bytes are told by.
use Rattle.std.specs.Prelude.{ℕ, zero, suc, Bool, true, false, List, [], ◌∷◌, map, Option, Some, None}
use Rattle.disk_journal.specs.Record.{Saved}
use Rattle.disk_journal.specs.Place.{entries}
use Rattle.archive_meaning.specs.Back.{entry_in}
use Rattle.archive_meaning.specs.declared.entry.JournalEntry.{JournalEntry}
use Rattle.disk_seal.specs.declared.entry.StoreEntry.{StoreEntry}
use Rattle.disk_seal.specs.declared.entry.StoreEntry.TheVariants.{Entry, Blank, Stopped}

-- it holds where the bytes are told; else nothing is said
abbrev pub IfTold : Bool → Type 0 → Type 0
IfTold false P = Unit {0}
IfTold true P = P

-- the entry that a record is of
unfoldable pub entry_of : Saved → JournalEntry
entry_of r = entry_in r

-- the first n entries that the bytes stand for; none where they are not told
abbrev pub journal_in : Option (List ℕ) → ℕ → List JournalEntry
journal_in told n = map entry_of (entries told n)

abbrev pub blanks : ℕ → List StoreEntry
blanks zero = []
blanks (suc n) = Blank ∷ blanks n

-- an entry of the store for each record
abbrev pub recorded : Option (List ℕ) → ℕ → List StoreEntry
recorded None n = blanks n
recorded (Some bytes) n = map Entry (journal_in (Some bytes) n)

-- the mark of a store that a fault has stopped, with the count of faults then
abbrev pub mark : Option ℕ → List StoreEntry
mark None = []
mark (Some now) = Stopped now ∷ []

-- the entry is such a mark
abbrev pub IsMark : StoreEntry → Type 0
IsMark (Entry e) = ⊥
IsMark Blank = ⊥
IsMark (Stopped now) = Unit {0}

-- what the store's list has of an entry
abbrev pub entry_for : Bool → JournalEntry → StoreEntry
entry_for true e = Entry e
entry_for false e = Blank
