-- What a pass of the keeper's lock may add.
use Rattle.std.specs.Prelude.{◌≡◌, ℕ}
use Rattle.archive_meaning.specs.declared.entry.JournalEntry.{JournalEntry}
use Rattle.archive_meaning.specs.declared.entry.JournalEntry.TheVariants.{Files, Types, Words, Segment}
use Rattle.disk_seal.specs.declared.entry.StoreEntry.{StoreEntry}
use Rattle.disk_seal.specs.declared.entry.StoreEntry.TheVariants.{Entry, Blank, Stopped}

abbrev pub MayJournal : ℕ → JournalEntry → Type 0
MayJournal n (Files names) = ⊥
MayJournal n (Types first texts) = Unit {0}
MayJournal n (Words first texts) = Unit {0}
MayJournal n (Segment s) = s.file ≡ n

-- the pass with the number n adds texts, segments of the file n, entries that are not told, and the mark
abbrev pub MayAdd : ℕ → StoreEntry → Type 0
MayAdd n (Entry e) = MayJournal n e
MayAdd n Blank = Unit {0}
MayAdd n (Stopped now) = Unit {0}
