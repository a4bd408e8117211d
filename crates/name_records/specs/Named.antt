-- The names of files behind a journal, a group at a time.
use Rattle.std.specs.Prelude.{◌≡◌, ◌≢◌, ◌+◌, ◌<◌, ◌≤◌, ℕ, List, [], ◌∷◌, ◌++◌, length, map, take, drop, is_some, Option, None, Some}
use Rattle.log_seams.specs.Disk.{LeavesOnly}
use Rattle.log_seams.specs.Outside.{Rose}
use Rattle.disk_journal.specs.State.{JournalState}
use Rattle.archive_meaning.specs.declared.TheConstants.{MAX_NAMES, MAX_NAME_LEN}
use Rattle.archive_meaning.specs.declared.entry.JournalEntry.{JournalEntry}
use Rattle.archive_meaning.specs.declared.entry.JournalEntry.TheVariants.{Files, Segment, Types, Words}
use Rattle.archive_meaning.specs.Spelled.{end_of}
use Rattle.archive_open.specs.declared.files.FileEntry.{FileEntry}
use Rattle.ingest_meaning.specs.Room.{files_size}
use Rattle.disk_seal.specs.Opening.{MayOpen}
use Rattle.disk_seal.specs.Registered.{HoldsNames}
use Rattle.disk_seal.specs.Told.{IfTold}
use Rattle.ingest_meaning.specs.declared.refusal.RegisterRefusal.{RegisterRefusal}
use Rattle.ingest_meaning.specs.declared.refusal.RegisterRefusal.TheVariants.{ArchiveFull, DiskFault, OutOfMemory}
use Rattle.ingest_workers.specs.Ingested.{told_entries}
use Rattle.name_records.specs.Left.{HasGoneOn, LeavesEntries, StandsBetween}

abbrev pub names_of : List FileEntry → List (List ℕ)
names_of files = map (λ (f : FileEntry). f.name) files

-- a name that an archive may have
abbrev pub IsShort : List ℕ → Type 0
IsShort name = length name ≤ MAX_NAME_LEN

-- The entries are records of names, each of one name at least and of no more than a record may have. Together they have these
-- names, in order.
abbrev pub AreNamesOf : List JournalEntry → List (List ℕ) → Type 0
AreNamesOf [] names = names ≡ []
AreNamesOf (Files some ∷ es) names =
    (1 ≤ length some) × (length some ≤ MAX_NAMES) × ((rest : List (List ℕ)) × (names ≡ some ++ rest) × AreNamesOf es rest)
AreNamesOf (Types first texts ∷ es) names = ⊥
AreNamesOf (Words first texts ∷ es) names = ⊥
AreNamesOf (Segment s ∷ es) names = ⊥

-- The names were added behind the journal by these entries, numbered on from `first`, and a store may be opened over it. Each
-- image since the start stands for the journal of before with some of the new entries.
pub record HasNames (first : ℕ) (names : List (List ℕ)) (naming : List JournalEntry) (old new : JournalState) : Type 0 where
  pub name : new.name ≡ old.name
  pub header : new.header ≡ old.header
  pub tells : is_some new.disk.seen ≡ is_some old.disk.seen
  pub steady : new.disk.faults ≡ old.disk.faults
  pub are : AreNamesOf naming names
  pub opens : MayOpen new
  pub holds : HoldsNames (first + length names) new
  pub entries : IfTold (is_some old.disk.seen) (told_entries new ≡ told_entries old ++ naming)
  pub past : LeavesOnly old.disk new.disk
      (λ c. IfTold (is_some old.disk.seen) (StandsBetween old.header (told_entries old) (told_entries old ++ naming) c))

-- Why no further group of names was registered behind so many of them: a call of the disk failed; or the record of the next group
-- goes past the header's limit of length behind the journal's end. Want of memory is free.
abbrev pub HasNamesCause : List (List ℕ) → ℕ → JournalState → JournalState → RegisterRefusal → Type 0
HasNamesCause names count old new OutOfMemory = Unit {0}
HasNamesCause names count old new (ArchiveFull end need) =
    (old.header.length_limit < end + need) × (need ≡ files_size (take MAX_NAMES (drop count names)))
    × IfTold (is_some old.disk.seen) (end ≡ end_of old.header (told_entries new))
HasNamesCause names count old new DiskFault = Rose old.disk.faults new.disk.faults

-- The first so many names were registered, all of them without a refusal and not all with one. Where no call of the disk failed,
-- nothing else is left. Else the record of one group more may be under way.
pub record AreNamed (first : ℕ) (names : List (List ℕ)) (count : ℕ) (refusal : Option RegisterRefusal) (old new : JournalState)
    : Type 0 where
  pub within : count ≤ length names
  pub all : refusal ≡ None → count ≡ length names
  pub less : refusal ≢ None → count < length names
  pub goes : HasGoneOn old new
  pub naming : List JournalEntry
  pub are : AreNamesOf naming (take count names)
  pub left : IfTold (is_some old.disk.seen)
      (LeavesEntries old.header (told_entries old) (told_entries old ++ naming) old.disk new.disk)
  pub done : refusal ≢ Some DiskFault → HasNames first (take count names) naming old new
  pub cause : (why : RegisterRefusal) → refusal ≡ Some why → HasNamesCause names count old new why
