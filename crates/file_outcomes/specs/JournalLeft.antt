-- How the journal goes on through the steps of an ingest.
use Rattle.std.specs.Prelude.{◌≡◌, ◌⊎◌, ℕ, true, is_some, List, [], ◌∷◌, ◌++◌, length, Option, Some}
use Rattle.log_seams.specs.Disk.{DiskState, LeavesOnly}
use Rattle.record_format.specs.declared.header.Header.{Header}
use Rattle.disk_journal.specs.State.{JournalState}
use Rattle.archive_meaning.specs.declared.entry.JournalEntry.{JournalEntry}
use Rattle.archive_meaning.specs.declared.entry.JournalEntry.TheVariants.{Files}
use Rattle.archive_meaning.specs.Stands.{StandsFor}
use Rattle.ingest_workers.specs.Ingested.{told_entries}
pub use Rattle.name_records.specs.Left.{StandsBetween}
use Rattle.command_answers.specs.Ingested.{FileOutcome, TakesIn}

-- the bytes stand for the journal
abbrev pub StandsStill : Header → List JournalEntry → List ℕ → Type 0
StandsStill h before c = StandsFor c h before

-- the journal is told, and its entries are those of before and the names
pub record HasNames (h : Header) (before : List JournalEntry) (names : List (List ℕ)) (j : JournalState) : Type 0 where
  pub told : is_some j.disk.seen ≡ true
  pub header : j.header ≡ h
  pub entries : told_entries j ≡ before ++ Files names ∷ []

-- what a source has left is that of the file's log, which was opened, or nothing
abbrev pub IsLogOf : FileOutcome → Option (List ℕ) → Type 0
IsLogOf c told = ((told ≡ c.log) × (c.opened ≡ true)) ⊎ (told ≡ Some [])

-- The names of new files were appended to the journal, which is told with them, and they are numbered from `first` on. Each image
-- since the start stands for the journal of before, or for it with the names.
pub record AddsNamesTo (h : Header) (before : List JournalEntry) {bytes : List ℕ} (stood : StandsFor bytes h before)
    (names : List (List ℕ)) (first : ℕ) (old : DiskState) (j : JournalState) : Type 0 where
  pub has : HasNames h before names j
  pub number : first ≡ length stood.legal.held.names
  pub past : LeavesOnly old j.disk (StandsBetween h before (before ++ Files names ∷ []))

-- The files were taken into the journal that has their names, and it has now the entries that were added.
pub record HasTakenIn {bytes : List ℕ} (rows : ℕ) (h : Header) (before : List JournalEntry) (stood : StandsFor bytes h before)
    (names : List (List ℕ)) (came : List FileOutcome) (j after : JournalState) : Type 0 where
  pub takes : TakesIn rows h before stood names came j.disk after.disk
  pub entries : told_entries after ≡ before ++ (Files names ∷ takes.added)

-- Where the journal is told with the names behind an archive, numbered from `first` on, the files were taken into it in segments
-- of at most so many rows, with what came of them.
abbrev pub TakesInto : ℕ → List (List ℕ) → ℕ → List FileOutcome → JournalState → JournalState → Type 0
TakesInto rows names first came j after =
    (h : Header) (before : List JournalEntry) (bytes : List ℕ) (stood : StandsFor bytes h before) → HasNames h before names j
    → first ≡ length stood.legal.held.names → HasTakenIn rows h before stood names came j after
