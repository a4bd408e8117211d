-- Why files are not whole, in the steps of an ingest.
use Rattle.std.specs.Prelude.{◌≡◌, ◌≢◌, ◌<◌, ◌+◌, ℕ, Bool, false, true, List, [], ◌∷◌, ◌++◌, length, is_some, Option, Some, None, IfSome, All}
use Rattle.log_seams.specs.Disk.{DiskState}
use Rattle.log_seams.specs.Outside.{Rose}
use Rattle.record_format.specs.declared.header.Header.{Header}
use Rattle.archive_meaning.specs.declared.entry.JournalEntry.{JournalEntry}
use Rattle.archive_meaning.specs.declared.entry.JournalEntry.TheVariants.{Files}
use Rattle.disk_journal.specs.State.{JournalState}
use Rattle.disk_seal.specs.Told.{IfTold}
use Rattle.ingest_workers.specs.Ingested.{told_entries}
use Rattle.command_refusals.specs.Ending.{RoseIn}
use Rattle.command_answers.specs.Ingested.{AreCutShort, FileOutcome, DidNotFit, FromArchive, HasMoreThan, IsFullByGiven, IsFullInTurn, IsNextTooLong, Logs, OfStopped, WasNotOpened, names_in}
use Rattle.command_refusals.specs.LogLimits.{IsLong, most_messages}
use Rattle.command_refusals.specs.declared.outcome.PartCause.{PartCause}

-- what a shelf tells of the logs around a call
abbrev pub logs_around : {H : Type 0} → (H → List ℕ → Option (List ℕ)) → (H → List ℕ → ℕ) → (H → List ℕ → ℕ) → H → H → Logs
logs_around unread open_faults read_faults shelf shelf_after = record {
  opens = λ name. (open_faults shelf name, open_faults shelf_after name);
  reads = λ name. (read_faults shelf name, read_faults shelf_after name);
  unread = unread shelf_after;
}

-- What files are taken into, of which this came, where it is told: an archive with this header and these entries, which have
-- their names. They are numbered on from `first`, and cut into segments of at most so many rows.
pub record Target : Type 0 where
  pub told : Bool
  pub header : Header
  pub entries : List JournalEntry
  pub rows : ℕ
  pub first : ℕ
  pub came : List FileOutcome

abbrev pub into_journal : JournalState → ℕ → ℕ → List FileOutcome → Target
into_journal j rows first came =
    record { told = is_some j.disk.seen; header = j.header; entries = told_entries j; rows = rows; first = first; came = came }

-- it is told, and is this archive of so many files, with the names
pub record IsTarget (into : Target) (h : Header) (before : List JournalEntry) (held : ℕ) : Type 0 where
  pub told : into.told ≡ true
  pub header : into.header ≡ h
  pub entries : into.entries ≡ before ++ Files (names_in into.came) ∷ []
  pub first : into.first ≡ held

-- What a refusal of a file rests on.
abbrev pub HasCauseIn : Logs → Target → DiskState → DiskState → FileOutcome → Option PartCause → Type 0
HasCauseIn logs into old new c None = c.whole ≡ true
HasCauseIn logs into old new c (Some PartCause.OpenFault) = RoseIn (logs.opens c.name) × (c.opened ≡ false)
HasCauseIn logs into old new c (Some PartCause.ReadFault) = RoseIn (logs.reads c.name)
HasCauseIn logs into old new c (Some (PartCause.LineTooLong line)) =
    IfSome c.log (λ bytes. IsLong bytes line)
    × IfSome c.log (IsNextTooLong into.header.version c line)
HasCauseIn logs into old new c (Some PartCause.TooManyLines) =
    (c.messages ≡ most_messages) × HasMoreThan most_messages into.header.version c.log
HasCauseIn logs into old new c (Some (PartCause.Full book count)) =
    IfTold into.told (IsFullByGiven into.came into.header into.entries c book count)
HasCauseIn logs into old new c (Some (PartCause.ArchiveFull end need)) =
    (into.header.length_limit < end + need)
    × IfTold into.told (DidNotFit logs into.rows into.first into.came into.header into.entries new c end need)
HasCauseIn logs into old new c (Some PartCause.DiskFault) = Rose old.faults new.faults
HasCauseIn logs into old new c (Some PartCause.OutOfMemory) = Unit {0}

-- each full dictionary was so by what the files were taken into, and by those up to the one that it stopped
abbrev pub AreFullInto : Target → List FileOutcome → Type 0
AreFullInto into came =
    OfStopped (λ met c book count. IfTold into.told
    (IsFullInTurn into.rows into.header into.entries met c book count)) came

-- a file is whole exactly where nothing was refused of it, and a refusal has its cause
pub record CameIn (logs : Logs) (into : Target) (old new : DiskState) (c : FileOutcome) : Type 0 where
  pub cause : HasCauseIn logs into old new c c.refusal
  pub part : c.refusal ≢ None → c.whole ≡ false
  pub unopened : c.opened ≡ false → WasNotOpened c

-- So it is of each file, and with one worker each full dictionary was so in turn.
pub record HaveCausesIn (logs : Logs) (workers : ℕ) (into : Target) (old new : DiskState) (came : List FileOutcome) : Type 0 where
  -- each file has its cause
  pub each : All (CameIn logs into old new) came
  -- each log of which a read failed was cut short there
  pub cut : AreCutShort logs.unread into.header.version came
  -- each full dictionary was so by the files up to the one that it stopped
  pub in_turn : workers ≡ 1 → AreFullInto into came

-- so it is of the files, by the archive where the disk tells it
pub record HaveFileCauses (logs : Logs) (workers rows : ℕ) (old new : DiskState) (came : List FileOutcome) : Type 0 where
  pub into : Target
  pub came_are : into.came ≡ came
  pub rows_are : into.rows ≡ rows
  pub told : FromArchive old (λ h before bytes stood. IsTarget into h before (length stood.legal.held.names))
  pub causes : HaveCausesIn logs workers into old new came
