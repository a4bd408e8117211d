-- How a command ends that only reads an archive.
use Rattle.std.specs.Prelude.{◌≡◌, ◌⊎◌, ℕ, List, [], Option, Some, None, option_map, Result, Ok, Err}
use Rattle.log_seams.specs.Disk.{DiskState, KeepsBytes}
use Rattle.log_seams.specs.Outside.{CountsOf, Rose}
use Rattle.record_format.specs.declared.header.Header.{Header}
use Rattle.archive_meaning.specs.declared.entry.JournalEntry.{JournalEntry}
use Rattle.archive_meaning.specs.Held.{Held}
use Rattle.archive_meaning.specs.Stands.{StandsFor}
use Rattle.command_refusals.specs.Outside.{Outside}
use Rattle.command_refusals.specs.Ending.{EndsWith, RoseIn}
use Rattle.command_refusals.specs.Outcome.{answer_of, of_read}
use Rattle.command_refusals.specs.declared.outcome.ReadRefusal.{ReadRefusal}
use Rattle.command_refusals.specs.declared.outcome.ReadRefusal.TheVariants.{DiskFault, SinkFault, OutOfMemory}

-- where the disk tells bytes that stand for a journal, this holds of what the journal holds
abbrev pub OverJournal : Option (List ℕ) → (Held → Type 0) → Type 0
OverJournal None P = Unit {0}
OverJournal (Some bytes) P = (h : Header) (es : List JournalEntry) (stood : StandsFor bytes h es) → P stood.legal.held

-- The command ended with this answer, and the disk's bytes are as they were. DiskFault comes only where a call of the
-- disk failed, SinkFault only where a write to the output did, and at every other answer none failed.
pub record EndsReading (seen : Outside) (old new : DiskState) (status : ℕ) (answer : Result Unit ReadRefusal) : Type 0 where
  pub ends : EndsWith seen [] status (option_map of_read (answer_of answer))
  pub keeps : KeepsBytes old new
  pub disk : CountsOf DiskFault old.faults new.faults answer
  pub sink : CountsOf SinkFault seen.out_faults.0 seen.out_faults.1 answer

-- Over bytes that stand for a journal, where no call of the disk and no write to the output failed, the command did what it
-- was asked, or memory ended.
abbrev pub IsComplete : Outside → DiskState → DiskState → Result Unit ReadRefusal → Type 0
IsComplete seen old new answer =
    (bytes : List ℕ) (h : Header) (es : List JournalEntry)
    → old.seen ≡ Some bytes → StandsFor bytes h es
    → ¬ Rose old.faults new.faults → ¬ RoseIn seen.out_faults
    → (answer ≡ Ok tt) ⊎ (answer ≡ Err OutOfMemory)

-- the bytes are an archive: they stand for a legal journal
pub record IsArchive (bytes : List ℕ) : Type 0 where
  pub h : Header
  pub es : List JournalEntry
  pub stands : StandsFor bytes h es
