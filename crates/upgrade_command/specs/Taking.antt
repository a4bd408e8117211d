-- What the second disk is left with.
use Rattle.std.specs.Prelude.{◌⊎◌, ℕ, List, [], map, All, Option}
use Rattle.log_seams.specs.Disk.{DiskState, KeepsBytes}
use Rattle.log_seams.specs.Outside.{Rose}
use Rattle.record_format.specs.declared.header.Header.{Header}
use Rattle.disk_journal.specs.Created.{HasBytes}
use Rattle.archive_meaning.specs.Held.{content_of}
use Rattle.archive_meaning.specs.declared.entry.JournalEntry.{JournalEntry}
use Rattle.search_meaning.specs.Journal.{OfJournal}
use Rattle.command_refusals.specs.declared.outcome.UpgradeRefusal.{UpgradeRefusal}
use Rattle.command_answers.specs.Ingested.{FileOutcome, LeavesJournal}
use Rattle.command_answers.specs.Upgrading.{CameOfText, FromNew, MakesNew, NamesSome, NamedNotAll}
use Rattle.file_outcomes.specs.Taken.{AreToldAs}
use Rattle.file_outcomes.specs.declared.file_report.FileReport.{FileReport}

-- The files of the archive were named in a new one and taken in, in segments of at most so many rows, and this came of them.
pub record TakesTexts (rows : ℕ) (stop : Option UpgradeRefusal) (header : Header) (came : List FileOutcome)
    (old second second_new : DiskState) : Type 0 where
  pub each : All (CameOfText old second second_new stop) came
  pub disk : FromNew header second second_new (λ from. MakesNew rows stop old.seen header came from second_new)

-- So they were, and they are reported so.
pub record TakesFiles (rows : ℕ) (stop : Option UpgradeRefusal) (header : Header) (reports : List FileReport)
    (old second second_new : DiskState) : Type 0 where
  pub came : List FileOutcome
  pub told : AreToldAs came reports
  pub takes : TakesTexts rows stop header came old second second_new

-- no new archive was made
abbrev pub MakesNone : DiskState → DiskState → UpgradeRefusal → Type 0
MakesNone second second_new UpgradeRefusal.OutOfMemory = KeepsBytes second second_new
MakesNone second second_new (UpgradeRefusal.NotEmpty len) = HasBytes len second second_new
MakesNone second second_new UpgradeRefusal.SecondFault = Rose second.faults second_new.faults
MakesNone second second_new _ = ⊥

-- A new archive was made, which has the names of the first files alone.
pub record NamesFirst (header : Header) (old second second_new : DiskState) (refusal : UpgradeRefusal) : Type 0 where
  pub cause : NamedNotAll second second_new refusal
  pub named : List JournalEntry
  pub names : OfJournal old.seen (λ h es held. NamesSome second.seen header named (map (λ f. f.name) (content_of held)) refusal)
  pub disk : FromNew header second second_new (λ from. LeavesJournal header [] named from second_new)

-- so no file was taken in
abbrev pub TakesNone : Header → DiskState → DiskState → DiskState → UpgradeRefusal → Type 0
TakesNone header old second second_new refusal =
    MakesNone second second_new refusal ⊎ NamesFirst header old second second_new refusal
