-- What is added to a journal, as events of the machine of its archive.
use Rattle.std.specs.Prelude.{ℕ, List, ◌++◌, Option, is_some}
use Rattle.log_seams.specs.declared.disk.Disk.{Ghosts as DiskGhosts}
use Rattle.disk_journal.specs.declared.journal.Journal.{Journal}
use Rattle.disk_journal.specs.Journal.{state_of}
use Rattle.archive_meaning.specs.declared.entry.JournalEntry.{JournalEntry}
use Rattle.archive_machine.specs.Laws.{GrowsByEvents}
use Rattle.archive_merge.specs.Behind.{SecondView}
use Rattle.archive_merge.specs.Merging.{HasMergedAll}
use Rattle.archive_merge.specs.declared.file.Merged.{Merged}
use Rattle.archive_merge.specs.declared.refusal.MergeRefusal.{MergeRefusal}
use Rattle.disk_seal.specs.Told.{IfTold}
use Rattle.ingest_workers.specs.declared.job.Job.{Job}
use Rattle.ingest_workers.specs.Ingested.{HasIngested, plan_of, told_entries}

module _ {D : Type 0} {d : DiskGhosts D} where
  -- where the journal is told, these entries are added to it by events
  abbrev pub AddedByEvents : Journal D d → List JournalEntry → Type 0
  AddedByEvents before fresh =
      IfTold (is_some (state_of before).disk.seen) (GrowsByEvents before.header (told_entries (state_of before)) fresh)

  -- so are those that an ingest adds, with segments of at most so many rows
  abbrev pub IngestsByEvents : {S : Type 0} → (S → Option (List ℕ)) → ℕ → List (Job S) → List (Job S) → Journal D d → Journal D d
      → Type 0
  IngestsByEvents left rows js js' before after =
      (i : HasIngested left (plan_of rows before) js js' before after) → AddedByEvents before i.stored.fresh

  -- and those that a merge adds: the names of its files, texts that rows need, and segments
  abbrev pub MergesByEvents : SecondView → ℕ → List (List ℕ) → List Merged → Option MergeRefusal → Journal D d → Journal D d
      → Type 0
  MergesByEvents s first names files refusal before after =
      (m : HasMergedAll s first names files refusal before after) → AddedByEvents before (m.naming ++ m.fresh)
