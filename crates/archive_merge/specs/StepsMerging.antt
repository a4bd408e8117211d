-- Files that are named, and what became of them.
use Rattle.std.specs.Prelude.{◌≡◌, ◌⊎◌, ◌+◌, ℕ, false, List, Option, None, Some, slice_get}
use Rattle.log_seams.specs.declared.disk.Disk.{Ghosts as DiskGhosts}
use Rattle.disk_journal.specs.declared.journal.Journal.{Journal}
use Rattle.ingest_workers.specs.Ingested.{IsAsItWas}
use Rattle.archive_merge.specs.declared.file.Merged.{Merged}
use Rattle.archive_merge.specs.declared.merger.Stopped.{Stopped}
use Rattle.archive_merge.specs.declared.refusal.MergeRefusal.{MergeRefusal}
use Rattle.archive_merge.specs.declared.refusal.MergeRefusal.TheVariants.{OutOfMemory, Stopped as HasStoppedAt}
use Rattle.archive_merge.specs.Behind.{HasMerged, SecondView}

-- nothing is moved of the file with this number
pub record IsFresh (number : ℕ) (file : Merged) : Type 0 where
  pub file_is : file.file ≡ number
  pub messages_none : file.messages ≡ 0
  pub not_whole : file.whole ≡ false

-- the files are numbered on from this one, and nothing is moved of them
abbrev pub AreFresh : ℕ → List Merged → Type 0
AreFresh first files = (i : ℕ) (file : Merged) → slice_get files i ≡ Some file → IsFresh (first + i) file

-- what stopped a file, as a refusal
abbrev pub refusal_by : Option Stopped → Option MergeRefusal
refusal_by None = None
refusal_by (Some why) = Some (HasStoppedAt why.file why.cause)

module _ {D : Type 0} {d : DiskGhosts D} where
  -- the files were moved over the journal, until one was stopped; or there was no memory to begin
  abbrev pub CameBehind : SecondView → ℕ → List Merged → List Merged → Option MergeRefusal → Journal D d → Journal D d → Type 0
  CameBehind s first files files' refusal before after =
      ((stop : Option Stopped) × (refusal ≡ refusal_by stop) × HasMerged s first stop files files' before after)
      ⊎ ((refusal ≡ Some OutOfMemory) × (files' ≡ files) × IsAsItWas before after)
