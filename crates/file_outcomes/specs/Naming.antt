-- When an ingest may begin over an archive in which new files have their names.
use Rattle.std.specs.Prelude.{◌≡◌, ◌+◌, ◌<◌, ◌≤◌, ℕ, List, [], ◌∷◌, ◌++◌, false, is_some}
use Rattle.log_seams.specs.declared.disk.Disk.{Ghosts as DiskGhosts}
use Rattle.disk_journal.specs.declared.journal.Journal.{Journal}
use Rattle.archive_meaning.specs.declared.entry.JournalEntry.TheVariants.{Files}
use Rattle.command_refusals.specs.GoesOn.{DiskGoesOn}
use Rattle.dict_core.specs.Books.{BookState}
use Rattle.disk_journal.specs.State.{JournalState}
use Rattle.disk_seal.specs.Told.{IfTold}
use Rattle.disk_seal.specs.Opening.{MayOpen}
use Rattle.disk_seal.specs.Registered.{HoldsNames}
use Rattle.ingest_workers.specs.Ingested.{HoldTexts, told_entries}
use Rattle.ingest_workers.specs.Journal.{Holds}
use Rattle.ingest_workers.specs.Outcome.{nothing_done}
use Rattle.ingest_workers.specs.declared.job.Job.{Job}

-- The archive was opened and may be appended to: where it is told it has these texts, and so many files.
pub record IsHeldBy (j : JournalState) (types words : BookState) (files : ℕ) : Type 0 where
  pub opens : MayOpen j
  pub texts : HoldTexts j types words
  pub names : HoldsNames files j

-- The archive has so many new names, from `first` on, and nothing of their files; the books are its texts.
pub record IsNamed (j : JournalState) (types words : BookState) (first count : ℕ) : Type 0 where
  pub opens : MayOpen j
  pub texts : HoldTexts j types words
  pub few : first + count ≤ 1048576
  pub empty : IfTold (is_some j.disk.seen) ((i : ℕ) → i < count → Holds j.header (told_entries j) (first + i) [] false false)

-- The journal has a record of these names more.
pub record HasNamesMore (names : List (List ℕ)) (old new : JournalState) : Type 0 where
  pub header : new.header ≡ old.header
  pub count : new.count ≡ old.count + 1
  pub tells : is_some new.disk.seen ≡ is_some old.disk.seen
  pub entries : IfTold (is_some new.disk.seen) (told_entries new ≡ told_entries old ++ Files names ∷ [])

-- a job that was not done yet, of the whole file with this number
pub record IsJobOf {S : Type 0} (n : ℕ) (job : Job S) : Type 0 where
  pub outcome : job.outcome ≡ nothing_done
  pub file : job.file ≡ n
  pub whole : job.is_part ≡ false

-- such jobs, of the files from a number on
abbrev pub AreNumbered : {S : Type 0} → ℕ → List (Job S) → Type 0
AreNumbered n [] = Unit {0}
AreNumbered n (job ∷ jobs) = IsJobOf n job × AreNumbered (n + 1) jobs

-- the journal is over the same disk, which has gone on
pub record HasGoneOn {D : Type 0} {d : DiskGhosts D} (old new : Journal D d) : Type 0 where
  pub name : new.disk.ghost_name ≡ old.disk.ghost_name
  pub disk : DiskGoesOn (d.state old.disk.now) (d.state new.disk.now)
