-- What became of a follower of the journal beside an ingest.
use Rattle.std.specs.Prelude.{◌≡◌, ◌⊎◌, ◌+◌, ◌≤◌, ℕ, true, false, List, [], ◌∷◌, ◌++◌, length, is_some, OnErr, OnOk, Result}
use Rattle.log_seams.specs.declared.disk.Disk.{Ghosts as DiskGhosts}
use Rattle.log_seams.specs.Disk.{DiskState}
use Rattle.log_seams.specs.Outside.{Rose}
use Rattle.record_format.specs.declared.header.Header.{Header}
use Rattle.disk_journal.specs.declared.journal.Journal.{Journal}
use Rattle.archive_meaning.specs.declared.entry.JournalEntry.{JournalEntry}
use Rattle.archive_meaning.specs.declared.entry.JournalEntry.TheVariants.{Files}
use Rattle.archive_meaning.specs.Stands.{StandsFor}
use Rattle.disk_journal.specs.State.{JournalState}
use Rattle.disk_seal.specs.Beside.{Follower, StandsOn}
use Rattle.disk_seal.specs.Told.{IfTold}
use Rattle.ingest_workers.specs.Beside.{MayBeginWith, WentBeside}
use Rattle.ingest_workers.specs.Ingested.{IsAsItWas, told_entries}
use Rattle.command_refusals.specs.declared.outcome.AddRefusal.{AddRefusal}
use Rattle.command_answers.specs.Ingested.{FileOutcome, FromArchive, TakesIn}

module _ {F D : Type 0} {d : DiskGhosts D} where
  -- nothing was begun, and it may begin still
  pub record RestsBeside (f g : Follower F) (before after : Journal D d) : Type 0 where
    pub first : g.first ≡ f.first
    pub fixed : g.fixed ≡ f.fixed
    pub may : MayBeginWith g before
    pub journal : IsAsItWas before after

  -- it went along with the journal, or it rests
  abbrev pub WentAlong : Follower F → Follower F → Journal D d → Journal D d → Type 0
  WentAlong f g before after = WentBeside f g before after ⊎ RestsBeside f g before after

module _ {F : Type 0} where
  -- It may begin with a journal that is so.
  pub record MayBeginAt (f : Follower F) (j : JournalState) : Type 0 where
    pub within : f.first + f.handled ≤ j.count
    pub stands : IfTold (is_some j.disk.seen) (StandsOn f j.header (told_entries j))
    pub running : f.halted ≡ false

  -- The files were taken in. It stands for the first entries of the archive as it is now; and unless it refuses it has handled
  -- all of them, or there are none behind the names.
  pub record IsLed (g : Follower F) {bytes : List ℕ} (rows : ℕ) (h : Header) (before : List JournalEntry)
      (stood : StandsFor bytes h before) (names : List (List ℕ)) (came : List FileOutcome) (old new : DiskState) : Type 0 where
    pub takes : TakesIn rows h before stood names came old new
    pub stands : StandsOn g h (before ++ (Files names ∷ takes.added))
    pub through : g.refused ≡ false
        → (g.first + g.handled ≡ length (before ++ (Files names ∷ takes.added))) ⊎ (takes.added ≡ [])

  -- It has become the second one, which was led so. Where it refuses for a fault of the disk, the disk's count of faults rose.
  pub record Follows (f g : Follower F) (rows : ℕ) (names : List (List ℕ)) (came : List FileOutcome) (old new : DiskState)
      : Type 0 where
    pub first : g.first ≡ f.first
    pub fixed : g.fixed ≡ f.fixed
    pub halted : g.halted ≡ true → Rose old.faults new.faults
    pub led : FromArchive old (λ h before bytes stood. IsLed g rows h before stood names came old new)

-- So it is where the logs were added, by the answer; where they were not, the holder of the follower is as it was.
pub record FollowsBy {F B : Type 0} (known : B → Follower F) (rows : ℕ) (names : List (List ℕ)) (came : List FileOutcome)
    (old new : DiskState) (beside beside_after : B) (answer : Result ℕ AddRefusal) : Type 0 where
  -- they were added
  pub followed : OnOk answer (Follows (known beside) (known beside_after) rows names came old new)
  -- or not
  pub rests : OnErr answer (beside_after ≡ beside)
