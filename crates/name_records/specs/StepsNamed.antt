-- One group of names behind a journal.
use Rattle.std.specs.Prelude.{◌≡◌, ◌≢◌, ℕ, List, [], ◌∷◌, is_some, IsErrOf, OnOk, Result}
use Rattle.log_seams.specs.Disk.{LeavesOnly}
use Rattle.log_seams.specs.Outside.{Rose}
use Rattle.log_seams.specs.declared.disk.Disk.{Ghosts as DiskGhosts}
use Rattle.disk_journal.specs.Calls.{StaysAt}
use Rattle.disk_journal.specs.Journal.{state_of}
use Rattle.disk_journal.specs.State.{JournalState}
use Rattle.disk_journal.specs.declared.journal.Journal.{Journal}
use Rattle.archive_meaning.specs.Sums.{AddsNames}
use Rattle.archive_meaning.specs.declared.entry.JournalEntry.TheVariants.{Files}
use Rattle.disk_seal.specs.Opening.{MayOpen}
use Rattle.disk_seal.specs.Registered.{HoldsNames, IsFullFor}
use Rattle.disk_seal.specs.Told.{IfTold}
use Rattle.ingest_meaning.specs.declared.refusal.RegisterRefusal.{RegisterRefusal}
use Rattle.ingest_meaning.specs.declared.refusal.RegisterRefusal.TheVariants.{ArchiveFull, DiskFault}
use Rattle.ingest_workers.specs.Ingested.{told_entries}
use Rattle.name_records.specs.Left.{HasGoneOn, StandsForOr}
use Rattle.name_records.specs.Named.{HasNames}

-- the names may be added behind a journal that has so many
pub record MayBeNamed (held : ℕ) (names : List (List ℕ)) (j : JournalState) : Type 0 where
  pub opens : MayOpen j
  pub holds : HoldsNames held j
  pub adds : AddsNames held names

module _ {D : Type 0} {d : DiskGhosts D} where
  -- They were; or the journal is as it was; or a call of the disk failed, and their record may be there.
  pub record IsGroupNamed (held : ℕ) (names : List (List ℕ)) (result : Result Unit RegisterRefusal)
      (before after : Journal D d) : Type 0 where
    pub done : OnOk result (HasNames held names (Files names ∷ []) (state_of before) (state_of after))
    pub goes : HasGoneOn (state_of before) (state_of after)
    pub same : (why : RegisterRefusal) → IsErrOf result why → why ≢ DiskFault
        → (after.disk ≡ before.disk) × StaysAt (state_of before) (state_of after)
    pub full : (end need : ℕ) → IsErrOf result (ArchiveFull end need) → IsFullFor names end need (state_of before)
    pub fault : IsErrOf result DiskFault → Rose (state_of before).disk.faults (state_of after).disk.faults
    pub under : IsErrOf result DiskFault → LeavesOnly (state_of before).disk (state_of after).disk
        (λ c. IfTold (is_some (state_of before).disk.seen)
        (StandsForOr before.header (told_entries (state_of before)) (Files names ∷ []) c))
