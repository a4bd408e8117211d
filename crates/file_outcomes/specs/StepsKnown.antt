-- A known archive, in the steps of an ingest.
use Rattle.std.specs.Prelude.{ℕ, Bool, true, false, List, Option}
use Rattle.log_seams.specs.Disk.{DiskState, IsLawful}
use Rattle.disk_journal.specs.State.{JournalState}
use Rattle.command_answers.specs.Ingested.{EndsIngest, IfRefused, TellsDamage}
use Rattle.command_answers.specs.Known.{KnownArchive, over, told_if}
use Rattle.command_refusals.specs.Outside.{Outside}
use Rattle.command_refusals.specs.declared.outcome.AddRefusal.{AddRefusal}

pub told_lawful : (tells : Bool) (d : DiskState) → IsLawful d → IsLawful (told_if tells d)
told_lawful true d law =
    record { reads_as = law.reads_as; counts_now = law.counts_now; only_now = law.only_now; wider = law.wider }
told_lawful false d law = record { reads_as = tt; counts_now = law.counts_now; only_now = law.only_now; wider = law.wider }

-- the same journal, over a disk that is lent under this name and tells its bytes only where it is to
abbrev pub lent_state : Bool → ℕ → JournalState → JournalState
lent_state tells name j = record {
  name = name;
  disk = told_if tells j.disk;
  header = j.header;
  place = j.place;
  count = j.count;
  closed = j.closed;
}

-- no damage is told
abbrev pub IsNoDamage : AddRefusal → Type 0
IsNoDamage (AddRefusal.Damaged at) = ⊥
IsNoDamage _ = Unit {0}

-- `ingest` ends so, whatever archive is known, and damage is told of any bytes
abbrev pub EndsIngestAt : Option KnownArchive → ℕ → ℕ → List (List ℕ) → Outside → DiskState → DiskState → ℕ → Type 0
EndsIngestAt known workers rows names seen old new status =
    (ends : EndsIngest workers rows names seen (over known old old) (over known old new) status)
    × IfRefused (TellsDamage old new) ends
