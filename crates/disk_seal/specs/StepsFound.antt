-- What is read at a gate of a journal, for proofs alone.
use Rattle.std.specs.Prelude.{◌≡◌, ℕ, length, take, drop, IfSome}
use Rattle.log_seams.specs.Disk.{Rests}
use Rattle.disk_journal.specs.State.{JournalState}
use Rattle.disk_journal.specs.Gates.{HasFound}
use Rattle.disk_seal.specs.declared.found.Found.{Found}

-- the same journal, of whose disk was only read
pub record Rereads (old new : JournalState) : Type 0 where
  pub name : new.name ≡ old.name
  pub header : new.header ≡ old.header
  pub place : new.place ≡ old.place
  pub count : new.count ≡ old.count
  pub closed : new.closed ≡ old.closed
  pub rests : Rests old.disk new.disk

-- the record behind the gate was found, and its payload was read
pub record IsFoundIn (at : ℕ) (f : Found) (j : JournalState) : Type 0 where
  pub found : HasFound at f.place j
  pub size : length f.payload ≡ f.place.length
  pub these : IfSome j.disk.seen (λ bytes. f.payload ≡ take f.place.length (drop f.place.payload bytes))
