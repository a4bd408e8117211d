-- What the making of an empty journal leaves of its disk.
use Rattle.std.specs.Prelude.{◌≡◌, ◌<◌, ℕ, [], ◌∷◌, ◌++◌, length, Result, Ok, Err, IfSome}
use Rattle.log_seams.specs.Disk.{DiskState, IsSynced, Reads, Rests}
use Rattle.log_seams.specs.Outside.{Rose}
use Rattle.record_format.specs.Header.{header_bytes}
use Rattle.record_format.specs.declared.header.Header.{Header}
use Rattle.disk_journal.specs.declared.record.TheConstants.{CLOSED_GATE}
use Rattle.disk_journal.specs.declared.refusals.CreateRefusal.{CreateRefusal}
use Rattle.disk_journal.specs.declared.refusals.CreateRefusal.TheVariants.{DiskFault, NotEmpty}

-- The disk had no bytes. It has the header and a closed gate now, and a crash leaves these bytes and no others.
pub record MakesEmpty (header : Header) (old new : DiskState) : Type 0 where
  pub none : Reads [] old
  pub made : Reads (header_bytes header ++ CLOSED_GATE ∷ []) new
  pub synced : IsSynced new

-- The disk had so many bytes, and keeps them. A crash leaves what it would have left before.
pub record HasBytes (len : ℕ) (old new : DiskState) : Type 0 where
  pub some : 0 < len
  pub long : IfSome old.seen (λ bytes. len ≡ length bytes)
  pub rests : Rests old new

-- a disk that had bytes keeps them, whatever the answer is
abbrev pub SparesBytes : DiskState → DiskState → Type 0
SparesBytes old new = IfSome old.seen (λ bytes. 0 < length bytes → Rests old new)

-- what the making of a journal with this header leaves, by its answer
abbrev pub CreateLeaves : Result Unit CreateRefusal → Header → DiskState → DiskState → Type 0
CreateLeaves (Ok _) header old new = MakesEmpty header old new
CreateLeaves (Err (NotEmpty len)) header old new = HasBytes len old new
CreateLeaves (Err DiskFault) header old new = Rose old.faults new.faults
