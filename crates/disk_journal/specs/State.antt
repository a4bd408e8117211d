-- What a journal is over its disk, and where a walk along its records has come to.
use Rattle.std.specs.Prelude.{◌≡◌, ℕ, Bool, false, IsTrue}
use Rattle.log_seams.specs.Disk.{DiskState, IsSynced}
use Rattle.record_format.specs.Header.{IsHeader, header_bytes}
use Rattle.record_format.specs.declared.header.Header.{Header}
use Rattle.record_format.specs.declared.header.TheConstants.{HEADER_LEN}
use Rattle.disk_journal.specs.Place.{Walked, AtEnd}

-- the name and the state of the disk that is lent to it; the header that the disk begins with; the place of the gate that a
-- walk has come to; how many records were walked past and appended; and whether that gate is closed
pub record JournalState : Type 1 where
  pub name : ℕ
  pub disk : DiskState
  pub header : Header
  pub place : ℕ
  pub count : ℕ
  pub closed : Bool

-- a walk from the first gate has passed the records that are counted, and stands behind them
abbrev pub IsWalked : JournalState → Type 0
IsWalked j = Walked (header_bytes j.header) j.place j.count j.disk.seen

-- the walk has not begun
pub record IsAtFirst (j : JournalState) : Type 0 where
  pub place : j.place ≡ HEADER_LEN
  pub count : j.count ≡ 0
  pub closed : j.closed ≡ false

-- the walk has come to the closed gate behind the last record, and a crash leaves what is read
pub record IsAtEnd (j : JournalState) : Type 0 where
  pub closed : IsTrue j.closed
  pub ends : AtEnd (header_bytes j.header) j.place j.count j.disk.seen j.disk.images

-- the disk begins with this header, and a crash leaves what is read
pub record BeginsWith (h : Header) (d : DiskState) : Type 0 where
  pub legal : IsHeader h
  pub walked : Walked (header_bytes h) HEADER_LEN 0 d.seen
  pub synced : IsSynced d
