-- What each call leaves of a journal.
use Rattle.std.specs.Prelude.{◌≡◌, ◌<◌, ℕ, ◌+◌, List, length, take, drop, option_map}
use Rattle.std.specs.Prelude.{is_some, IsTrue, IsNone, IfSome, true, false}
use Rattle.log_seams.specs.Disk.{DiskState, KeepsBytes, LeavesOnly, ReadsOnly, Rests, with_range}
use Rattle.record_format.specs.Header.{header_bytes}
use Rattle.record_format.specs.declared.header.TheConstants.{HEADER_LEN}
use Rattle.disk_journal.specs.Record.{Saved}
use Rattle.disk_journal.specs.Place.{ClosedAt, OpenAt, IsDamaged, NoHeader, Added, BeforeOrAfter, WithFirstTold, UnderWay}
use Rattle.disk_journal.specs.Series.{saved_all, size_all}
use Rattle.disk_journal.specs.State.{JournalState, IsAtFirst, IsAtEnd, BeginsWith}
use Rattle.disk_journal.specs.declared.record.TheConstants.{FRONT_LEN}
use Rattle.disk_journal.specs.declared.walk.RecordPlace.{RecordPlace}

-- the same journal, whose disk was only read: at most n bytes, from one place on
pub record OnlyReads (at n : ℕ) (old new : JournalState) : Type 0 where
  pub name : new.name ≡ old.name
  pub header : new.header ≡ old.header
  pub rests : Rests old.disk new.disk
  pub ranges : ReadsOnly at n old.disk new.disk

-- the walk stands where it stood
pub record StaysAt (old new : JournalState) : Type 0 where
  pub place : new.place ≡ old.place
  pub count : new.count ≡ old.count
  pub closed : new.closed ≡ old.closed

-- The walk has passed a record, which stands whole behind the open gate that the walk had come to.
pub record HasPassed (p : RecordPlace) (old new : JournalState) : Type 0 where
  pub at : p.at ≡ old.place
  pub payload : p.payload ≡ p.at + FRONT_LEN
  pub found : OpenAt old.place p.kind p.length old.disk.seen
  pub place : new.place ≡ p.payload + p.length
  pub count : new.count ≡ old.count + 1
  pub closed : new.closed ≡ false

-- The walk has found that the gate that it had come to is closed.
pub record HasEnded (old new : JournalState) : Type 0 where
  pub gate : ClosedAt old.place old.disk.seen
  pub place : new.place ≡ old.place
  pub count : new.count ≡ old.count
  pub closed : new.closed ≡ true

-- at the gate that the walk has come to there is none, or an open one without a whole record behind it
pub record HasDamage (at : ℕ) (j : JournalState) : Type 0 where
  pub here : at ≡ j.place
  pub damaged : IsDamaged at j.disk.seen

-- The text is the n bytes from that place on, and all of them were read.
pub record HasLoaded (at n : ℕ) (text : List ℕ) (old new : JournalState) : Type 0 where
  pub size : length text ≡ n
  pub these : IfSome old.disk.seen (λ bytes. text ≡ take n (drop at bytes))
  pub whole : new.disk.ranges ≡ with_range at n old.disk.ranges

-- Fewer than n bytes were read from that place on, as a disk that tells its bytes does not.
pub record GaveFewer (at n place : ℕ) (old new : JournalState) : Type 0 where
  pub here : place ≡ at
  pub untold : IsNone old.disk.seen
  pub count : ℕ
  pub fewer : count < n
  pub range : new.disk.ranges ≡ with_range at count old.disk.ranges

-- The same journal, which goes on at a closed gate. Nothing was
-- read, and the disk goes on telling its bytes, or not telling them.
pub record GoesOn (old new : JournalState) : Type 0 where
  pub name : new.name ≡ old.name
  pub header : new.header ≡ old.header
  pub closed : IsTrue new.closed
  pub tells : is_some new.disk.seen ≡ is_some old.disk.seen
  pub ranges : new.disk.ranges ≡ old.disk.ranges

-- The records were added behind the others, and they took so many bytes. What stood behind these stays.
pub record HasAdded (rs : List Saved) (size : ℕ) (old new : JournalState) : Type 0 where
  pub ends : IsAtEnd new
  pub added : Added old.disk.seen old.count rs new.disk.seen new.count
  pub count : new.count ≡ old.count + length rs
  pub place : new.place ≡ old.place + size
  pub behind : option_map (drop (old.place + 1 + size)) new.disk.seen ≡ option_map (drop (old.place + 1 + size)) old.disk.seen

-- a crash at any moment leaves the records of before, or these and the new one
abbrev pub LeavesBeforeOrAfter : Saved → JournalState → JournalState → Type 0
LeavesBeforeOrAfter r old new = LeavesOnly old.disk new.disk (BeforeOrAfter (header_bytes old.header) old.disk.seen old.count r)

-- a crash at any moment leaves the records of before, and none, the first, the first two, .. or all of the new ones
abbrev pub LeavesFirst : List Saved → JournalState → JournalState → Type 0
LeavesFirst rs old new = LeavesOnly old.disk new.disk (WithFirstTold (header_bytes old.header) old.disk.seen old.count rs)

-- the first k of the texts were appended, and a crash leaves their records, or these and the next
pub record HasStopped (texts : List (List ℕ)) (old new : JournalState) : Type 0 where
  pub k : ℕ
  pub below : k < length texts
  pub count : new.count ≡ old.count + k
  pub place : new.place ≡ old.place + size_all (take k texts)
  pub leaves : (c : List ℕ) → new.disk.images c → UnderWay (header_bytes old.header) old.disk.seen old.count (saved_all texts) k c

-- so many bytes behind the journal's end go past its limit of length
abbrev pub IsPast : ℕ → JournalState → Type 0
IsPast size j = j.header.length_limit < j.place + 1 + size

-- the journal ends there, and the bytes that are needed go past its limit
pub record IsFull (end need size : ℕ) (j : JournalState) : Type 0 where
  pub ends : end ≡ j.place + 1
  pub needs : need ≡ size
  pub past : j.header.length_limit < end + need

-- The journal is opened, and its first record is the next. Of the disk the header alone was read.
pub record HasOpened (old : DiskState) (j : JournalState) : Type 0 where
  pub first : IsAtFirst j
  pub begins : BeginsWith j.header j.disk
  pub keeps : KeepsBytes old j.disk
  pub ranges : ReadsOnly 0 HEADER_LEN old j.disk
  pub faults : j.disk.faults ≡ old.faults

-- the disk begins with no header, as the refusal's place 0 says
pub record HasNoHeader (at : ℕ) (d : DiskState) : Type 0 where
  pub first : at ≡ 0
  pub damaged : NoHeader d.seen
