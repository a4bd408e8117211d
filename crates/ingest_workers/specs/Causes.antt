-- Why not all messages of a file were sealed.
use Rattle.std.specs.Prelude.{◌≡◌, ◌⊎◌, ℕ, ◌+◌, ◌<◌, Bool, List, [], ◌∷◌, ◌++◌, length, Option, None, Some, IfSome}
use mathlib.Core.List.{IsPrefix}
use Rattle.log_seams.specs.Disk.{DiskState}
use Rattle.log_seams.specs.Outside.{Rose}
use Rattle.turn_lock.specs.Words.{seen}
use Rattle.row_codec.specs.declared.namer.Which.{Which}
use Rattle.message_reader.specs.declared.reader.TheConstants.{MAX_MESSAGES}
use Rattle.message_reader.specs.Taken.{IsBeforeLong, IsReadShort, lines_count}
use Rattle.message_reader.specs.Versions.{MessagesOf}
use Rattle.disk_seal.specs.declared.entry.StoreEntry.{StoreEntry}
use Rattle.disk_seal.specs.declared.entry.StoreEntry.TheVariants.{Stopped}
use Rattle.disk_seal.specs.Fixed.{KeeperPass}
use Rattle.disk_seal.specs.Prepare.{IsFaultOf}
use Rattle.ingest_meaning.specs.Given.{AreAllOf, AreFirstOf}
use Rattle.ingest_workers.specs.Full.{Books, WasFullBehind}
use Rattle.ingest_workers.specs.NoRoom.{FoundNoRoom}
use Rattle.ingest_workers.specs.declared.outcome.Cause.{Cause}
use Rattle.ingest_workers.specs.declared.outcome.Cause.TheVariants.{ReadFault, LineTooLong, TooManyLines, Full, DiskFault, ArchiveFull, OutOfMemory}
use Rattle.line_cut.specs.declared.cut.Cut.{Cut}
use Rattle.line_cut.specs.declared.cut.Cut.TheVariants.{ReadFault as CutReadFault, LineTooLong as CutLineTooLong, TooManyLines as CutTooManyLines, OutOfMemory as CutOutOfMemory}

-- ---- the log

-- a log before and after it was read: the bytes that are left of it, where they are told, and its count of faults
pub record Log : Type 0 where
  pub bytes : Option (List ℕ)
  pub behind : Option (List ℕ)
  pub faults : ℕ
  pub faults_now : ℕ

-- what a source tells of its log, which had these bytes
abbrev pub log_from : {S : Type 0} → Option (List ℕ) → (S → Option (List ℕ)) → (S → ℕ) → S → S → Log
log_from bytes left faults old new = record { bytes = bytes; behind = left new; faults = faults old; faults_now = faults new }

abbrev pub log_of : {S : Type 0} → (S → Option (List ℕ)) → (S → ℕ) → S → S → Log
log_of left faults old new = log_from (left old) left faults old new

-- no read of it failed
abbrev pub NoneFailed : Log → Type 0
NoneFailed log = log.faults_now ≡ log.faults

-- the cause for which a reader gives no further message
abbrev pub cause_by : Cut → Cause
cause_by CutReadFault = ReadFault
cause_by (CutLineTooLong line) = LineTooLong line
cause_by CutTooManyLines = TooManyLines
cause_by CutOutOfMemory = OutOfMemory

-- where the bytes are told, they have more messages than so many
abbrev pub HaveMoreThan : ℕ → ℕ → Option (List ℕ) → Type 0
HaveMoreThan count version told = IfSome told (λ bytes. (messages : List (List ℕ)) (ended : Bool)
    → MessagesOf version bytes messages ended → count < length messages)

-- ---- the archive

module _ {D : Type 0} where
  -- the pass has seen the mark of a store that was stopped at this count of faults
  abbrev pub HasSeenMark : ℕ → KeeperPass D → Type 0
  HasSeenMark now p = (front : List StoreEntry) × IsPrefix (front ++ Stopped now ∷ []) (seen p)

  -- a call of the disk failed since the opening, and the store was stopped at this count of faults
  pub record HasFailed (state : D → DiskState) (p q : KeeperPass D) (opened now : ℕ) : Type 0 where
    pub fault : IsFaultOf state (record { opened = opened; now = now }) p
    pub mark : HasSeenMark now q

  -- Why a segment is not sealed, where there was no room as this says. Want of memory is free.
  abbrev pub HasSealCause : (D → DiskState) → (ℕ → ℕ → Type 0) → KeeperPass D → KeeperPass D → Cause → Type 0
  HasSealCause state no_room p q (DiskFault opened now) = HasFailed state p q opened now
  HasSealCause state no_room p q (ArchiveFull end need) = no_room end need
  HasSealCause state no_room p q OutOfMemory = Unit {0}
  HasSealCause state no_room p q _ = ⊥

-- why a message gets no numbers
abbrev pub IsFullCause : (Which → ℕ → Type 0) → Cause → Type 0
IsFullCause full (Full book count) = full book count
IsFullCause full _ = ⊥

-- ---- a job

-- What causes say of the archive: that behind these messages of the file a book is full at so many texts, or so many bytes more
-- do not fit behind the end, those of a whole part, or of a rest up to which this holds of the messages; that the disk failed.
pub record Grounds : Type 1 where
  pub full : List (List ℕ) → Which → ℕ → Type 0
  pub no_room : (List (List ℕ) → Type 0) → List (List ℕ) → ℕ → ℕ → Type 0
  pub failed : ℕ → ℕ → Type 0

-- those that a worker knows by its passes, where this is known of the books, and the messages are those of these bytes
abbrev pub grounds_of : {D : Type 0} → (D → DiskState) → ℕ → ℕ → Books → Option (List ℕ) → KeeperPass D → KeeperPass D → Grounds
grounds_of state limit version books bytes p q = record {
  full = WasFullBehind version books bytes;
  no_room = λ last. FoundNoRoom state limit version books (AreFirstOf version bytes) last p q;
  failed = HasFailed state p q;
}

-- Why no further message of a log is taken than these. A read that failed gave the lines that ended in the bytes taken; a line
-- that is too long, a message too many, and one that a full book stopped, come behind these messages. Where the cause is another,
-- no read failed.
abbrev pub HasLogCause : (List (List ℕ) → Which → ℕ → Type 0) → Log → ℕ → List (List ℕ) → Cause → Type 0
HasLogCause full log version taken ReadFault = Rose log.faults log.faults_now
    × IfSome log.bytes (λ bytes. IsReadShort version bytes taken log.behind)
HasLogCause full log version taken (LineTooLong line) =
    NoneFailed log × (line ≡ lines_count taken + 1) × IfSome log.bytes (IsBeforeLong version taken)
HasLogCause full log version taken TooManyLines = NoneFailed log × (length taken ≡ MAX_MESSAGES)
    × HaveMoreThan MAX_MESSAGES version log.bytes
HasLogCause full log version taken (Full book count) = NoneFailed log × full taken book count
HasLogCause full log version taken _ = ⊥

-- No further message of the log is taken than these: they are all, or there is such a cause.
abbrev pub EndsLog : (List (List ℕ) → Which → ℕ → Type 0) → Log → ℕ → List (List ℕ) → Type 0
EndsLog full log version taken = AreAllOf version log.bytes taken ⊎ ((cause : Cause) × HasLogCause full log version taken cause)

-- What a cause says, where these messages of the log were sealed. Without a cause no read failed. Want of memory is free. A cause
-- of the log says that all messages before it were sealed.
abbrev pub HasJobCause : Grounds → Log → ℕ → List (List ℕ) → Option Cause → Type 0
HasJobCause g log version sealed None = NoneFailed log
HasJobCause g log version sealed (Some (DiskFault opened now)) = g.failed opened now
HasJobCause g log version sealed (Some (ArchiveFull end need)) = g.no_room (EndsLog g.full log version) sealed end need
HasJobCause g log version sealed (Some OutOfMemory) = Unit {0}
HasJobCause g log version sealed (Some cause) = HasLogCause g.full log version sealed cause
