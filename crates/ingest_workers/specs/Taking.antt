-- A worker that takes the messages of a source.
use Rattle.std.specs.Prelude.{◌≡◌, ℕ, ◌+◌, ◌≤◌, Bool, true, false, List, length, Option, None, Some, Result, Ok, Err, IfSome}
use Rattle.std.specs.List.{Contains}
use mathlib.Core.List.{IsPrefix}
use Rattle.log_seams.specs.Disk.{DiskState}
use Rattle.line_cut.specs.declared.cut.Progress.TheVariants.{Open}
use Rattle.message_reader.specs.Reading.{ReaderState}
use Rattle.message_reader.specs.Taken.{HasRead}
use Rattle.message_reader.specs.Versions.{MessagesOf}
use Rattle.row_codec.specs.declared.namer.Which.{Which}
use Rattle.archive_meaning.specs.declared.TheConstants.{MAX_MESSAGES}
use Rattle.archive_meaning.specs.Held.{last_is_open}
use Rattle.disk_seal.specs.declared.namer.LockNamer.{LockNamer}
use Rattle.disk_seal.specs.Fixed.{KeeperPass}
use Rattle.ingest_workers.specs.declared.open_segment.OpenSegment.{OpenSegment}
use Rattle.ingest_workers.specs.declared.outcome.Cause.{Cause}
use Rattle.ingest_workers.specs.declared.file_end.FileEnd.{FileEnd}
use Rattle.ingest_workers.specs.declared.file_end.FileEnd.TheVariants.{Part, Lost}
use Rattle.ingest_workers.specs.Causes.{Log, HasLogCause, NoneFailed}
use Rattle.ingest_meaning.specs.Given.{AreFirstOf}
use Rattle.ingest_workers.specs.Full.{WasFullBehind, books_by}
use Rattle.ingest_workers.specs.Doing.{Doing, NotSealed}
use Rattle.ingest_workers.specs.Namer.{types_pass, words_pass}
use Rattle.ingest_workers.specs.Naming.{HasNamed}
use Rattle.ingest_workers.specs.FileEnd.{refused_by}
use Rattle.ingest_workers.specs.Turns.{LearnBoth, stop_in}

-- what became of the source: its name is the same, and its count of faults did not fall
pub record KeepsSource {S : Type 0} (name : S → Option (List ℕ)) (faults : S → ℕ) (old new : S) : Type 0 where
  pub named : name new ≡ name old
  pub later : faults old ≤ faults new

module _ {S D R A B C : Type 0} where
  -- Since the pass was `start` and the namer `m`, the worker took these messages, which the reader gave of a source that told
  -- these bytes. What the caches learned meanwhile, and what the passes added, are texts of them.
  pub record Taking (state : D → DiskState) (left : S → Option (List ℕ)) (limit : ℕ) (bytes : Option (List ℕ))
      (start p : KeeperPass D) (m n : LockNamer R A B C) (segment : OpenSegment) (r : ReaderState S)
      (taken : List (List ℕ)) : Type 0 where
    pub doing : Doing state limit start p n segment taken
    pub read : HasRead left n.version bytes taken r
    pub going : r.progress ≡ Open
    pub few : length taken ≤ MAX_MESSAGES
    pub version : n.version ≡ m.version
    pub learned : LearnBoth state (Contains taken) None start p m n
    pub named : HasNamed (Contains taken) m n

-- whether the last line had its newline, where the source has ended
abbrev pub mark_of : Result Bool FileEnd → Bool
mark_of (Ok ended) = ended
mark_of (Err stop) = false

-- the cause for which no further message is taken, where the messages that were taken may be sealed
abbrev pub why_of : Result Bool FileEnd → Option Cause
why_of (Ok ended) = None
why_of (Err (Part cause)) = Some cause
why_of (Err (Lost cause)) = None

-- The messages up to a segment that is less than a whole part: all that were taken, where these may be sealed.
abbrev pub UpToRest : Result Bool FileEnd → List (List ℕ) → List (List ℕ) → Type 0
UpToRest (Ok ended) taken all = all ≡ taken
UpToRest (Err (Part cause)) taken all = all ≡ taken
UpToRest (Err (Lost cause)) taken all = ⊥

-- What an answer says of the messages taken: at the end of the source they are all, and else the first ones.
abbrev pub AreTaken : Result Bool FileEnd → List (List ℕ) → List (List ℕ) → Bool → Type 0
AreTaken (Ok ended) taken messages e = (taken ≡ messages) × (ended ≡ e)
AreTaken (Err stop) taken messages e = IsPrefix taken messages

-- what the answer says of the log, where these messages of it were taken
abbrev pub HasStopCause : (List (List ℕ) → Which → ℕ → Type 0) → Log → ℕ → List (List ℕ) → Result Bool FileEnd → Type 0
HasStopCause full log version taken (Ok ended) = NoneFailed log
HasStopCause full log version taken (Err (Part cause)) = HasLogCause full log version taken cause
HasStopCause full log version taken (Err (Lost cause)) = Unit {0}

module _ {D R A B C : Type 0} where
  -- At the end of the source what is in the open segment may be sealed, and a last line without its newline has bytes; so it may
  -- be before a message that was not taken. Else nothing more is sealed, since a segment was not.
  abbrev pub StopsAt : (D → DiskState) → ℕ → KeeperPass D → KeeperPass D → LockNamer R A B C → OpenSegment → List (List ℕ)
      → Result Bool FileEnd → Type 0
  StopsAt state limit start p n segment taken (Ok ended) =
      Doing state limit start p n segment taken × (ended ≡ false → last_is_open taken ≡ true)
  StopsAt state limit start p n segment taken (Err (Part cause)) = Doing state limit start p n segment taken
  StopsAt state limit start p n segment taken (Err (Lost cause)) = NotSealed state limit start p n segment taken cause

  -- Since the pass was `start` and the namer `m`, the worker met the first messages of these bytes: those that it took, and the
  -- one that a full dictionary stopped. What the caches learned meanwhile, and what the passes added, are texts of them.
  pub record HasLearned (state : D → DiskState) (version : ℕ) (bytes : Option (List ℕ)) (start p : KeeperPass D)
      (m n : LockNamer R A B C) (answer : Result Bool FileEnd) (taken : List (List ℕ)) : Type 0 where
    pub met : List (List ℕ)
    pub front : IsPrefix taken met
    pub few : length met ≤ length taken + refused_by (why_of answer)
    pub first : AreFirstOf version bytes met
    pub learned : LearnBoth state (Contains met) (stop_in answer) start p m n
    pub named : HasNamed (Contains met) m n

  -- Since the pass was `start` and the namer `m`, the worker took messages of a log, and stopped.
  pub record Took (state : D → DiskState) (limit version : ℕ) (log : Log) (start p : KeeperPass D) (m n : LockNamer R A B C)
      (segment : OpenSegment) (answer : Result Bool FileEnd) : Type 0 where
    pub taken : List (List ℕ)
    pub few : length taken ≤ MAX_MESSAGES
    pub stops : StopsAt state limit start p n segment taken answer
    pub told : IfSome log.bytes (λ b. (messages : List (List ℕ)) (ended : Bool) → MessagesOf version b messages ended
        → AreTaken answer taken messages ended)
    pub learned : HasLearned state version log.bytes start p m n answer taken
    pub caused : HasStopCause (WasFullBehind version (books_by (types_pass n) (words_pass n)) log.bytes) log version taken answer
