-- What becomes of a job that a worker does.
use Rattle.std.specs.Prelude.{◌≡◌, ℕ, Bool, true, false, not, List, length, Option, None, Some, IfSome, is_some}
use mathlib.Core.List.{IsPrefix}
use Rattle.log_seams.specs.Disk.{DiskState}
use Rattle.message_reader.specs.Versions.{MessagesOf}
use Rattle.disk_seal.specs.Fixed.{KeeperPass}
use Rattle.ingest_workers.specs.declared.job.Job.{Job}
use Rattle.ingest_workers.specs.declared.outcome.Outcome.{Outcome}
use Rattle.ingest_workers.specs.Causes.{Log, HasJobCause, grounds_of, log_of}
use Rattle.ingest_workers.specs.Done.{HasDone}
use Rattle.ingest_meaning.specs.Given.{AreAllOf, IsOneOf}
use Rattle.ingest_workers.specs.Full.{Books}
use Rattle.ingest_workers.specs.Outcome.{nothing_done}
use Rattle.ingest_workers.specs.Taking.{KeepsSource}

-- what the source of a job that is not done tells
abbrev pub in_source : {S T : Type 0} → (S → Option T) → Option S → Option T
in_source f None = None
in_source f (Some source) = f source

module _ {S : Type 0} where
  -- the message is one of the job's source, in this version; of a source that does not tell its bytes nothing is said
  abbrev pub IsGivenBy : (S → Option (List ℕ)) → ℕ → Job S → List ℕ → Type 0
  IsGivenBy left version j m = IsOneOf version (in_source left j.source) m

module _ {D : Type 0} where
  -- What came of a file, whose messages were those of this log where its bytes are told. The pass has added the messages that the
  -- outcome counts, and they are the first ones of the file. Where it is whole they are all, and its mark is that of the bytes. A
  -- cause is a right one, where this is known of the books.
  pub record CameTo (state : D → DiskState) (limit version : ℕ) (books : Books) (log : Log) (start p : KeeperPass D)
      (o : Outcome) : Type 0 where
    pub covered : List (List ℕ)
    pub ended : Bool
    pub count : o.messages ≡ length covered
    pub done : HasDone state limit start p covered o.whole ended
    pub first : IfSome log.bytes (λ b. (messages : List (List ℕ)) (e : Bool) → MessagesOf version b messages e
        → IsPrefix covered messages)
    pub all : o.whole ≡ true → IfSome log.bytes (λ b. (messages : List (List ℕ)) (e : Bool) → MessagesOf version b messages e
        → (covered ≡ messages) × (ended ≡ e))
    pub caused : HasJobCause (grounds_of state limit version books log.bytes start p) log version covered o.cause

  -- The same of a log that was read: where there is no cause, the messages that the pass has added are all of the file.
  pub record CameToAll (state : D → DiskState) (limit version : ℕ) (books : Books) (log : Log) (start p : KeeperPass D)
      (o : Outcome) : Type 0 where
    pub came : CameTo state limit version books log start p o
    pub none : o.cause ≡ None → AreAllOf version log.bytes came.covered

module _ {S : Type 0} where
  -- the job has its source back
  pub record HasSourceBack (name : S → Option (List ℕ)) (faults : S → ℕ) (j j' : Job S) : Type 0 where
    pub before : S
    pub after : S
    pub had : j.source ≡ Some before
    pub has : j'.source ≡ Some after
    pub keeps : KeepsSource name faults before after

module _ {S D : Type 0} where
  -- The job was done with this pass, in segments of at most so many rows, where this is known of the books then, and has its
  -- source back. Of a file that was to be whole there is a cause exactly where it is not; a part is not whole. Where there is
  -- none, all messages of a source that was read are added; where the source was not opened nothing was done.
  pub record IsDone (state : D → DiskState) (left name : S → Option (List ℕ)) (faults : S → ℕ) (rows version : ℕ) (books : Books)
      (j : Job S) (p : KeeperPass D) (j' : Job S) (q : KeeperPass D) : Type 0 where
    pub file : j'.file ≡ j.file
    pub cause : j.is_open ≡ true → j.is_part ≡ false → is_some j'.outcome.cause ≡ not j'.outcome.whole
    pub part : j.is_part ≡ true → j'.outcome.whole ≡ false
    pub unopened : j.is_open ≡ false → j'.outcome ≡ nothing_done
    pub source : HasSourceBack name faults j j'
    pub came : CameTo state rows version books (log_of left faults source.before source.after) p q j'.outcome
    pub none : j.is_open ≡ true → j'.outcome.cause ≡ None → AreAllOf version (left source.before) came.covered
