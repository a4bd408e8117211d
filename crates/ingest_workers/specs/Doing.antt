-- A worker at its file.
use Rattle.std.specs.Prelude.{◌≡◌, ℕ, ◌+◌, ◌≤◌, false, List, ◌++◌, length, All}
use mathlib.Core.List.{IsPrefix}
use Rattle.log_seams.specs.Disk.{DiskState}
use Rattle.turn_lock.specs.Words.{seen, number_of}
use Rattle.row_codec.specs.Messages.{IsMessage}
use Rattle.disk_seal.specs.declared.entry.StoreEntry.{StoreEntry}
use Rattle.disk_seal.specs.declared.namer.LockNamer.{LockNamer}
use Rattle.disk_seal.specs.Draft.{journal_seen}
use Rattle.disk_seal.specs.Fixed.{KeeperPass}
use Rattle.ingest_workers.specs.declared.open_segment.OpenSegment.{OpenSegment}
use Rattle.ingest_workers.specs.declared.outcome.Cause.{Cause}
use Rattle.ingest_workers.specs.Causes.{HasSealCause}
use Rattle.ingest_workers.specs.Full.{books_by}
use Rattle.ingest_workers.specs.OpenSegment.{HasMessages}
use Rattle.ingest_workers.specs.Journal.{FrontHolds, HasAdded, HasSoFar, WhereTold, sealed_by}
use Rattle.ingest_workers.specs.MaySeal.{IsWorker}
use Rattle.ingest_workers.specs.Namer.{types_pass, types_seen, words_pass, words_seen}
use Rattle.ingest_workers.specs.NoRoom.{FoundNoRoom}
use Rattle.ingest_meaning.specs.Parts.{IsCut, IsOpen, Part, messages_in, segments_from}

module _ {D R A B C : Type 0} where
  -- Since the pass was `start`, these messages of its file were taken: some are sealed in full segments, the others are in the
  -- open segment.
  pub record Doing (state : D → DiskState) (limit : ℕ) (start p : KeeperPass D) (n : LockNamer R A B C) (segment : OpenSegment)
      (taken : List (List ℕ)) : Type 0 where
    pub closed : List Part
    pub messages : List (List ℕ)
    pub more : List (ℕ × StoreEntry)
    pub taken_is : taken ≡ messages_in closed ++ messages
    pub cut : All (IsCut limit) closed
    pub not_yet : IsOpen limit (record { rows = segment.draft.columns.rows; messages = messages })
    pub has : HasMessages n.version (types_seen n) (words_seen n) messages segment
    pub each : All (IsMessage n.version) messages
    pub first : segment.draft.first ≡ length (messages_in closed)
    pub file : segment.draft.file ≡ number_of p
    pub not_last : segment.draft.last ≡ false
    pub not_ended : segment.draft.ended ≡ false
    pub worker : IsWorker p n
    pub added : HasAdded start p more
    pub segments : WhereTold state start (λ h. sealed_by more ≡ segments_from (number_of start) 0 closed)
    pub so_far : HasSoFar state p (messages_in closed)

module _ {D : Type 0} where
  -- Nothing more of the file is sealed: of the messages that were taken the first ones are, all but as many as the limit of rows.
  pub record Covering (state : D → DiskState) (limit : ℕ) (start p : KeeperPass D) (segment : OpenSegment)
      (taken : List (List ℕ)) : Type 0 where
    pub closed : List Part
    pub more : List (ℕ × StoreEntry)
    pub front : IsPrefix (messages_in closed) taken
    pub few : length taken ≤ length (messages_in closed) + limit
    pub cut : All (IsCut limit) closed
    pub first : segment.draft.first ≡ length (messages_in closed)
    pub added : HasAdded start p more
    pub segments : WhereTold state start (λ h. sealed_by more ≡ segments_from (number_of start) 0 closed)
    pub held : WhereTold state start (λ h. FrontHolds h (journal_seen (seen p)) (number_of start)
        (messages_in closed) false false)

module _ {D R A B C : Type 0} where
  -- So it is since a segment was not sealed, for this cause.
  pub record NotSealed (state : D → DiskState) (limit : ℕ) (start p : KeeperPass D) (n : LockNamer R A B C)
      (segment : OpenSegment) (taken : List (List ℕ)) (cause : Cause) : Type 0 where
    pub covering : Covering state limit start p segment taken
    pub caused : HasSealCause state (FoundNoRoom state limit n.version (books_by (types_pass n) (words_pass n))
        (λ first. IsPrefix first taken) (λ all. ⊥) start p (messages_in covering.closed)) start p cause
