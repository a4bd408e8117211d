-- What is left of a job.
use Rattle.std.specs.Prelude.{◌≡◌, ◌⊎◌, ℕ, ◌+◌, ◌≤◌, ◌&&◌, Bool, true, List, ◌++◌, length, Option, None, Some, All}
use mathlib.Core.List.{IsPrefix}
use Rattle.log_seams.specs.Disk.{DiskState}
use Rattle.turn_lock.specs.Words.{seen, number_of}
use Rattle.disk_seal.specs.declared.entry.StoreEntry.{StoreEntry}
use Rattle.disk_seal.specs.Draft.{journal_seen}
use Rattle.disk_seal.specs.Fixed.{KeeperPass}
use Rattle.ingest_workers.specs.declared.outcome.Cause.{Cause}
use Rattle.ingest_workers.specs.declared.outcome.Outcome.{Outcome}
use Rattle.ingest_workers.specs.Causes.{HasSealCause}
use Rattle.ingest_workers.specs.Full.{Books}
use Rattle.ingest_workers.specs.Journal.{FrontHolds, HasAdded, WhereTold, sealed_by}
use Rattle.ingest_workers.specs.NoRoom.{FoundNoRoom}
use Rattle.ingest_meaning.specs.Parts.{IsCut, IsOpen, Part, messages_in, rest_of, segments_from}
use Rattle.ingest_workers.specs.FileEnd.{refused_by}

module _ {D : Type 0} where
  -- Since the pass was `start` it has added these messages of its file, in full segments and one of the rest. The journal that it
  -- has seen begins with entries that hold exactly them.
  pub record HasDone (state : D → DiskState) (limit : ℕ) (start p : KeeperPass D) (covered : List (List ℕ))
      (whole ended : Bool) : Type 0 where
    pub closed : List Part
    pub rest : Part
    pub more : List (ℕ × StoreEntry)
    pub covered_is : covered ≡ messages_in closed ++ rest.messages
    pub cut : All (IsCut limit) closed
    pub not_yet : IsOpen limit rest
    pub added : HasAdded start p more
    pub segments : WhereTold state start (λ h. sealed_by more ≡ segments_from (number_of start) 0 closed ++ rest_of
        (number_of start) (length (messages_in closed)) whole ended rest)
    pub held : WhereTold state start (λ h. FrontHolds h (journal_seen (seen p)) (number_of start) covered whole (whole && ended))

  -- The outcome counts those of the messages taken that are sealed, and has no cause where the file is whole. Its cause is the
  -- one for which no further message was taken, and then all of them are sealed; or why a segment was not, where this is known
  -- of the books: `last` holds of the messages up to those of a rest that was refused. Of those that were met no more than the
  -- limit of rows are not.
  pub record IsOutcome (state : D → DiskState) (limit version : ℕ) (books : Books) (start p : KeeperPass D)
      (taken : List (List ℕ)) (last : List (List ℕ) → Type 0) (ended : Bool) (why : Option Cause) (o : Outcome) : Type 0 where
    pub covered : List (List ℕ)
    pub front : IsPrefix covered taken
    pub few : length taken + refused_by why ≤ length covered + limit
    pub all : o.whole ≡ true → covered ≡ taken
    pub whole_none : o.whole ≡ true → o.cause ≡ None
    pub caused : ((o.cause ≡ why) × (covered ≡ taken))
        ⊎ ((c : Cause) × (o.cause ≡ Some c) × HasSealCause state
        (FoundNoRoom state limit version books (λ first. IsPrefix first taken) last start p covered) start p c)
    pub count : o.messages ≡ length covered
    pub done : HasDone state limit start p covered o.whole ended
