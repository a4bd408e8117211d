-- When the open segment may be sealed.
use Rattle.std.specs.Prelude.{◌≡◌, ℕ, ◌+◌, ◌<◌, ◌≤◌, true, false, List, [], ◌++◌, length, All}
use Rattle.log_seams.specs.Disk.{DiskState}
use Rattle.turn_lock.specs.Words.{number_of, IsReady}
use Rattle.segment_format.specs.Layout.{sorted_set}
use Rattle.row_codec.specs.Messages.{IsMessage}
use Rattle.archive_meaning.specs.declared.TheConstants.{MAX_ROWS, MAX_MESSAGES}
use Rattle.archive_meaning.specs.Held.{last_is_open}
use Rattle.disk_seal.specs.declared.draft.Draft.{Draft}
use Rattle.disk_seal.specs.declared.namer.LockNamer.{LockNamer}
use Rattle.disk_seal.specs.Fixed.{KeeperPass}
use Rattle.disk_seal.specs.Planned.{segment_of}
use Rattle.disk_seal.specs.Prepare.{HasSeenOpening}
use Rattle.ingest_workers.specs.declared.open_segment.OpenSegment.{OpenSegment}
use Rattle.ingest_workers.specs.OpenSegment.{HasMessages}
use Rattle.ingest_workers.specs.Journal.{HasSoFar}
use Rattle.ingest_workers.specs.Namer.{HasNoRoom, IsNamerOf, types_seen, words_seen}

module _ {D R A B C : Type 0} where
  -- the pass is between two turns and has seen the opening, and the namer goes with it
  pub record IsWorker (p : KeeperPass D) (n : LockNamer R A B C) : Type 0 where
    pub ready : IsReady p
    pub opening : HasSeenOpening p
    pub namer : IsNamerOf p n

  -- The open segment may go on with the file of the pass behind those that it has. Only a last segment may have none, and only
  -- where its last line had its newline, or the file's last message is one without.
  pub record MaySeal (state : D → DiskState) (p : KeeperPass D) (n : LockNamer R A B C) (segment : OpenSegment) : Type 0 where
    pub covered : List (List ℕ)
    pub messages : List (List ℕ)
    pub worker : IsWorker p n
    pub file : segment.draft.file ≡ number_of p
    pub first : segment.draft.first ≡ length covered
    pub so_far : HasSoFar state p covered
    pub has : HasMessages n.version (types_seen n) (words_seen n) messages segment
    pub each : All (IsMessage n.version) messages
    pub few : length segment.draft.columns.rows ≤ MAX_ROWS
    pub most : segment.draft.first + length segment.draft.columns.rows ≤ MAX_MESSAGES
    pub some : segment.draft.last ≡ false → 0 < length segment.draft.columns.rows
    pub ended : segment.draft.ended ≡ true → segment.draft.last ≡ true
    pub end : segment.draft.last ≡ true → segment.draft.ended ≡ false → last_is_open (covered ++ messages) ≡ true

  -- the open segment and the texts before it do not fit
  pub record HasNoRoomFor (state : D → DiskState) (segment : OpenSegment) (end need : ℕ) (p q : KeeperPass D)
      (m n : LockNamer R A B C) : Type 0 where
    pub draft : Draft
    pub is : segment_of draft ≡ segment_of segment.draft
    pub words : draft.words ≡ sorted_set segment.used.items
    pub no_room : HasNoRoom state draft end need p q m n

-- the open segment was sealed, and its messages stand before those to come
pub record IsEmptied (old new : OpenSegment) : Type 0 where
  pub file : new.draft.file ≡ old.draft.file
  pub first : new.draft.first ≡ old.draft.first + length old.draft.columns.rows
  pub last : new.draft.last ≡ old.draft.last
  pub ended : new.draft.ended ≡ old.draft.ended
  pub rows : new.draft.columns.rows ≡ []
  pub bytes : new.draft.columns.bytes ≡ 0
  pub used : new.used.items ≡ []
