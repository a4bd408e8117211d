-- What became of a file of the second archive.
use Rattle.std.specs.Prelude.{◌≡◌, ◌&&◌, ◌∷◌, ℕ, Bool, true, false, List, [], length, Option, Some, All}
use Rattle.std.specs.List.{Contains, list_any, sum_by}
use mathlib.Core.List.{IsPrefix}
use Rattle.log_seams.specs.Disk.{DiskState}
use Rattle.turn_lock.specs.Words.{number_of, seen}
use Rattle.archive_meaning.specs.declared.entry.SegmentEntry.{SegmentEntry}
use Rattle.archive_open.specs.declared.segments.SegmentPlace.{SegmentPlace}
use Rattle.disk_seal.specs.declared.entry.StoreEntry.{StoreEntry}
use Rattle.disk_seal.specs.Draft.{journal_seen}
use Rattle.disk_seal.specs.Fixed.{KeeperPass}
use Rattle.ingest_workers.specs.Journal.{FrontHolds, HasAdded, HasSoFar, WhereTold, sealed_by}
use Rattle.archive_merge.specs.declared.file.Merged.{Merged}
use Rattle.archive_merge.specs.InHand.{Texts}
use Rattle.archive_merge.specs.Runs.{HoldRun, SoFar, nothing_so_far}

-- the segment has as many rows as the one at the place, the same place in its file and the same marks, and is of this file
pub record IsCutAs (number : ℕ) (place : SegmentPlace) (s : SegmentEntry) : Type 0 where
  pub file : s.file ≡ number
  pub first : s.first ≡ place.head.first
  pub rows : length s.rows ≡ place.head.rows
  pub marks : (s.last ≡ place.head.last) × (s.ended ≡ place.head.ended)

-- so are these segments, by the first places
abbrev pub AreCutAs : ℕ → List SegmentPlace → List SegmentEntry → Type 0
AreCutAs number places [] = Unit {0}
AreCutAs number [] (s ∷ ss) = ⊥
AreCutAs number (p ∷ ps) (s ∷ ss) = IsCutAs number p s × AreCutAs number ps ss

-- The file is no whole one, and the segment at one of the places goes on with it.
pub record IsNotDone (places : List SegmentPlace) (file : Merged) : Type 0 where
  pub part : file.whole ≡ false
  pub place : SegmentPlace
  pub there : Contains places place
  pub next : place.head.first ≡ file.messages

module _ {D : Type 0} (state : D → DiskState) where
  -- the file has the pass' number, and nothing of it is sealed
  pub record IsNewFile (file : Merged) (p : KeeperPass D) : Type 0 where
    pub number : file.file ≡ number_of p
    pub messages_none : file.messages ≡ 0
    pub not_whole : file.whole ≡ false
    pub so_far : HasSoFar state p []

  -- Since the pass was `start` it has added segments of its file with these messages and marks, and the journal that it has seen
  -- begins with entries that hold them. Where the second archive's bytes are told and the places are a run to what it has of a file,
  -- they are the first of that file's messages, in segments as those at the first places; all of them, with its marks, where all
  -- places were done; and where not, the file is not done.
  pub record CameOver (version : ℕ) (old : Texts) (places : List SegmentPlace) (told : Option (List ℕ)) (all_done : Bool)
      (start p : KeeperPass D) (file file_new : Merged) : Type 0 where
    pub same_file : file_new.file ≡ file.file
    pub covered : List (List ℕ)
    pub ended : Bool
    pub count : file_new.messages ≡ length covered
    pub more : List (ℕ × StoreEntry)
    pub added : HasAdded start p more
    pub segments : List SegmentEntry
    pub mine : All (λ (s : SegmentEntry). s.file ≡ number_of start) segments
    pub sealed : WhereTold state start (λ h. sealed_by more ≡ segments)
    pub rows_count : sum_by (λ (s : SegmentEntry). length s.rows) segments ≡ length covered
    pub last_is : list_any (λ (s : SegmentEntry). s.last) segments ≡ file_new.whole
    pub ended_is : list_any (λ (s : SegmentEntry). s.last && s.ended) segments ≡ (file_new.whole && ended)
    pub held : WhereTold state start (λ h.
        FrontHolds h (journal_seen (seen p)) (number_of start) covered file_new.whole (file_new.whole && ended))
    pub first : (bytes : List ℕ) (all : SoFar) → told ≡ Some bytes
        → HoldRun version old bytes places nothing_so_far all → IsPrefix covered all.messages
    pub all : all_done ≡ true → (bytes : List ℕ) (all : SoFar) → told ≡ Some bytes
        → HoldRun version old bytes places nothing_so_far all
        → all ≡ record { messages = covered; whole = file_new.whole; ended = file_new.whole && ended }
    pub cuts : (bytes : List ℕ) (all : SoFar) → told ≡ Some bytes
        → HoldRun version old bytes places nothing_so_far all → AreCutAs (number_of start) places segments
    pub not_done : all_done ≡ false → (bytes : List ℕ) (all : SoFar) → told ≡ Some bytes
        → HoldRun version old bytes places nothing_so_far all → IsNotDone places file_new
