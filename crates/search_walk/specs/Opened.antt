-- Which segments a search opens, and what it reads of them.
use Rattle.std.specs.Prelude.{◌≡◌, ◌⊎◌, ◌≤◌, ◌+◌, ℕ, List, ◌++◌, map, slice_get, Option, Some, option_map, All}
use Rattle.std.specs.List.{Contains}
use Rattle.segment_format.specs.Layout.{fixed_of, head_length}
use Rattle.segment_format.specs.Pages.{first_page}
use Rattle.column_store.specs.declared.row.Row.{Row}
use Rattle.segment_pages.specs.Paged.{HoldsLeft, HoldsSegment, Paged, columns_size}
use Rattle.log_seams.specs.Disk.{DiskState}
use Rattle.archive_open.specs.declared.files.FileEntry.{FileEntry}
use Rattle.archive_open.specs.declared.segments.SegmentPlace.{SegmentPlace}
use Rattle.archive_places.specs.declared.front.SegmentFront.{SegmentFront}
use Rattle.archive_places.specs.Fronts.{front_of_place}
use Rattle.word_places.specs.Reads.{IsOfWords}
use Rattle.search_meaning.specs.Opened.{IsBarrenFor}
use Rattle.search_meaning.specs.Scan.{Asked}
use Rattle.search_walk.specs.Held.{Named, OfSegments}

-- where the columns of a segment begin
abbrev pub columns_at : SegmentPlace → ℕ
columns_at p = p.payload + head_length (fixed_of p.head)

-- P holds of the segments with these fronts, whatever their heads list
abbrev pub OfFronts : List SegmentFront → (List SegmentPlace → Type 0) → Type 0
OfFronts fronts P = (ps : List SegmentPlace) → map front_of_place ps ≡ fronts → P ps

-- the range lies within the columns of one of the segments, which is not barren
pub record IsOfColumns (n : Named) (q : Asked) (ps : List SegmentPlace) (r : ℕ × ℕ) : Type 0 where
  pub p : SegmentPlace
  pub is : Contains ps p
  pub opened : ¬ IsBarrenFor n.types n.words q p
  pub start : columns_at p ≤ r.0
  pub end : r.0 + r.1 ≤ columns_at p + columns_size (first_page p.head)

-- the range lies within the head of one of the segments
pub record IsOfHead (ps : List SegmentPlace) (r : ℕ × ℕ) : Type 0 where
  pub p : SegmentPlace
  pub is : Contains ps p
  pub start : p.payload ≤ r.0
  pub end : r.0 + r.1 ≤ columns_at p

-- a range that a search of the segments reads
abbrev pub IsRead : Named → Asked → List SegmentPlace → ℕ × ℕ → Type 0
IsRead n q ps r = IsOfColumns n q ps r ⊎ (IsOfHead ps r ⊎ IsOfWords n.places r.0 r.1)

-- each range that was read since is such
pub record ReadsOpened (n : Named) (q : Asked) (ps : List SegmentPlace) (old new : Option (List (ℕ × ℕ))) : Type 0 where
  pub more : List (ℕ × ℕ)
  pub added : new ≡ option_map (λ ranges. ranges ++ more) old
  pub each : All (IsRead n q ps) more

-- this is the file of the segment, the reader's columns are those of the segment, and the opening was counted
pub record IsOpened (files : List FileEntry) (p : SegmentPlace) (f : FileEntry) (pages : Paged) (old new : ℕ) : Type 0 where
  pub file : slice_get files p.head.file ≡ Some f
  pub start : pages.at + pages.pages.start ≡ columns_at p
  pub size : columns_size pages.pages ≡ columns_size (first_page p.head)
  pub holds : (bytes : List ℕ) (rows : List Row) → HoldsSegment p.payload p.length p.head bytes rows → HoldsLeft pages bytes rows
  pub ticked : new ≡ old + 1

-- What is said of segments where the bytes of the disk are told and hold their messages: what was read of them, that
-- they were searched, that the search stopped among them, and that the bytes do not hold them.
abbrev pub ReadsTold : DiskState → DiskState → Named → List FileEntry → Asked → List SegmentPlace → Type 0
ReadsTold old new n files q ps = OfSegments old.seen n files ps (λ _ _. ReadsOpened n q ps old.ranges new.ranges)

abbrev pub NoneTold : Option (List ℕ) → Named → List FileEntry → List SegmentPlace → Type 0
NoneTold seen n files ps = OfSegments seen n files ps (λ _ _. ⊥)

-- The same of segments by their fronts.
abbrev pub ReadsFronts : DiskState → DiskState → Named → List FileEntry → Asked → List SegmentFront → Type 0
ReadsFronts old new n files q fronts = OfFronts fronts (λ ps. ReadsTold old new n files q ps)

abbrev pub NoFronts : Option (List ℕ) → Named → List FileEntry → List SegmentFront → Type 0
NoFronts seen n files fronts = OfFronts fronts (λ ps. NoneTold seen n files ps)
