-- How far the loops of a walk have come.
use Rattle.std.specs.Prelude.{◌≡◌, ◌≤◌, ◌+◌, ℕ, List, ◌++◌, take, drop, Option}
use Rattle.log_seams.specs.Disk.{DiskState, Rests}
use Rattle.segment_pages.specs.Paged.{Paged}
use Rattle.archive_open.specs.declared.files.FileEntry.{FileEntry}
use Rattle.archive_open.specs.declared.segments.SegmentPlace.{SegmentPlace}
use Rattle.archive_places.specs.declared.front.SegmentFront.{SegmentFront}
use Rattle.printed_lines.specs.Lines.{Placed}
use Rattle.search_meaning.specs.Scan.{Asked}
use Rattle.search_walk.specs.Held.{HaveMessages, Named, OfSegments}
use Rattle.search_walk.specs.PagesRead.{ReadsPage}
use Rattle.search_walk.specs.Opened.{OfFronts, ReadsFronts}
use Rattle.search_walk.specs.Walked.{PastTold, Searched}

-- what a search of pages has done so far
pub record PagesPast (Reaches : List Placed → Type 0) (seen : Option (List ℕ)) (old new : DiskState) (start now : Paged)
    (n : Named) (name : List ℕ) (number at : ℕ) : Type 0 where
  pub reads : ReadsPage n start old new
  pub faults : new.faults ≡ old.faults
  pub place : at ≡ number + now.pages.row
  pub same : (now.at ≡ start.at) × (now.pages.start ≡ start.pages.start) × (now.pages.rows ≡ start.pages.rows)
      × (now.pages.variables ≡ start.pages.variables)
  pub past : PastTold Reaches seen start n name number now now.pages.row

-- past the first of the segments
pub record SegmentsPast (Reaches : List Placed → Type 0) (bytes : List ℕ) (n : Named) (files : List FileEntry) (q : Asked)
    (ps : List SegmentPlace) (place : ℕ) (all : List Placed) (ticks later count : ℕ) : Type 0 where
  pub gone : List Placed
  pub left : List Placed
  pub parts : all ≡ gone ++ left
  pub have : HaveMessages bytes n files (drop place ps) left
  pub searched : Searched Reaches n q (take place ps) gone ticks later count

abbrev pub SegmentsPastTold : (List Placed → Type 0) → Option (List ℕ) → Named → List FileEntry → Asked → List SegmentPlace
    → ℕ → ℕ → ℕ → ℕ → Type 0
SegmentsPastTold Reaches seen n files q ps place ticks later count =
    OfSegments seen n files ps (λ bytes all. SegmentsPast Reaches bytes n files q ps place all ticks later count)

-- what a search of segments has done so far
pub record SegmentsRun (Reaches : List Placed → Type 0) (old new : DiskState) (n : Named) (files : List FileEntry) (q : Asked)
    (fronts : List SegmentFront) (place ticks later count : ℕ) : Type 0 where
  pub rests : Rests old new
  pub faults : new.faults ≡ old.faults
  pub reads : ReadsFronts old new n files q fronts
  pub past : OfFronts fronts (λ ps. SegmentsPastTold Reaches old.seen n files q ps place ticks later count)
  pub few : count ≤ place
