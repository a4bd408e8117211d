-- What follows for the segments of the second archive.
use Rattle.std.specs.Prelude.{◌≡◌, ℕ, List, Some, All, length}
use Rattle.std.specs.List.{AllZip, filter, filter_map}
use Rattle.std.specs.List.Sorted.{IsNonDecreasingBy}
use Rattle.logtype_text.specs.Fair.{IsFairType, IsFairWord}
use Rattle.record_format.specs.declared.header.Header.{Header}
use Rattle.archive_meaning.specs.declared.entry.JournalEntry.{JournalEntry}
use Rattle.archive_meaning.specs.declared.entry.SegmentEntry.{SegmentEntry}
use Rattle.archive_meaning.specs.Stands.{StandsFor}
use Rattle.archive_open.specs.Kept.{Kept}
use Rattle.archive_open.specs.Shown.{IsArchiveOf, Shown}
use Rattle.archive_open.specs.declared.segments.SegmentPlace.{SegmentPlace}
use Rattle.archive_open.specs.OfFile.{is_of}
use Rattle.ingest_meaning.specs.Parts.{in_file}
use Rattle.segment_pages.specs.Paged.{HoldsSegment}
use Rattle.archive_merge.specs.Behind.{HasRun, SecondView}
use Rattle.archive_merge.specs.InHand.{Texts}
use Rattle.archive_merge.specs.Merger.{file_at}
use Rattle.archive_merge.specs.Runs.{HoldRun, held_of, nothing_so_far}

abbrev pub texts_kept : Kept → Texts
texts_kept kept = record { types = kept.types; words = kept.words }

-- Where the bytes stand for a journal, the segments of a file in the journal's archive, in the archive's order, each go on with
-- what those before it left, and leave what the journal holds of the file.
abbrev pub SegmentsGoOn : Type 0
SegmentsGoOn =
    (bytes : List ℕ) (h : Header) (es : List JournalEntry) (a : Shown) (number : ℕ) (stood : StandsFor bytes h es)
    → IsArchiveOf a h es stood.legal.held
    → HoldRun a.kept.version (texts_kept a.kept) bytes (filter (is_of number) a.segments) nothing_so_far
    (held_of number stood.legal.held)

-- the bytes hold the segment at the place, with its place in its file and its marks
pub record IsSegmentAt (bytes : List ℕ) (place : SegmentPlace) (s : SegmentEntry) : Type 0 where
  pub first : place.head.first ≡ s.first
  pub rows : place.head.rows ≡ length s.rows
  pub marks : (place.head.last ≡ s.last) × (place.head.ended ≡ s.ended)
  pub holds : HoldsSegment place.payload place.length place.head bytes s.rows

-- And they are the journal's segments of the file, in its order.
abbrev pub SegmentsAreTheirs : Type 0
SegmentsAreTheirs =
    (bytes : List ℕ) (h : Header) (es : List JournalEntry) (a : Shown) (number : ℕ) (stood : StandsFor bytes h es)
    → IsArchiveOf a h es stood.legal.held
    → AllZip (IsSegmentAt bytes) (filter (is_of number) a.segments) (filter_map (in_file number) es)

-- the texts of the archive are those that dictionaries may hold
abbrev pub TextsAreFair : Type 0
TextsAreFair =
    (bytes : List ℕ) (h : Header) (es : List JournalEntry) (a : Shown) (stood : StandsFor bytes h es)
    → IsArchiveOf a h es stood.legal.held
    → All IsFairType a.kept.types × All IsFairWord a.kept.words

-- the archive's segments are sorted by file
abbrev pub FilesRise : Type 0
FilesRise =
    (bytes : List ℕ) (h : Header) (es : List JournalEntry) (a : Shown) (stood : StandsFor bytes h es)
    → IsArchiveOf a h es stood.legal.held → IsNonDecreasingBy file_at a.segments

-- what contracts tell of an archive whose disk has these bytes
abbrev pub view_in : List ℕ → Shown → SecondView
view_in bytes a = record {
  version = a.kept.version;
  texts = texts_kept a.kept;
  told = Some bytes;
  segments = a.segments;
}

-- Where the bytes stand for a journal, the segments of each file in the journal's archive are a run to what it holds of the file.
abbrev pub FilesAreRuns : Type 0
FilesAreRuns =
    (bytes : List ℕ) (h : Header) (es : List JournalEntry) (a : Shown) (number : ℕ) (stood : StandsFor bytes h es)
    → IsArchiveOf a h es stood.legal.held → HasRun (view_in bytes a) number (held_of number stood.legal.held)
