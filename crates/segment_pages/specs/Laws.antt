-- Where the rows of a journal's segment stand, and what is left behind the last page.
use Rattle.std.specs.Prelude.{◌≡◌, ◌≤◌, ◌+◌, ◌-◌, ℕ, List, [], ◌∷◌, ◌++◌, length}
use Rattle.record_format.specs.declared.header.Header.{Header}
use Rattle.column_store.specs.declared.row.Row.{Row}
use Rattle.segment_format.specs.Layout.{head_of}
use Rattle.archive_meaning.specs.declared.entry.SegmentEntry.{SegmentEntry}
use Rattle.archive_meaning.specs.declared.entry.JournalEntry.{JournalEntry}
use Rattle.archive_meaning.specs.declared.entry.JournalEntry.TheVariants.{Segment}
use Rattle.archive_meaning.specs.Spelled.{front_of, record_of, types_of, words_named}
use Rattle.archive_meaning.specs.Stands.{StandsFor}
use Rattle.segment_pages.specs.Paged.{HoldsLeft, HoldsSegment, Paged}

-- where the bytes stand for a journal, they hold the rows of each of its segments, behind gate, kind and length
abbrev pub SegmentsAreHeld : Type 0
SegmentsAreHeld =
    (bytes : List ℕ) (h : Header) (es before after : List JournalEntry) (s : SegmentEntry)
    → StandsFor bytes h es
    → es ≡ before ++ Segment s ∷ after
    → HoldsSegment (length (front_of h before) + 10) (length (record_of (types_of before) (Segment s)).payload)
    (head_of s.file s.first s.last s.ended s.rows (words_named (types_of before) s.rows)) bytes s.rows

-- behind the last page no rows are left
abbrev pub NoneAreLeft : Type 0
NoneAreLeft = (p : Paged) (bytes : List ℕ) (rows : List Row) → p.pages.rows ≤ p.pages.row → HoldsLeft p bytes rows → rows ≡ []

-- so many rows are left as the pages before have not had
abbrev pub LeftAreCounted : Type 0
LeftAreCounted = (p : Paged) (bytes : List ℕ) (rows : List Row) → HoldsLeft p bytes rows → length rows ≡ p.pages.rows - p.pages.row
