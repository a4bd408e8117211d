-- How the messages of a file are cut into segments.
use Rattle.std.specs.Prelude.{◌≡◌, ℕ, ◌+◌, ◌<◌, ◌≤◌, Bool, true, false, List, [], ◌∷◌, ◌++◌, length, take, ◌==◌, if◌then◌else◌, Option, None, Some}
use Rattle.std.specs.List.{sum_by}
use Rattle.column_store.specs.declared.row.Row.{Row}
use Rattle.column_store.specs.Columns.{ColumnsState, IsFull}
use Rattle.archive_meaning.specs.declared.entry.SegmentEntry.{SegmentEntry}
use Rattle.archive_meaning.specs.declared.entry.JournalEntry.{JournalEntry}
use Rattle.archive_meaning.specs.declared.entry.JournalEntry.TheVariants.{Files, Types, Words, Segment}

-- consecutive messages of a file, with a row for each
pub record Part : Type 0 where
  pub rows : List Row
  pub messages : List (List ℕ)

-- the rows as columns, with the bytes of the messages
abbrev pub columns_of : Part → ColumnsState
columns_of p = record { rows = p.rows; bytes = sum_by length p.messages }

-- its first k messages
abbrev pub front : ℕ → Part → Part
front k p = record { rows = take k p.rows; messages = take k p.messages }

-- A segment is cut behind these messages and behind no fewer of them: with the last one they are as many as the limit, or
-- have 1,048,576 variables, or 16,777,216 bytes.
pub record IsCut (limit : ℕ) (p : Part) : Type 0 where
  pub even : length p.rows ≡ length p.messages
  pub full : IsFull (columns_of p) limit
  pub no_sooner : (k : ℕ) → k < length p.messages → ¬ IsFull (columns_of (front k p)) limit

-- behind none of these messages a segment is cut
pub record IsOpen (limit : ℕ) (p : Part) : Type 0 where
  pub even : length p.rows ≡ length p.messages
  pub not_yet : (k : ℕ) → k ≤ length p.messages → ¬ IsFull (columns_of (front k p)) limit

abbrev pub messages_in : List Part → List (List ℕ)
messages_in [] = []
messages_in (p ∷ ps) = p.messages ++ messages_in ps

-- the segments of a file that have these parts, one behind the other, of which none is marked last
abbrev pub segments_from : ℕ → ℕ → List Part → List SegmentEntry
segments_from file first [] = []
segments_from file first (p ∷ ps) =
    record { file = file; first = first; last = false; ended = false; rows = p.rows } ∷ segments_from file
    (first + length p.messages) ps

-- The segment of the rest: of a whole file it is marked last, also without messages; else there is one only where there are
-- messages.
abbrev pub rest_of : ℕ → ℕ → Bool → Bool → Part → List SegmentEntry
rest_of file first true ended p = record { file = file; first = first; last = true; ended = ended; rows = p.rows } ∷ []
rest_of file first false ended p = rest_in_hand file first p.rows
  where
    rest_in_hand : ℕ → ℕ → List Row → List SegmentEntry
    rest_in_hand file first [] = []
    rest_in_hand file first (r ∷ rows) = record { file = file; first = first; last = false; ended = false; rows = r ∷ rows } ∷ []

-- the segment, where the entry is one of this file
abbrev pub in_file : ℕ → JournalEntry → Option SegmentEntry
in_file n (Files names) = None
in_file n (Types first texts) = None
in_file n (Words first texts) = None
in_file n (Segment s) = if s.file == n then Some s else None

-- a segment's rows with these messages
abbrev pub part_in : SegmentEntry → List (List ℕ) → Part
part_in s messages = record { rows = s.rows; messages = messages }
