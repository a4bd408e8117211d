-- Which part of a file a segment is.
use Rattle.std.specs.Prelude.{◌≡◌, ◌+◌, ◌<◌, ◌≤◌, ◌^◌, true, false, List, length}
use Rattle.column_store.specs.declared.row.Row.{Row}
use Rattle.column_store.specs.Row.{variable_count}
use Rattle.archive_meaning.specs.declared.TheConstants.{MAX_ROWS, MAX_MESSAGES}
use Rattle.archive_meaning.specs.declared.entry.SegmentEntry.{SegmentEntry}
use Rattle.archive_meaning.specs.declared.sums.FileSum.{FileSum}
use Rattle.archive_core.specs.declared.segment.Part.{Part}

-- the segment with these rows
abbrev pub segment_of : Part → List Row → SegmentEntry
segment_of part rows = record { file = part.file; first = part.first; last = part.last; ended = part.ended; rows = rows }

-- a file of this sum may go on with a segment of so many rows and variables, whatever its messages are
pub record MayFollow (sum : FileSum) (part : Part) (rows : List Row) : Type 0 where
  pub first : part.first ≡ sum.messages
  pub goes_on : sum.whole ≡ false
  pub most : part.first + length rows ≤ MAX_MESSAGES
  pub count : length rows ≤ MAX_ROWS
  pub variables : variable_count rows < 2 ^ 32
  pub some : part.last ≡ false → 0 < length rows
  pub ended : part.ended ≡ true → part.last ≡ true
