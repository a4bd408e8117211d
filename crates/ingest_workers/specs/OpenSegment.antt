-- The segment of a file that a worker adds messages to.
use Rattle.std.specs.Prelude.{◌≡◌, ℕ, ◌<◌, false, List, [], length}
use Rattle.std.specs.List.{flat_map, sum_by}
use Rattle.column_store.specs.Row.{variable_count}
use Rattle.row_codec.specs.Means.{AreCanonical}
use Rattle.row_codec.specs.Numbers.{numbers_of_row}
use Rattle.ingest_workers.specs.declared.open_segment.OpenSegment.{OpenSegment}

-- the rows are the encodings of these messages by these texts, with their dictionary numbers and their bytes
pub record HasMessages (version : ℕ) (types words : List (List ℕ)) (messages : List (List ℕ))
    (segment : OpenSegment) : Type 0 where
  pub canonical : AreCanonical version segment.draft.columns.rows types words messages
  pub used : segment.used.items ≡ flat_map (numbers_of_row types) segment.draft.columns.rows
  pub bytes : segment.draft.columns.bytes ≡ sum_by length messages

-- it can take a row more
pub record HasRoom (segment : OpenSegment) : Type 0 where
  pub rows : length segment.draft.columns.rows < 65536
  pub variables : variable_count segment.draft.columns.rows < 1048576

-- the file, the count of messages before these, and the marks
pub record SameMarks (old new : OpenSegment) : Type 0 where
  pub file : new.draft.file ≡ old.draft.file
  pub first : new.draft.first ≡ old.draft.first
  pub last : new.draft.last ≡ old.draft.last
  pub ended : new.draft.ended ≡ old.draft.ended

-- it has the same rows
pub record SameRows (old new : OpenSegment) : Type 0 where
  pub columns : new.draft.columns ≡ old.draft.columns
  pub used : new.used.items ≡ old.used.items

-- it has nothing, behind so many messages of the file
pub record IsEmptySegment (file first : ℕ) (segment : OpenSegment) : Type 0 where
  pub file_is : segment.draft.file ≡ file
  pub first_is : segment.draft.first ≡ first
  pub rows : segment.draft.columns.rows ≡ []
  pub bytes : segment.draft.columns.bytes ≡ 0
  pub used : segment.used.items ≡ []
  pub not_last : segment.draft.last ≡ false
  pub not_ended : segment.draft.ended ≡ false
