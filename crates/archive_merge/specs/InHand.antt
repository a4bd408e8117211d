-- What is in hand of a file that is taken over.
use Rattle.std.specs.Prelude.{◌≡◌, ℕ, ◌+◌, ◌<◌, ◌^◌, Bool, List, [], ◌∷◌, ◌++◌, length, Some, slice_get}
use Rattle.std.specs.List.{flat_map}
use Rattle.column_store.specs.declared.row.Row.{Row}
use Rattle.column_store.specs.Row.{variable_count}
use Rattle.row_codec.specs.Means.{AreCanonical, IsCanonical}
use Rattle.row_codec.specs.Numbers.{numbers_of_row}
use Rattle.row_rename.specs.Causes.{MayRename}
use Rattle.row_rename.specs.Renamed.{used_in}
use Rattle.archive_meaning.specs.declared.sums.FileSum.{FileSum}
use Rattle.archive_meaning.specs.Sums.{open_after}
use Rattle.archive_core.specs.Rows.{AreMessages}
use Rattle.archive_merge.specs.declared.hand.Hand.{Hand}

-- what the numbers of an archive's rows stand for
pub record Texts : Type 0 where
  pub types : List (List ℕ)
  pub words : List (List ℕ)

-- nothing is in hand
pub record IsEmpty (hand : Hand) : Type 0 where
  pub rows : hand.draft.columns.rows ≡ []
  pub used : used_in hand.renamed ≡ []

-- the sum of the file's segments before the one in hand
abbrev pub sum_in : Hand → FileSum
sum_in hand = record { messages = hand.draft.first; whole = hand.draft.last; open_end = hand.open_end }

-- the file, the count of messages before these, and the marks
pub record SameMarks (old new : Hand) : Type 0 where
  pub file : new.draft.file ≡ old.draft.file
  pub first : new.draft.first ≡ old.draft.first
  pub last : new.draft.last ≡ old.draft.last
  pub ended : new.draft.ended ≡ old.draft.ended

-- the rows in hand are the encodings of these messages by these texts, with their dictionary numbers
pub record HasInHand (version : ℕ) (texts : Texts) (messages : List (List ℕ)) (hand : Hand) : Type 0 where
  pub canonical : AreCanonical version hand.draft.columns.rows texts.types texts.words messages
  pub used : used_in hand.renamed ≡ flat_map (numbers_of_row texts.types) hand.draft.columns.rows

-- a row of the second archive came behind those in hand, whatever these are the encodings of
pub record TakesRow (old before after : Texts) (row : Row) (hand hand_new : Hand) : Type 0 where
  pub goes : (version : ℕ) (messages : List (List ℕ)) (message : List ℕ) → IsCanonical version row old.types old.words message
      → HasInHand version before messages hand → HasInHand version after (messages ++ message ∷ []) hand_new
  pub rows_long : length hand_new.draft.columns.rows ≡ length hand.draft.columns.rows + 1
  pub words_long : variable_count hand_new.draft.columns.rows ≡ variable_count hand.draft.columns.rows + length row.words

-- rows of it did
pub record TakesAll (old before after : Texts) (rows : List Row) (hand hand_new : Hand) : Type 0 where
  pub goes : (version : ℕ) (messages more : List (List ℕ)) → AreCanonical version rows old.types old.words more
      → HasInHand version before messages hand → HasInHand version after (messages ++ more) hand_new
  pub rows_long : length hand_new.draft.columns.rows ≡ length hand.draft.columns.rows + length rows
  pub words_long : variable_count hand_new.draft.columns.rows ≡ variable_count hand.draft.columns.rows + variable_count rows

-- these rows are the encodings of messages, and they did; and whether the last message may be a last line without newline
pub record TakesRows (version : ℕ) (old before after : Texts) (rows : List Row) (hand hand_new : Hand)
    (open_before open_end : Bool) : Type 0 where
  pub more : List (List ℕ)
  pub source : AreMessages version old.types old.words rows more
  pub takes : TakesAll old before after rows hand hand_new
  pub open_is : open_end ≡ open_after open_before more

-- the row has the numbers of fair texts, and its variables can be counted beside those in hand
pub record MayTake (types words : List (List ℕ)) (row : Row) (hand : Hand) : Type 0 where
  pub may : MayRename types words row
  pub few : variable_count hand.draft.columns.rows + length row.words < 2 ^ 32

-- so can all rows be
pub record MayTakeAll (types words : List (List ℕ)) (rows : List Row) (hand : Hand) : Type 0 where
  pub each : (place : ℕ) (row : Row) → slice_get rows place ≡ Some row → MayRename types words row
  pub few : variable_count hand.draft.columns.rows + variable_count rows < 2 ^ 32
