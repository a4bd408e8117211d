-- The next segment of a file that is taken over.
use Rattle.std.specs.Prelude.{◌≡◌, ℕ, true, false, List, All, Option, Some}
use Rattle.logtype_text.specs.Fair.{IsFairType, IsFairWord}
use Rattle.column_store.specs.declared.row.Row.{Row}
use Rattle.segment_format.specs.declared.head.Head.{Head}
use Rattle.segment_pages.specs.Paged.{HoldsSegment}
use Rattle.archive_meaning.specs.Sums.{AddsRows, open_after}
use Rattle.archive_core.specs.declared.segment.Part.{Part}
use Rattle.archive_core.specs.Part.{MayFollow, segment_of}
use Rattle.archive_core.specs.Rows.{AreMessages}
use Rattle.archive_open.specs.declared.segments.SegmentPlace.{SegmentPlace}
use Rattle.archive_merge.specs.declared.hand.Hand.{Hand}
use Rattle.archive_merge.specs.InHand.{TakesAll, Texts, sum_in}

-- which part of its file a segment with this head is
abbrev pub part_of : Head → Part
part_of head = record { file = head.file; first = head.first; last = head.last; ended = head.ended }

-- the hand has the marks of the segment with this head, and is of the same file behind as many messages
pub record HasMarksOf (head : Head) (old new : Hand) : Type 0 where
  pub file : new.draft.file ≡ old.draft.file
  pub first : new.draft.first ≡ old.draft.first
  pub last : new.draft.last ≡ head.last
  pub ended : new.draft.ended ≡ head.ended

-- The rows of the segment at the place came into the hand with its marks. They are the encodings of these messages, and the
-- segment goes on with what the file in hand had. Where the bytes are told, they are all rows of the segment that stands there.
pub record TakesNext (version : ℕ) (old before after : Texts) (place : SegmentPlace) (seen : Option (List ℕ))
    (hand hand_new : Hand) : Type 0 where
  pub rows : List Row
  pub messages : List (List ℕ)
  pub source : AreMessages version old.types old.words rows messages
  pub takes : TakesAll old before after rows hand hand_new
  pub told : (bytes : List ℕ) (all : List Row) → seen ≡ Some bytes
      → HoldsSegment place.payload place.length place.head bytes all → all ≡ rows
  pub follows : MayFollow (sum_in hand) (part_of place.head) hand_new.draft.columns.rows
  pub marks : HasMarksOf place.head hand hand_new
  pub open_is : hand_new.open_end ≡ open_after hand.open_end messages
  pub end : place.head.last ≡ true → place.head.ended ≡ false → hand_new.open_end ≡ true

-- The texts are fair, and the bytes hold a segment at the place with encodings of messages, which goes on with a file of what
-- the file in hand had.
pub record HoldsNext (version : ℕ) (old : Texts) (place : SegmentPlace) (bytes : List ℕ) (hand : Hand) : Type 0 where
  pub rows : List Row
  pub messages : List (List ℕ)
  pub holds : HoldsSegment place.payload place.length place.head bytes rows
  pub adds : AddsRows version (sum_in hand) old.types old.words (segment_of (part_of place.head) rows) messages
  pub fair_types : All IsFairType old.types
  pub fair_words : All IsFairWord old.words
