-- Whether a head is that of a front.
use Rattle.std.specs.Prelude.{◌≡◌, length}
use Rattle.segment_format.specs.declared.head.Head.{Head}
use Rattle.archive_open.specs.declared.segments.SegmentPlace.{SegmentPlace}
use Rattle.archive_places.specs.declared.front.SegmentFront.{SegmentFront}

-- the head has the numbers of the front
pub record HasNumbers (head : Head) (front : SegmentFront) : Type 0 where
  pub file : head.file ≡ front.file
  pub first : head.first ≡ front.first
  pub rows : head.rows ≡ front.rows
  pub least : head.least ≡ front.least
  pub greatest : head.greatest ≡ front.greatest
  pub types : length head.types ≡ front.types
  pub words : length head.words ≡ front.words
  pub variables : head.variables ≡ front.variables

-- and its flags
pub record HasFlags (head : Head) (front : SegmentFront) : Type 0 where
  pub last : head.last ≡ front.last
  pub ended : head.ended ≡ front.ended
  pub stamped : head.stamped ≡ front.stamped

-- what is read for a front
abbrev pub placed_by : SegmentFront → Head → SegmentPlace
placed_by front head = record { at = front.at; payload = front.payload; length = front.length; head = head }
