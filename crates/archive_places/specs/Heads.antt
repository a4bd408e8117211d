-- Heads on a disk, of which the fixed parts are known.
use Rattle.std.specs.Prelude.{◌≡◌, ℕ, List, take, drop, Option, Some, None}
use Rattle.segment_format.specs.Layout.{IsHead, fixed_of, head_bytes, head_length}
use Rattle.archive_open.specs.declared.segments.SegmentPlace.{SegmentPlace}
use Rattle.archive_places.specs.declared.front.SegmentFront.{SegmentFront}
use Rattle.archive_places.specs.Fronts.{front_of_place}

-- where the segment's payload begins, the bytes are its head
pub record HasHeadAt (bytes : List ℕ) (p : SegmentPlace) : Type 0 where
  pub fits : IsHead p.head
  pub stands : take (head_length (fixed_of p.head)) (drop p.payload bytes) ≡ head_bytes p.head

-- P holds of the segment with this front whose head stands there, if one does, where the disk tells its bytes
abbrev pub OfFront : Option (List ℕ) → SegmentFront → (SegmentPlace → Type 0) → Type 0
OfFront None front P = Unit {0}
OfFront (Some bytes) front P = (p : SegmentPlace) → front_of_place p ≡ front → HasHeadAt bytes p → P p
