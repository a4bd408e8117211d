-- What the payload of a segment has.
use Rattle.std.specs.Prelude.{◌≡◌, ℕ, List, length}
use Rattle.column_store.specs.declared.row.Row.{Row}
use Rattle.segment_format.specs.declared.head.Head.{Head}
use Rattle.archive_meaning.specs.declared.entry.SegmentEntry.{SegmentEntry}
use Rattle.archive_meaning.specs.declared.entry.JournalEntry.TheVariants.{Segment}
use Rattle.archive_meaning.specs.Spelled.{record_of}
use Rattle.archive_meaning.specs.StepsForms.{HasForm}
use Rattle.archive_open.specs.Shown.{head_in}
use Rattle.archive_open.specs.StepsNext.{HasHead}

-- the payload is that of this segment, behind these log types
pub record IsPayloadOf (types : List (List ℕ)) (s : SegmentEntry) (payload : List ℕ) : Type 0 where
  pub form : HasForm types (Segment s)
  pub is : payload ≡ (record_of types (Segment s)).payload

-- The payload begins with this head, and there are as many rows as the head says. Where it is that of a segment, they are that
-- segment's.
pub record HoldsPart (payload : List ℕ) (head : Head) (rows : List Row) : Type 0 where
  pub begins : HasHead head payload
  pub count : length rows ≡ head.rows
  pub head_is : (types : List (List ℕ)) (s : SegmentEntry) → IsPayloadOf types s payload → head ≡ head_in types s
  pub rows_are : (types : List (List ℕ)) (s : SegmentEntry) → IsPayloadOf types s payload → rows ≡ s.rows

-- it is that of no segment
abbrev pub HoldsNoPart : List ℕ → Type 0
HoldsNoPart payload = (types : List (List ℕ)) (s : SegmentEntry) → ¬ IsPayloadOf types s payload
