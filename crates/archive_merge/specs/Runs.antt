-- The segments of one file of the second archive, one after the other.
use Rattle.std.specs.Prelude.{◌≡◌, ◌≤◌, ◌&&◌, ℕ, Bool, false, List, [], ◌∷◌, ◌++◌, length, Option, Some}
use Rattle.std.specs.List.{Contains}
use Rattle.column_store.specs.declared.row.Row.{Row}
use Rattle.segment_format.specs.declared.head.Head.{Head}
use Rattle.segment_pages.specs.Paged.{HoldsSegment}
use Rattle.archive_meaning.specs.declared.sums.FileSum.{FileSum}
use Rattle.archive_meaning.specs.Held.{Held, is_ended, is_whole, last_is_open, messages_of}
use Rattle.archive_meaning.specs.Sums.{AddsRows}
use Rattle.archive_core.specs.Part.{segment_of}
use Rattle.archive_open.specs.declared.segments.SegmentPlace.{SegmentPlace}
use Rattle.archive_merge.specs.InHand.{Texts}
use Rattle.archive_merge.specs.Next.{part_of}

-- the messages of a file so far, whether its last segment is there, and whether a newline followed the last of them then
pub record SoFar : Type 0 where
  pub messages : List (List ℕ)
  pub whole : Bool
  pub ended : Bool

abbrev pub nothing_so_far : SoFar
nothing_so_far = record { messages = []; whole = false; ended = false }

-- what a journal holds of the file with this number
abbrev pub held_of : ℕ → Held → SoFar
held_of number held = record {
  messages = messages_of number held.pieces;
  whole = is_whole number held.pieces;
  ended = is_ended number held.pieces;
}

-- its sum
abbrev pub sum_of : SoFar → FileSum
sum_of now = record { messages = length now.messages; whole = now.whole; open_end = last_is_open now.messages }

-- with a segment more, of this head and these messages
abbrev pub so_far_with : SoFar → Head → List (List ℕ) → SoFar
so_far_with now head messages = record {
  messages = now.messages ++ messages;
  whole = head.last;
  ended = head.last && head.ended;
}

-- The bytes hold a segment at each of the places. The first goes on with a file that has this, each further one with what the
-- file has then, and behind the last it has all.
abbrev pub HoldRun : ℕ → Texts → List ℕ → List SegmentPlace → SoFar → SoFar → Type 0
HoldRun version old bytes [] now all = all ≡ now
HoldRun version old bytes (place ∷ places) now all =
    (rows : List Row) × (messages : List (List ℕ))
    × HoldsSegment place.payload place.length place.head bytes rows
    × AddsRows version (sum_of now) old.types old.words (segment_of (part_of place.head) rows) messages
    × HoldRun version old bytes places (so_far_with now place.head messages) all

-- The place is one of these. Where the bytes are told and the places are a run, its segment has its place in the file not behind so
-- many messages.
pub record IsReached (version : ℕ) (old : Texts) (places : List SegmentPlace) (told : Option (List ℕ)) (messages : ℕ)
    (place : SegmentPlace) : Type 0 where
  pub there : Contains places place
  pub within : (bytes : List ℕ) (all : SoFar) → told ≡ Some bytes → HoldRun version old bytes places nothing_so_far all
      → place.head.first ≤ messages
