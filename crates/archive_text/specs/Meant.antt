-- The messages that segments on a disk hold.
use Rattle.std.specs.Prelude.{◌≡◌, ℕ, List, [], ◌∷◌, ◌++◌}
use Rattle.std.specs.List.{AllZip}
use Rattle.column_store.specs.declared.row.Row.{Row}
use Rattle.row_codec.specs.Means.{Means}
use Rattle.segment_pages.specs.Paged.{HoldsSegment}
use Rattle.archive_open.specs.declared.segments.SegmentPlace.{SegmentPlace}

-- the rows mean the messages, in order
abbrev pub AreMeant : List (List ℕ) → List (List ℕ) → List Row → List (List ℕ) → Type 0
AreMeant types words rows messages = AllZip (λ row message. Means row types words message) rows messages

-- the bytes hold a segment at a place, whose rows mean the messages
pub record HoldsMessages (types words : List (List ℕ)) (place : SegmentPlace)
    (bytes : List ℕ) (messages : List (List ℕ)) : Type 0 where
  pub rows : List Row
  pub holds : HoldsSegment place.payload place.length place.head bytes rows
  pub meant : AreMeant types words rows messages

-- they hold segments one after the other
abbrev pub HoldAll : List (List ℕ) → List (List ℕ) → List SegmentPlace → List ℕ → List (List ℕ) → Type 0
HoldAll types words [] bytes messages = messages ≡ []
HoldAll types words (place ∷ places) bytes messages =
    (first : List (List ℕ)) × (rest : List (List ℕ)) × (messages ≡ first ++ rest)
    × HoldsMessages types words place bytes first × HoldAll types words places bytes rest
