-- Segments whose heads are loaded, with their lists of words or without them.
use Rattle.std.specs.Prelude.{◌≡◌, ◌⊎◌, length}
use Rattle.query_plan.specs.Pieces.{wide_pieces}
use Rattle.subquery_filter.specs.ByTypes.{NeedsNoVariable}
use Rattle.archive_open.specs.declared.segments.SegmentPlace.{SegmentPlace}
use Rattle.archive_places.specs.TypeHeads.{without_words}
use Rattle.search_meaning.specs.Scan.{Asked}
use Rattle.search_walk.specs.declared.loaded.LoadedSegment.{LoadedSegment}

-- the whole head was read
abbrev pub IsWhole : LoadedSegment → SegmentPlace → Type 0
IsWhole s p = (s.place ≡ p) × (s.unread ≡ 0)

-- all of the head was read but its list of words
abbrev pub IsSpared : LoadedSegment → SegmentPlace → Type 0
IsSpared s p = (s.place ≡ without_words p) × (s.unread ≡ length p.head.words)

-- the segment that is at this place was loaded; without its words only where no needed word is a variable
abbrev pub IsLoaded : Asked → LoadedSegment → SegmentPlace → Type 0
IsLoaded q s p = IsWhole s p ⊎ (NeedsNoVariable (wide_pieces q.pattern) × IsSpared s p)

-- P holds of the segment that was loaded
abbrev pub OfLoaded : Asked → LoadedSegment → (SegmentPlace → Type 0) → Type 0
OfLoaded q s P = (p : SegmentPlace) → IsLoaded q s p → P p
