-- Which segments of an archive a search opens.
use Rattle.std.specs.Prelude.{List, ℕ}
use Rattle.query_plan.specs.Pieces.{wide_pieces}
use Rattle.barren_segments.specs.Barren.{IsBarren}
use Rattle.archive_open.specs.declared.segments.SegmentPlace.{SegmentPlace}
use Rattle.printed_lines.specs.Lines.{Picks}
use Rattle.search_meaning.specs.Scan.{Asked}

-- by these log types and words the segment's head tells that none of its rows is found
abbrev pub IsBarrenFor : List (List ℕ) → List (List ℕ) → Asked → SegmentPlace → Type 0
IsBarrenFor types words q p = IsBarren (wide_pieces q.pattern) q.range types words p.head

-- of these segments those are opened that are not barren
abbrev pub AreOpened : List (List ℕ) → List (List ℕ) → Asked → List SegmentPlace → List SegmentPlace → Type 0
AreOpened types words q ps opened = Picks (λ p. ¬ IsBarrenFor types words q p) ps opened
