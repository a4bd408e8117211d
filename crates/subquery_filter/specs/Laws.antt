-- What follows of barren segments.
use Rattle.std.specs.Prelude.{ℕ, Bool, List}
use Rattle.std.specs.List.{Contains, flat_map}
use Rattle.column_store.specs.Range.{Holds}
use Rattle.column_store.specs.declared.range.Range.{Range}
use Rattle.column_store.specs.declared.row.Row.{Row}
use Rattle.wild_match.specs.Matches.{Match}
use Rattle.wild_match.specs.declared.pattern.Item.{Item}
use Rattle.row_codec.specs.Means.{IsCanonical}
use Rattle.row_codec.specs.Numbers.{numbers_of_row}
use Rattle.segment_format.specs.Layout.{head_of, sorted_set}
use Rattle.query_plan.specs.Laws.{IsSearched}
use Rattle.query_plan.specs.Pieces.{wide, wide_pieces}
use Rattle.barren_segments.specs.Barren.{IsBarren}

-- the dictionary numbers of the rows, sorted upwards, each once
abbrev pub words_of : List (List ℕ) → List Row → List ℕ
words_of types rows = sorted_set (flat_map (numbers_of_row types) rows)

-- A segment whose head is that of its rows, and which is barren for a pattern and a range, has no row in
-- the range whose message the pattern that the search is planned over matches.
abbrev pub BarrenHasNoMatch : Type 0
BarrenHasNoMatch =
    (version file first : ℕ) (last ended : Bool) (rows : List Row) (types words : List (List ℕ)) (p : List Item) (range : Range)
    → IsSearched p → IsBarren (wide_pieces p) range types words (head_of file first last ended rows (words_of types rows))
    → (row : Row) (message : List ℕ) → Contains rows row → IsCanonical version row types words message
    → Holds range row.pattern row.moment → ¬ Match (wide p) message
