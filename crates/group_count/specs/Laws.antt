-- What holds of groups of messages that are kept as rows, of the shapes of log types, and of what is expanded.
use Rattle.std.specs.Prelude.{◌≡◌, ℕ, ℤ, ◌<◌, ◌≤◌, ◌↔◌, Bool, IsTrue, List, [], map, length, Option, All}
use Rattle.logtype_text.specs.declared.symbols.Symbol.{Symbol}
use Rattle.logtype_text.specs.TypeText.{type_text}
use Rattle.column_store.specs.declared.row.Row.{Row}
use Rattle.row_codec.specs.Means.{AreCanonical}
use Rattle.query_plan.specs.Laws.{IsPlain}
use Rattle.printed_lines.specs.Lines.{Placed}
use Rattle.search_meaning.specs.Scan.{AreTried, Asked}
use Rattle.search_meaning.specs.Grouped.{AreExpanded}
use Rattle.search_meaning.specs.Groups.{HaveMinutes, HaveTypes}
use Rattle.search_meaning.specs.GroupLines.{shape_of, shape_of_symbols}
use Rattle.group_count.specs.Tables.{minute_at, texts_at}

-- the numbers of the rows' log types
abbrev pub numbers_of : List Row → List ℕ
numbers_of rows = map (λ r. r.log_type) rows

-- the minutes that the rows' stamps are in
abbrev pub minutes_of : Bool → List Row → List (Option ℤ)
minutes_of micro rows = map (λ r. minute_at micro r.pattern r.moment) rows

-- the texts of the log types of rows are those of the messages that they are the encodings of
abbrev pub RowsHaveTypes : Type 0
RowsHaveTypes =
    (version : ℕ) (rows : List Row) (types words messages : List (List ℕ)) → AreCanonical version rows types words messages
    → HaveTypes version messages (texts_at types (numbers_of rows)) × All (λ n. n < length types) (numbers_of rows)

-- and so are their minutes
abbrev pub RowsHaveMinutes : Type 0
RowsHaveMinutes =
    (version : ℕ) (micro : Bool) (rows : List Row) (types words messages : List (List ℕ)) → IsTrue micro ↔ (3 ≤ version)
    → AreCanonical version rows types words messages → HaveMinutes version messages (minutes_of micro rows)

-- the shape of a log type's text is that of its symbols
abbrev pub ShapesAreOfSymbols : Type 0
ShapesAreOfSymbols = (symbols : List Symbol) → shape_of (type_text symbols) ≡ shape_of_symbols symbols

-- where the pattern is plain no message is expanded, and else those are that the widened pattern matches
abbrev pub PlainExpandsNone : Type 0
PlainExpandsNone =
    (version : ℕ) (q : Asked) (all expansions : List Placed) → IsPlain q.pattern → AreExpanded version q all expansions
    → expansions ≡ []

abbrev pub OthersExpandTried : Type 0
OthersExpandTried =
    (version : ℕ) (q : Asked) (all expansions : List Placed) → ¬ IsPlain q.pattern → AreExpanded version q all expansions
    → AreTried version q all expansions
