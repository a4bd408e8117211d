-- What is told of a row that is not written.
use Rattle.std.specs.Prelude.{◌≡◌, ◌↔◌, ◌≤◌, ℕ, Bool, IsTrue, List}
use Rattle.wild_match.specs.Matches.{Match}
use Rattle.wild_match.specs.declared.pattern.Item.{Item}
use Rattle.column_store.specs.declared.row.Row.{Row}
use Rattle.row_codec.specs.Means.{IsCanonical}
use Rattle.query_plan.specs.declared.pieces.Piece.{Piece}
use Rattle.query_plan.specs.declared.pieces.TheConstants.{MAX_OPEN_TOKENS}
use Rattle.query_plan.specs.Laws.{NoOne}
use Rattle.query_plan.specs.Pieces.{open_tokens, wide_pieces}
use Rattle.subquery_filter.specs.Filter.{IsRowVerdict}
use Rattle.subquery_filter.specs.declared.verdicts.Verdict.{Verdict}

-- Of a pattern that is searched by these pieces, and has no `?` and no more open tokens than stay in them, it is told
-- whether it matches the message that the row is the encoding of, where the verdict on the row is right.
abbrev pub Judges : List Piece → List (List ℕ) → List (List ℕ) → Row → Verdict → Bool → Type 0
Judges pieces types words row verdict found =
    (pattern : List Item) (version : ℕ) (message : List ℕ) → pieces ≡ wide_pieces pattern → NoOne pattern
    → open_tokens pattern ≤ MAX_OPEN_TOKENS
    → IsRowVerdict pieces types words row verdict → IsCanonical version row types words message
    → IsTrue found ↔ Match pattern message
