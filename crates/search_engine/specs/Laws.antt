-- What follows of what a search finds and expands.
use Rattle.std.specs.Prelude.{◌≡◌, ◌≤◌, ℕ, List}
use Rattle.query_plan.specs.declared.pieces.TheConstants.{MAX_OPEN_TOKENS}
use Rattle.query_plan.specs.Laws.{NoOne}
use Rattle.query_plan.specs.Pieces.{open_tokens}
use Rattle.printed_lines.specs.Lines.{Placed}
use Rattle.search_meaning.specs.Scan.{AreFound, AreTried, Asked}

-- where the pattern has no `?` and at most four open tokens, what is expanded is what is printed
abbrev pub ExactExpandsPrinted : Type 0
ExactExpandsPrinted =
    (version : ℕ) (q : Asked) (all found tried : List Placed) → NoOne q.pattern → open_tokens q.pattern ≤ MAX_OPEN_TOKENS
    → AreFound version q all found → AreTried version q all tried → tried ≡ found

-- of a list of messages one list is found
abbrev pub OneIsFound : Type 0
OneIsFound = (version : ℕ) (q : Asked) (all found other : List Placed) → AreFound version q all found
    → AreFound version q all other → found ≡ other
