-- How far the loops over the rows of a page have come.
use Rattle.std.specs.Prelude.{◌≡◌, ℕ, List, ◌++◌, length, drop}
use Rattle.column_store.specs.declared.row.Row.{Row}
use Rattle.search_walk.specs.Held.{AreRowsOf, Named}
use Rattle.printed_lines.specs.Lines.{numbered}
use Rattle.search_meaning.specs.Scan.{Asked}
use Rattle.group_count.specs.StepsCounted.{Passes, Sofar}

-- past the first of a page's rows
pub record PastRows {T : Type 0} (counted : T → ℕ → List Row → Type 0) (n : Named) (q : Asked) (name : List ℕ) (number : ℕ)
    (rows : List Row) (place : ℕ) (messages : List (List ℕ)) (a b : Sofar T) : Type 0 where
  pub gone : List (List ℕ)
  pub left : List (List ℕ)
  pub all : messages ≡ gone ++ left
  pub count : length gone ≡ place
  pub are : AreRowsOf n (drop place rows) left
  pub passes : Passes counted n q (numbered name number gone) a b
