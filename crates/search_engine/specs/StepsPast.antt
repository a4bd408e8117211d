-- How far the loop over the rows of a page has come.
use Rattle.std.specs.Prelude.{◌≡◌, ℕ, List, ◌++◌, length, drop, Option}
use Rattle.column_store.specs.declared.row.Row.{Row}
use Rattle.search_walk.specs.Held.{AreRowsOf, Named}
use Rattle.printed_lines.specs.Lines.{numbered}
use Rattle.search_meaning.specs.Scan.{Asked}
use Rattle.search_engine.specs.Sofar.{Passes, Sofar}

-- past the first of a page's rows
pub record PastRows (n : Named) (q : Asked) (name : List ℕ) (number : ℕ) (rows : List Row) (place : ℕ)
    (messages : List (List ℕ)) (a b : Option (List ℕ) → Sofar) : Type 0 where
  pub gone : List (List ℕ)
  pub left : List (List ℕ)
  pub all : messages ≡ gone ++ left
  pub count : length gone ≡ place
  pub are : AreRowsOf n (drop place rows) left
  pub passes : (w : Option (List ℕ)) → Passes n.version q (numbered name number gone) (a w) (b w)
