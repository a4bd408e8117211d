-- How far the printing of rows has come.
use Rattle.std.specs.Prelude.{◌≡◌, ℕ, List, ◌++◌, length, drop, Option}
use Rattle.column_store.specs.declared.row.Row.{Row}
use Rattle.row_codec.specs.Means.{AreCanonical}
use Rattle.wild_match.specs.declared.pattern.Item.{Item}
use Rattle.sink_pieces.specs.Output.{Gathers}
use Rattle.printed_lines.specs.Lines.{Placed, lines_of, numbered}
use Rattle.printed_lines.specs.Printed.{AreMatched}

-- the lines of these messages went to the sink, but for what is gathered
pub record HasGathered (pattern : List Item) (all : List Placed) (start now : Option (List ℕ)) (gathered : List ℕ) : Type 0 where
  pub found : List Placed
  pub matched : AreMatched pattern all found
  pub gathers : Gathers start now gathered (lines_of found)

-- the rows before this place are of the messages that are gone, and their lines were gathered
pub record PastRows (version : ℕ) (types words : List (List ℕ)) (pattern : List Item) (name : List ℕ) (number : ℕ) (rows : List Row)
    (place : ℕ) (messages : List (List ℕ)) (start now : Option (List ℕ)) (gathered : List ℕ) : Type 0 where
  pub gone : List (List ℕ)
  pub left : List (List ℕ)
  pub all : messages ≡ gone ++ left
  pub count : length gone ≡ place
  pub are : AreCanonical version (drop place rows) types words left
  pub done : HasGathered pattern (numbered name number gone) start now gathered
