-- The lines of the messages that a pattern matches.
use Rattle.std.specs.Prelude.{◌≡◌, ℕ, List, [], ◌∷◌, ◌++◌, Bool, true, false, take, Option}
use Rattle.wild_match.specs.Matches.{Match}
use Rattle.wild_match.specs.declared.pattern.Item.{Item}
use Rattle.sink_pieces.specs.Output.{Grew, GrewByFront}
use Rattle.printed_lines.specs.Lines.{Picks, Placed, lines_of}

-- of these messages the pattern matches those, in order
abbrev pub AreMatched : List Item → List Placed → List Placed → Type 0
AreMatched pattern all found = Picks (λ p. Match pattern p.message) all found

-- what was written of a message stays, with a newline behind it, or goes, back to the first so many bytes
abbrev pub IsLeft : Bool → ℕ → List ℕ → List ℕ → Type 0
IsLeft true kept old new = new ≡ old ++ 10 ∷ []
IsLeft false kept old new = new ≡ take kept old

-- behind the old bytes stand the lines of those that the pattern matches
pub record HasLines (pattern : List Item) (all : List Placed) (old new : List ℕ) : Type 0 where
  pub found : List Placed
  pub matched : AreMatched pattern all found
  pub lines : new ≡ old ++ lines_of found

-- their lines were printed
pub record HasPrinted (pattern : List Item) (all : List Placed) (old new : Option (List ℕ)) : Type 0 where
  pub found : List Placed
  pub matched : AreMatched pattern all found
  pub printed : Grew old new (lines_of found)

-- a front of them was printed
pub record HasPrintedFront (pattern : List Item) (all : List Placed) (old new : Option (List ℕ)) : Type 0 where
  pub found : List Placed
  pub matched : AreMatched pattern all found
  pub printed : GrewByFront old new (lines_of found)
