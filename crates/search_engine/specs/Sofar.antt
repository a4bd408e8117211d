-- How far a search has come, and how it goes on.
use Rattle.std.specs.Prelude.{◌≡◌, ◌<◌, ◌≤◌, ◌+◌, ◌^◌, ℕ, List, ◌++◌, length, Option}
use Rattle.sink_pieces.specs.Output.{Grew, GrewByFront}
use Rattle.search_engine.specs.declared.counts.Counts.{Counts}
use Rattle.printed_lines.specs.Lines.{Placed, lines_of}
use Rattle.search_meaning.specs.Scan.{AreFound, AreTried, Asked}

-- what the sink has taken, what is gathered for it, the counts, and the ticks of expanded messages
pub record Sofar : Type 0 where
  pub written : Option (List ℕ)
  pub gathered : List ℕ
  pub counts : Counts
  pub ticks : ℕ

abbrev pub sofar : Option (List ℕ) → List ℕ → Counts → ℕ → Sofar
sofar written gathered counts ticks = record { written = written; gathered = gathered; counts = counts; ticks = ticks }

-- what was gathered and then the text went on to the sink, but for what is gathered now
pub record Goes (a b : Sofar) (text : List ℕ) : Type 0 where
  pub front : List ℕ
  pub splits : a.gathered ++ text ≡ front ++ b.gathered
  pub grew : Grew a.written b.written front

-- a count of 64 bits went on by so much, where that fits
abbrev pub Counted : ℕ → ℕ → ℕ → Type 0
Counted old new more = old + more < 2 ^ 64 → new ≡ old + more

-- the search has gone on by these messages: these were found, and those expanded
pub record Advances (a b : Sofar) (found tried : List Placed) : Type 0 where
  pub goes : Goes a b (lines_of found)
  pub matched : Counted a.counts.matched b.counts.matched (length found)
  pub expanded : Counted a.counts.expanded b.counts.expanded (length tried)
  pub ticks : b.ticks ≡ a.ticks + length tried

-- the search has gone past these messages
pub record Passes (version : ℕ) (q : Asked) (all : List Placed) (a b : Sofar) : Type 0 where
  pub found : List Placed
  pub tried : List Placed
  pub are_found : AreFound version q all found
  pub are_tried : AreTried version q all tried
  pub advances : Advances a b found tried

-- the search has stopped among these messages: the sink has a front of the text, and no more were expanded
pub record Stops (version : ℕ) (q : Asked) (all : List Placed) (a : Sofar) (written : Option (List ℕ)) (ticks : ℕ) : Type 0 where
  pub front : (found : List Placed) → AreFound version q all found → GrewByFront a.written written (a.gathered ++ lines_of found)
  pub most : (tried : List Placed) → AreTried version q all tried → ticks ≤ a.ticks + length tried

-- the ticks of a stop alone
abbrev pub TicksWithin : ℕ → Asked → List Placed → ℕ → ℕ → Type 0
TicksWithin version q all old new = (tried : List Placed) → AreTried version q all tried → new ≤ old + length tried
