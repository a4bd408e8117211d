-- Pages that wait and how far a search has come, said of what the search goes over.
use Rattle.std.specs.Prelude.{ℕ, List, Option}
use Rattle.word_places.specs.Held.{HeldNames}
use Rattle.printed_lines.specs.Lines.{Placed}
use Rattle.search_walk.specs.StepsScope.{Scope}
use Rattle.search_engine.specs.Served.{IsServed}
use Rattle.search_engine.specs.Waiting.{Halts, Page, Reaches, State}

-- the words that are held are those of the names, and serve the pages that wait
abbrev pub IsServedOver : Scope → HeldNames → List Page → Type 0
IsServedOver s held pages = IsServed s.names s.query held pages

-- the search has read as far as these messages, behind those that waited
abbrev pub ReachesOver : Scope → List Placed → State → State → Type 0
ReachesOver s all a b = Reaches s.names s.query all a b

-- the search has stopped among the messages that waited and these
abbrev pub HaltsOver : Scope → List Placed → State → Option (List ℕ) → ℕ → Type 0
HaltsOver s all a written ticks = Halts s.names s.query all a written ticks
