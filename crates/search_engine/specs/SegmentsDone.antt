-- What a walk has done with segments for a search with pages that wait.
use Rattle.std.specs.Prelude.{ℕ, List, Option, Result, IfOk, OnErr, IsErrOf}
use Rattle.archive_open.specs.declared.files.FileEntry.{FileEntry}
use Rattle.archive_open.specs.declared.segments.SegmentPlace.{SegmentPlace}
use Rattle.archive_places.specs.declared.front.SegmentFront.{SegmentFront}
use Rattle.printed_lines.specs.Lines.{Placed}
use Rattle.search_meaning.specs.Scan.{Asked}
use Rattle.search_walk.specs.declared.refusal.SearchRefusal.{SearchRefusal}
use Rattle.search_walk.specs.Held.{Named}
use Rattle.search_walk.specs.Opened.{NoFronts}
use Rattle.search_walk.specs.StepsScope.{Scope}
use Rattle.search_walk.specs.Walked.{Searched as SearchedBy, SearchedFronts as SearchedFrontsBy, Stopped as StoppedBy, StoppedFronts as StoppedFrontsBy}
use Rattle.search_engine.specs.Waiting.{Halts, Reaches, State}

-- the segments were searched, from the one state to the other
abbrev pub Searched : Named → Asked → List SegmentPlace → List Placed → State → State → ℕ → ℕ → ℕ → Type 0
Searched n q ps all a b ticks later count = SearchedBy (λ l. Reaches n q l a b) n q ps all ticks later count

-- the search stopped among them
abbrev pub Stopped : Named → Asked → List SegmentPlace → List Placed → State → Option (List ℕ) → ℕ → ℕ → ℕ → Type 0
Stopped n q ps all a written expanded ticks later = StoppedBy (λ l. Halts n q l a written expanded) n q ps all ticks later

-- The same of segments by their fronts.
abbrev pub SearchedFronts : Option (List ℕ) → Named → List FileEntry → Asked → List SegmentFront → State → State → ℕ → ℕ → ℕ
    → Type 0
SearchedFronts seen n files q fronts a b ticks later count = SearchedFrontsBy
    (λ l. Reaches n q l a b) seen n files q fronts ticks later count

abbrev pub StoppedFronts : Option (List ℕ) → Named → List FileEntry → Asked → List SegmentFront → State → Option (List ℕ) → ℕ
    → ℕ → ℕ → Type 0
StoppedFronts seen n files q fronts a written expanded ticks later = StoppedFrontsBy
    (λ l. Halts n q l a written expanded) seen n files q fronts ticks later

-- what became of a search of segments: how many were opened, or why it stopped among them
pub record WentOverFronts (seen : Option (List ℕ)) (s : Scope) (fronts : List SegmentFront) (a b : State) (ticks later : ℕ)
    (r : Result ℕ SearchRefusal) : Type 0 where
  pub done : IfOk r (λ count. SearchedFronts seen s.names s.files s.query fronts a b ticks later count)
  pub stopped : OnErr r (StoppedFronts seen s.names s.files s.query fronts a b.written b.ticks ticks later)
  pub damaged : IsErrOf r SearchRefusal.Damaged → NoFronts seen s.names s.files fronts
