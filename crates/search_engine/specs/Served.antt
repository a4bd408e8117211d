-- Pages that wait, and the words that are held for them.
use Rattle.std.specs.Prelude.{List, [], ◌∷◌}
use Rattle.word_places.specs.Held.{HeldNames}
use Rattle.search_meaning.specs.Scan.{Asked}
use Rattle.search_walk.specs.Held.{Named}
use Rattle.search_engine.specs.Waiting.{Page}
use Rattle.search_walk.specs.Ready.{Serves, IsReadyPage}

-- those of each page
abbrev pub AreReadyPages : Named → Asked → HeldNames → List Page → Type 0
AreReadyPages n q held [] = Unit {0}
AreReadyPages n q held (p ∷ pages) = IsReadyPage n q held p.rows p.verdicts × AreReadyPages n q held pages

-- the words that are held are those of the names, and serve the pages that wait
pub record IsServed (n : Named) (q : Asked) (held : HeldNames) (pages : List Page) : Type 0 where
  pub serves : Serves n held
  pub ready : AreReadyPages n q held pages
