-- Pages that were searched by the words that were held.
use Rattle.std.specs.Prelude.{◌≡◌, ◌<◌, ℕ, List, length, slice_index_or, All}
use Rattle.word_places.specs.Held.{HeldNames}
use Rattle.search_meaning.specs.Scan.{Asked}
use Rattle.search_walk.specs.Held.{Named}
use Rattle.search_walk.specs.Ready.{IsReadyPage}
use Rattle.search_engine.specs.Waiting.{IsWorked, Slotted}

-- a page was searched, if the words of its rows are held
abbrev pub IsWorkedBy : Asked → HeldNames → Slotted → Type 0
IsWorkedBy q held s = (n : Named) → IsReadyPage n q held s.page.rows s.page.verdicts → IsWorked n q s

-- the slots have the pages that they had, and these were searched
pub record AreMatched (q : Asked) (held : HeldNames) (old new : List Slotted) : Type 0 where
  pub len : length new ≡ length old
  pub pages : (k : ℕ) (d : Slotted) → k < length old → (slice_index_or new k d).page ≡ (slice_index_or old k d).page
  pub worked : All (IsWorkedBy q held) new
