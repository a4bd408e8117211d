-- The next page of a segment, as it was read.
use Rattle.std.specs.Prelude.{◌≡◌, ℕ, List, length, Option}
use Rattle.segment_format.specs.Pages.{page_rows}
use Rattle.segment_pages.specs.Paged.{AreNextTold, Paged, paged_after}
use Rattle.word_places.specs.Held.{HeldNames}
use Rattle.search_walk.specs.Held.{Named}
use Rattle.search_walk.specs.Ready.{IsReadyPage}
use Rattle.search_meaning.specs.Scan.{Asked}
use Rattle.search_engine.specs.Waiting.{Page, page}

-- the page is the next one of a segment, with the name of its file and the number of its first message, and the words are held
-- by which its rows may have to be written
pub record IsNextPage (n : Named) (q : Asked) (held : HeldNames) (seen : Option (List ℕ)) (start now : Paged)
    (name : List ℕ) (number : ℕ) (p : Page) : Type 0 where
  pub is : p ≡ page name number p.rows p.verdicts
  pub ready : IsReadyPage n q held p.rows p.verdicts
  pub next : AreNextTold seen start now p.rows
  pub after : now ≡ paged_after start p.rows
  pub count : length p.rows ≡ page_rows start.pages
