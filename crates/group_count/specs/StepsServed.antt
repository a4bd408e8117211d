-- What a count that takes the pages of a walk relies on.
use Rattle.std.specs.Prelude.{◌≡◌, ◌↔◌, ◌<◌, ℕ, ℤ, List, Option, IsTrue, length}
use Rattle.column_store.specs.Range.{Holds}
use Rattle.wild_match.specs.Matches.{Match}
use Rattle.word_places.specs.Held.{HeldNames}
use Rattle.query_plan.specs.Laws.{IsPlain, IsSearched}
use Rattle.column_store.specs.declared.row.Row.{Row}
use Rattle.segment_format.specs.Pages.{page_rows}
use Rattle.segment_pages.specs.Paged.{AreNextTold, Paged, paged_after}
use Rattle.subquery_filter.specs.declared.verdicts.Verdict.{Verdict}
use Rattle.archive_places.specs.declared.places.Places.{Places}
use Rattle.archive_places.specs.Opened.{ArePlacesOrdered, OpensPlaces}
use Rattle.search_walk.specs.Held.{Named}
use Rattle.search_walk.specs.Ready.{IsReadyPage, Serves}
use Rattle.search_meaning.specs.Scan.{Asked}
use Rattle.search_walk.specs.StepsScope.{Scope}
use Rattle.group_count.specs.declared.way.Way.{Way}

-- each message is found: the pattern matches any text and is plain, and no bound leaves anything out
pub record FindsAll (q : Asked) : Type 0 where
  pub matches : (text : List ℕ) → Match q.pattern text
  pub plain : IsPlain q.pattern
  pub holds : (k : ℕ) (moment : ℤ) → Holds q.range k moment

-- it is known whether the pattern is plain, and where it is known that each message is found each one is
pub record IsWay (q : Asked) (way : Way) : Type 0 where
  pub plain : IsTrue way.plain ↔ IsPlain q.pattern
  pub all : IsTrue way.all → FindsAll q

-- the words that are held are those of the names, and the way is that of what is asked
pub record IsServed (s : Scope) (held : HeldNames) (known : Way) : Type 0 where
  pub serves : Serves s.names held
  pub way : IsWay s.query known

-- the places are those of a disk that tells this, the pattern is one that was read, and the way is that of what is asked
pub record MayCount (seen : Option (List ℕ)) (a : Places) (q : Asked) (known : Way) : Type 0 where
  pub searched : IsSearched q.pattern
  pub opens : OpensPlaces seen a
  pub order : ArePlacesOrdered a
  pub way : IsWay q known

-- a page is left, on a disk that tells what the names do
pub record HasNext (seen : Option (List ℕ)) (n : Named) (p : Paged) : Type 0 where
  pub page : p.pages.row < p.pages.rows
  pub told : seen ≡ n.told

-- the next page has these rows, which were decided, and the words by which they may have to be told are held
pub record IsDecidedPage (seen : Option (List ℕ)) (s : Scope) (old new : Paged) (held : HeldNames) (rows : List Row)
    (verdicts : List Verdict) : Type 0 where
  pub ready : IsReadyPage s.names s.query held rows verdicts
  pub next : AreNextTold seen old new rows
  pub after : new ≡ paged_after old rows
  pub count : length rows ≡ page_rows old.pages
