-- What a walk over pages and segments has done. What took the pages tells of the messages that it got past by a word on them,
-- and by another of those among which it stopped.
use Rattle.std.specs.Prelude.{◌≡◌, ◌<◌, ◌≤◌, ◌+◌, ℕ, List, [], ◌++◌, length, drop, Option, Some, None, Result, IsErrOf, OnErr, OnOk}
use Rattle.column_store.specs.declared.row.Row.{Row}
use Rattle.segment_format.specs.Pages.{page_rows}
use Rattle.segment_pages.specs.Paged.{HoldsLeft, IsLater, OfRows, Paged, paged_after, types_in}
use Rattle.archive_open.specs.declared.files.FileEntry.{FileEntry}
use Rattle.archive_open.specs.declared.segments.SegmentPlace.{SegmentPlace}
use Rattle.archive_places.specs.declared.front.SegmentFront.{SegmentFront}
use Rattle.printed_lines.specs.Lines.{Picks, Placed, numbered}
use Rattle.search_meaning.specs.Scan.{Asked, IsFound, IsTried}
use Rattle.search_walk.specs.declared.refusal.SearchRefusal.{SearchRefusal}
use Rattle.search_walk.specs.Held.{AreRowsOf, Named, OfLeft, OfSegments}
use Rattle.search_meaning.specs.Opened.{AreOpened}
use Rattle.search_walk.specs.Opened.{OfFronts}
use Rattle.search_walk.specs.Ready.{KeepsFirst}

-- ---- pages

-- the reader went on by a page of so many rows
abbrev pub PageGone : Paged → Paged → ℕ → Type 0
PageGone old new count = (rows : List Row) × (new ≡ paged_after old rows) × (length rows ≡ page_rows old.pages)
    × (count ≡ length rows)

-- the reader went on by pages of the same segment, which have so many rows, and one of them at least
pub record PagesGone (old new : Paged) (count : ℕ) : Type 0 where
  pub at : new.at ≡ old.at
  pub start : new.pages.start ≡ old.pages.start
  pub rows : new.pages.rows ≡ old.pages.rows
  pub variables : new.pages.variables ≡ old.pages.variables
  pub row : new.pages.row ≡ old.pages.row + count
  pub some : 0 < count
  pub inside : new.pages.row ≤ new.pages.rows

-- past so many messages of a segment, with the later pages left, where the bytes of the disk are these
pub record Past (Reaches : List Placed → Type 0) (bytes : List ℕ) (n : Named) (name : List ℕ) (number : ℕ) (now : Paged)
    (count : ℕ) (messages : List (List ℕ)) : Type 0 where
  pub gone : List (List ℕ)
  pub left : List (List ℕ)
  pub rows : List Row
  pub all : messages ≡ gone ++ left
  pub counted : length gone ≡ count
  pub holds : HoldsLeft now bytes rows
  pub are : AreRowsOf n rows left
  pub reaches : Reaches (numbered name number gone)

abbrev pub PastTold : (List Placed → Type 0) → Option (List ℕ) → Paged → Named → List ℕ → ℕ → Paged → ℕ → Type 0
PastTold Reaches None start n name number now count = Unit {0}
PastTold Reaches (Some bytes) start n name number now count =
    (rows : List Row) (messages : List (List ℕ)) → HoldsLeft start bytes rows → AreRowsOf n rows messages
    → Past Reaches bytes n name number now count messages

-- The pages that are left of a segment were gone over, the first of whose messages has this number, or the walk stopped among
-- them. It was damage only where the bytes have no such pages, or what was in hand stands for no messages.
pub record WentOverPages (Reaches Halts : List Placed → Type 0) (Stands : Type 0) (seen : Option (List ℕ)) (p : Paged) (n : Named)
    (name : List ℕ) (number : ℕ) (r : Result (Unit {0}) SearchRefusal) : Type 0 where
  pub done : OnOk r (OfLeft seen p n (λ messages. Reaches (numbered name number messages)))
  pub stopped : OnErr r (OfLeft seen p n (λ messages. Halts (numbered name number messages)))
  pub damaged : IsErrOf r SearchRefusal.Damaged → Stands → OfLeft seen p n (λ _. ⊥)

-- ---- pages that nobody takes

-- of these messages none is found, and none is expanded
abbrev pub AreOver : Named → Asked → List Placed → Type 0
AreOver n q all = Picks (λ p. IsFound n.version q p.message) all [] × Picks (λ p. IsTried n.version q p.message) all []

-- whatever rows the bytes hold from a page on, their log types behind these are all ruled out
abbrev pub TellLeft : Option (List ℕ) → Paged → Named → Asked → List ℕ → Type 0
TellLeft seen p n q kept = OfRows seen p (λ rows. KeepsFirst n q (types_in rows) kept)

-- the same from any later page of the segment on, of those behind so many
abbrev pub TellAhead : Option (List ℕ) → Paged → Named → Asked → List ℕ → Type 0
TellAhead seen p n q kept = (later : Paged) (count : ℕ) → IsLater p later count → TellLeft seen later n q (drop count kept)

-- nothing was passed, or pages of so many rows, with no message that is found or expanded
abbrev pub WentOver : Option (List ℕ) → Paged → Named → Asked → Paged → Option ℕ → Type 0
WentOver seen old n q new None = new ≡ old
WentOver seen old n q new (Some count) = PagesGone old new count
    × ((name : List ℕ) (number : ℕ) → PastTold (AreOver n q) seen old n name number new count)

-- ---- segments

-- the segments were searched, which have these messages; so many were opened
pub record Searched (Reaches : List Placed → Type 0) (n : Named) (q : Asked) (ps : List SegmentPlace) (all : List Placed)
    (ticks later count : ℕ) : Type 0 where
  pub reaches : Reaches all
  pub opened : List SegmentPlace
  pub are_opened : AreOpened n.types n.words q ps opened
  pub ticked : later ≡ ticks + length opened
  pub counted : count ≡ length opened

-- the search stopped among the segments, and opened no more
pub record Stopped (Halts : List Placed → Type 0) (n : Named) (q : Asked) (ps : List SegmentPlace) (all : List Placed)
    (ticks later : ℕ) : Type 0 where
  pub halts : Halts all
  pub most : (opened : List SegmentPlace) → AreOpened n.types n.words q ps opened → later ≤ ticks + length opened

-- What is said of segments where the bytes of the disk are told and hold their messages: that they were searched, and that the
-- search stopped among them.
abbrev pub SearchedTold : (List Placed → Type 0) → Option (List ℕ) → Named → List FileEntry → Asked → List SegmentPlace → ℕ
    → ℕ → ℕ → Type 0
SearchedTold Reaches seen n files q ps ticks later count = OfSegments seen n files ps
    (λ _ all. Searched Reaches n q ps all ticks later count)

abbrev pub StoppedTold : (List Placed → Type 0) → Option (List ℕ) → Named → List FileEntry → Asked → List SegmentPlace → ℕ → ℕ
    → Type 0
StoppedTold Halts seen n files q ps ticks later = OfSegments seen n files ps (λ _ all. Stopped Halts n q ps all ticks later)

-- The same of segments by their fronts.
abbrev pub SearchedFronts : (List Placed → Type 0) → Option (List ℕ) → Named → List FileEntry → Asked → List SegmentFront → ℕ
    → ℕ → ℕ → Type 0
SearchedFronts Reaches seen n files q fronts ticks later count = OfFronts fronts
    (λ ps. SearchedTold Reaches seen n files q ps ticks later count)

abbrev pub StoppedFronts : (List Placed → Type 0) → Option (List ℕ) → Named → List FileEntry → Asked → List SegmentFront → ℕ
    → ℕ → Type 0
StoppedFronts Halts seen n files q fronts ticks later = OfFronts fronts (λ ps. StoppedTold Halts seen n files q ps ticks later)
