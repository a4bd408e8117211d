-- What of a file is yet to be written out, and the text that it will be.
use Rattle.std.specs.Prelude.{◌≡◌, ℕ, ◌+◌, ◌-◌, ◌<◌, ◌≤◌, List, [], ◌∷◌, ◌++◌, Bool, true, drop, Option, None, Some}
use Rattle.std.specs.List.{sum_by}
use Rattle.column_store.specs.declared.row.Row.{Row}
use Rattle.segment_pages.specs.Paged.{HoldsLeft, Paged}
use Rattle.archive_open.specs.declared.segments.SegmentPlace.{SegmentPlace}
use Rattle.archive_text.specs.Newlines.{behind, ending}
use Rattle.archive_text.specs.declared.lines.Lines.{Lines}
use Rattle.archive_text.specs.declared.walk.Walk.{Walk}
use Rattle.archive_text.specs.Told.{AreWritten, HoldAllWritten}

-- the rows that are left of the page in hand, the pages that are left of its segment, and the segments behind it
pub record Ahead : Type 0 where
  pub rows : List Row
  pub pages : Option Paged
  pub places : List SegmentPlace

abbrev pub ahead : Walk → Ahead
ahead w = record { rows = drop w.row w.columns.rows; pages = w.pages; places = w.places.now }

-- from the next page on the bytes hold rows that are written as the messages; where no segment is in hand, there are none
abbrev pub PagesHold : List (List ℕ) → List (List ℕ) → Option Paged → List ℕ → List (List ℕ) → Type 0
PagesHold types words None bytes messages = messages ≡ []
PagesHold types words (Some pages) bytes messages =
    (rows : List Row) × HoldsLeft pages bytes rows × AreWritten types words rows messages

-- these messages are yet to be written out
pub record IsAhead (types words : List (List ℕ)) (a : Ahead) (bytes : List ℕ) (messages : List (List ℕ)) : Type 0 where
  pub page : List (List ℕ)
  pub pages : List (List ℕ)
  pub others : List (List ℕ)
  pub are : messages ≡ page ++ (pages ++ others)
  pub in_page : AreWritten types words a.rows page
  pub in_pages : PagesHold types words a.pages bytes pages
  pub in_places : HoldAllWritten types words a.places bytes others

-- no such messages are, where the bytes are told
abbrev pub NotAhead : Option (List ℕ) → List (List ℕ) → List (List ℕ) → Ahead → Type 0
NotAhead seen types words a =
    (bytes : List ℕ) (messages : List (List ℕ)) → seen ≡ Some bytes → ¬ IsAhead types words a bytes messages

-- a page of the segment in hand is left, or none is
abbrev pub HasPage : Option Paged → Type 0
HasPage None = ⊥
HasPage (Some p) = p.pages.row < p.pages.rows

abbrev pub HasNoPage : Option Paged → Type 0
HasNoPage None = Unit {0}
HasNoPage (Some p) = p.pages.rows ≤ p.pages.row

-- nothing is left
pub record IsPast (a : Ahead) : Type 0 where
  pub rows : a.rows ≡ []
  pub pages : HasNoPage a.pages
  pub places : a.places ≡ []

-- how many rows the pages have that are left, and with one for each segment those of the segments behind them
abbrev pub rows_left : Option Paged → ℕ
rows_left None = 0
rows_left (Some p) = p.pages.rows - p.pages.row

abbrev pub work : Ahead → ℕ
work a = rows_left a.pages + sum_by (λ (p : SegmentPlace). p.head.rows + 1) a.places

-- messages behind others, or as the first, with a newline before each but the first; and the one behind the last
abbrev pub text_behind : Bool → Bool → List (List ℕ) → List ℕ
text_behind open_end begun [] = ending open_end begun
text_behind open_end begun (m ∷ messages) = behind begun m ++ text_behind open_end true messages

-- what was written out, and what the messages will be, is the same text
abbrev pub SameText : Lines → List (List ℕ) → Lines → List (List ℕ) → Type 0
SameText lines messages more left =
    (open_end : Bool)
    → lines.gathered.items ++ text_behind open_end lines.begun messages
    ≡ more.gathered.items ++ text_behind open_end more.begun left

-- rows were written out: whatever messages they are and others follow, those of the rows that are left will be the same text
abbrev pub WritesRows : List (List ℕ) → List (List ℕ) → List Row → List Row → Lines → Lines → Type 0
WritesRows types words rows others lines more =
    (messages behind : List (List ℕ)) → AreWritten types words rows messages
    → (left : List (List ℕ)) × AreWritten types words others left × SameText lines (messages ++ behind) more (left ++ behind)

-- whatever messages are ahead, those that are ahead afterwards will be the same text
abbrev pub Goes : List (List ℕ) → List (List ℕ) → List ℕ → Ahead → Ahead → Lines → Lines → Type 0
Goes types words bytes old new lines more =
    (messages : List (List ℕ)) → IsAhead types words old bytes messages
    → (left : List (List ℕ)) × IsAhead types words new bytes left × SameText lines messages more left

-- the same where the bytes are told
abbrev pub GoesTold : Option (List ℕ) → List (List ℕ) → List (List ℕ) → Ahead → Ahead → Lines → Lines → Type 0
GoesTold seen types words old new lines more = (bytes : List ℕ) → seen ≡ Some bytes → Goes types words bytes old new lines more
