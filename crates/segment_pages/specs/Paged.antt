-- Where a reader of a segment's pages stands, and which rows the bytes of a disk hold from there on.
use Rattle.std.specs.Prelude.{◌≡◌, ◌<◌, ◌+◌, ◌*◌, ◌^◌, ℕ, ℤ, List, ◌++◌, length, map, take, drop, Option, Some, None}
use Rattle.std.specs.List.{flat_map}
use Rattle.log_seams.specs.Disk.{DiskState}
use Rattle.column_store.specs.declared.row.Row.{Row}
use Rattle.segment_format.specs.declared.head.Head.{Head}
use Rattle.segment_format.specs.Layout.{IsHead}
use Rattle.segment_format.specs.Spelled.{HoldsRows}
use Rattle.segment_format.specs.Pages.{Pages, after, first_page, passed}
use Rattle.segment_format.specs.Laws.{HoldsPages}
use Rattle.segment_pages.specs.Reads.{OnlyReadsIn}

-- the place of the payload's first byte on the disk, and the page that is next
pub record Paged : Type 0 where
  pub at : ℕ
  pub pages : Pages

abbrev pub paged : ℕ → Pages → Paged
paged at pages = record { at = at; pages = pages }

-- before the first page of a segment with this head
abbrev pub paged_first : ℕ → Head → Paged
paged_first at head = paged at (first_page head)

-- behind a page of these rows
abbrev pub paged_after : Paged → List Row → Paged
paged_after p rows = paged p.at (after p.pages rows)

-- behind a page that has so many variables
abbrev pub paged_passed : Paged → ℕ → Paged
paged_passed p count = paged p.at (passed p.pages count)

-- behind all rows of the segment
abbrev pub ended : Pages → Pages
ended p = record p { row = p.rows; variable = p.variables }

abbrev pub paged_end : Paged → Paged
paged_end p = paged p.at (ended p.pages)

-- how many bytes the columns have, and head and columns
abbrev pub columns_size : Pages → ℕ
columns_size p = 17 * p.rows + 8 * p.variables

abbrev pub payload_size : Pages → ℕ
payload_size p = p.start + columns_size p

-- the text stands in the bytes at a place
pub record StandsAt (at : ℕ) (text bytes : List ℕ) : Type 0 where
  pub front : List ℕ
  pub behind : List ℕ
  pub spells : bytes ≡ front ++ (text ++ behind)
  pub place : length front ≡ at

-- At a place in the bytes stands a payload of so many bytes, whose segment has this head and these rows.
pub record HoldsSegment (at size : ℕ) (head : Head) (bytes : List ℕ) (rows : List Row) : Type 0 where
  pub is_head : IsHead head
  pub payload : List ℕ
  pub stands : StandsAt at payload bytes
  pub sized : length payload ≡ size
  pub small : at + size < 2 ^ 64
  pub holds : HoldsRows head payload rows

-- from the next page on the bytes hold these rows
pub record HoldsLeft (p : Paged) (bytes : List ℕ) (rows : List Row) : Type 0 where
  pub payload : List ℕ
  pub stands : StandsAt p.at payload bytes
  pub sized : length payload ≡ payload_size p.pages
  pub left : List (List Row)
  pub holds : HoldsPages p.pages payload left
  pub are : rows ≡ flat_map (λ page. page) left

-- whatever rows the bytes hold, these are the first of them, and from the later page on they hold the others
abbrev pub AreNext : Paged → Paged → List Row → List ℕ → Type 0
AreNext old new rows bytes =
    (all : List Row) → HoldsLeft old bytes all
    → (left : List Row) × (all ≡ rows ++ left) × HoldsLeft new bytes left

-- the same of the bytes of a disk, where they are told
abbrev pub AreNextTold : Option (List ℕ) → Paged → Paged → List Row → Type 0
AreNextTold None old new rows = Unit {0}
AreNextTold (Some bytes) old new rows = AreNext old new rows bytes

-- whatever rows the bytes hold, from the later page on they hold those behind the first ones
abbrev pub AreBehind : Paged → Paged → ℕ → List ℕ → Type 0
AreBehind old new count bytes = (all : List Row) → HoldsLeft old bytes all → HoldsLeft new bytes (drop count all)

-- the same of the bytes of a disk, where they are told
abbrev pub AreBehindTold : Option (List ℕ) → Paged → Paged → ℕ → Type 0
AreBehindTold None old new count = Unit {0}
AreBehindTold (Some bytes) old new count = AreBehind old new count bytes

-- the bytes hold no rows, where they are told
abbrev pub HoldsNoneTold : Option (List ℕ) → Paged → Type 0
HoldsNoneTold None p = Unit {0}
HoldsNoneTold (Some bytes) p = (rows : List Row) → ¬ HoldsLeft p bytes rows

-- the disk was only read, and nothing but columns of the segment
abbrev pub ReadsColumns : Paged → DiskState → DiskState → Type 0
ReadsColumns p old new = OnlyReadsIn (p.at + p.pages.start) (columns_size p.pages) old new

-- ---- columns, each for itself

-- P holds of the rows that the bytes hold from the next page on, where they are told and hold rows
abbrev pub OfRows : Option (List ℕ) → Paged → (List Row → Type 0) → Type 0
OfRows None p P = Unit {0}
OfRows (Some bytes) p P = (rows : List Row) → HoldsLeft p bytes rows → P rows

-- so many of a list, behind the first ones
abbrev pub part : {A : Type 0} → ℕ → ℕ → List A → List A
part skipped count xs = take count (drop skipped xs)

-- the patterns, the moments and the log types of rows
abbrev pub patterns_in : List Row → List ℕ
patterns_in rows = map (λ r. r.pattern) rows

abbrev pub moments_in : List Row → List ℤ
moments_in rows = map (λ r. r.moment) rows

abbrev pub types_in : List Row → List ℕ
types_in rows = map (λ r. r.log_type) rows

-- ---- the log types of all rows that are left

-- of the same segment a later page is next, or the same one: so many rows come before it
pub record IsLater (p later : Paged) (count : ℕ) : Type 0 where
  pub at : later.at ≡ p.at
  pub start : later.pages.start ≡ p.pages.start
  pub rows : later.pages.rows ≡ p.pages.rows
  pub row : later.pages.row ≡ p.pages.row + count
  pub left : later.pages.row < later.pages.rows

-- whatever rows the bytes hold from there on, their log types are those behind so many of these
abbrev pub AreTypes : List ℕ → Paged → List ℕ → Type 0
AreTypes bytes p types =
    (later : Paged) (count : ℕ) (rows : List Row) → IsLater p later count → HoldsLeft later bytes rows
    → types_in rows ≡ drop count types

-- the same of the bytes of a disk, where they are told
abbrev pub AreTypesTold : Option (List ℕ) → Paged → List ℕ → Type 0
AreTypesTold None p types = Unit {0}
AreTypesTold (Some bytes) p types = AreTypes bytes p types
