-- No bytes spell two segments, and a segment by pages has the rows that it has whole.
use Rattle.std.specs.Prelude.{◌≡◌, ◌<◌, ◌≤◌, ◌*◌, ◌^◌, ◌↔◌, ℕ, Bool, List, [], ◌∷◌, ◌++◌, length, take, drop, All}
use Rattle.std.specs.List.{flat_map}
use Rattle.column_store.specs.declared.row.Row.{Row}
use Rattle.column_store.specs.Row.{variable_count, IsRow}
use Rattle.segment_format.specs.declared.head.Head.{Head}
use Rattle.segment_format.specs.Layout.{IsHead, IsNumberSet, IsSegment, head_bytes, head_of, columns_bytes, segment_bytes}
use Rattle.segment_format.specs.Spelled.{HoldsRows}
use Rattle.segment_format.specs.Pages.{Pages, first_page, HasPages, page_rows, pieces, IsPage, after}

-- no bytes begin with two heads
abbrev pub HeadsAreUnique : Type 0
HeadsAreUnique = (g h : Head) (x y : List ℕ) → IsHead g → IsHead h → head_bytes g ++ x ≡ head_bytes h ++ y → (g ≡ h) × (x ≡ y)

-- no bytes are the columns of two lists of as many rows
abbrev pub ColumnsAreUnique : Type 0
ColumnsAreUnique =
    (rows others : List Row)
    → All IsRow rows → All IsRow others
    → length rows ≡ length others
    → variable_count rows < 2 ^ 32 → variable_count others < 2 ^ 32
    → columns_bytes rows ≡ columns_bytes others → rows ≡ others

-- what is written of rows is a head, and holds the rows
abbrev pub SegmentsReadBack : Type 0
SegmentsReadBack =
    (file first : ℕ) (last ended : Bool) (rows : List Row) (words : List ℕ)
    → file < 2 ^ 32 → first < 2 ^ 64
    → All IsRow rows → length rows < 2 ^ 32 → variable_count rows < 2 ^ 32
    → IsNumberSet words
    → IsHead (head_of file first last ended rows words)
    × HoldsRows (head_of file first last ended rows words) (segment_bytes file first last ended rows words) rows

-- no bytes are two segments
abbrev pub SegmentsAreUnique : Type 0
SegmentsAreUnique =
    (file first : ℕ) (last ended : Bool) (rows : List Row) (words : List ℕ)
    (file' first' : ℕ) (last' ended' : Bool) (rows' : List Row) (words' : List ℕ)
    → IsSegment file first last ended rows words → IsSegment file' first' last' ended' rows' words'
    → segment_bytes file first last ended rows words ≡ segment_bytes file' first' last' ended' rows' words'
    → (file ≡ file') × (first ≡ first') × (last ≡ last') × (ended ≡ ended') × (rows ≡ rows') × (words ≡ words')

-- ---- pages

-- so many bytes from a place on
abbrev pub piece : ℕ → ℕ → List ℕ → List ℕ
piece at n payload = take n (drop at payload)

-- the five pieces of a page joined, where it has so many variables
abbrev pub page_bytes : Pages → ℕ → List ℕ → List ℕ
page_bytes p v payload =
    piece (pieces p).patterns (page_rows p) payload
    ++ (piece (pieces p).moments (8 * page_rows p) payload
    ++ (piece (pieces p).types (4 * page_rows p) payload
    ++ (piece (pieces p).counts (4 * page_rows p) payload
    ++ piece (pieces p).variables (8 * v) payload)))

-- from here on a payload's pages are these
abbrev pub HoldsPages : Pages → List ℕ → List (List Row) → Type 0
HoldsPages p payload [] = p.rows ≤ p.row
HoldsPages p payload (page ∷ pages) =
    (p.row < p.rows)
    × IsPage p (page_bytes p (variable_count page) payload) page
    × HoldsPages (after p page) payload pages

-- the rows of a payload are those of its pages in order; it holds none exactly where it has no pages, or
-- some page holds none
abbrev pub PagesAreTheColumns : Type 0
PagesAreTheColumns =
    (h : Head) (payload : List ℕ) (rows : List Row) → IsHead h
    → HoldsRows h payload rows
    ↔ (HasPages h (length payload)
    × ((pages : List (List Row)) × HoldsPages (first_page h) payload pages × (rows ≡ flat_map (λ page. page) pages)))
