-- A segment's columns by pages of 4,096 rows, the last one with the rest.
use Rattle.std.specs.Prelude.{◌≡◌, ◌<◌, ◌≤◌, ◌+◌, ◌-◌, ◌*◌, ◌^◌, ℕ, min, List}
use Rattle.column_store.specs.declared.row.Row.{Row}
use Rattle.column_store.specs.Row.{variable_count}
use Rattle.segment_format.specs.declared.head.Head.{Head}
use Rattle.segment_format.specs.declared.ask.PageAsk.{PageAsk}
use Rattle.segment_format.specs.Layout.{head_length, fixed_of}
use Rattle.segment_format.specs.Spelled.{AreColumnsIn}

-- how many bytes the head has, how many rows and variables the segment, and how many of them the pages
-- before had
pub record Pages : Type 0 where
  pub start : ℕ
  pub rows : ℕ
  pub variables : ℕ
  pub row : ℕ
  pub variable : ℕ

abbrev pub pages_at : ℕ → ℕ → ℕ → ℕ → ℕ → Pages
pages_at start rows variables row variable = record {
  start = start;
  rows = rows;
  variables = variables;
  row = row;
  variable = variable;
}

abbrev pub first_page : Head → Pages
first_page h = pages_at (head_length (fixed_of h)) h.rows h.variables 0 0

-- a payload of so many bytes has pages
pub record HasPages (h : Head) (payload : ℕ) : Type 0 where
  pub length : payload ≡ head_length (fixed_of h) + 17 * h.rows + 8 * h.variables
  pub none : h.rows ≡ 0 → h.variables ≡ 0

-- the rows of the next page
abbrev pub page_rows : Pages → ℕ
page_rows p = min 4096 (p.rows - p.row)

-- how many they are, and where in the payload their pieces begin
abbrev pub pieces : Pages → PageAsk
pieces p = record {
  rows = page_rows p;
  patterns = p.start + p.row;
  moments = p.start + p.rows + 8 * p.row;
  types = p.start + 9 * p.rows + 4 * p.row;
  counts = p.start + 13 * p.rows + 4 * p.row;
  variables = p.start + 17 * p.rows + 8 * p.variable;
}

-- so many variables may be the next page's: no more than are left, and in the last page all of them
pub record FitsPage (p : Pages) (count : ℕ) : Type 0 where
  pub most : p.variable + count ≤ p.variables
  pub last : p.row + page_rows p ≡ p.rows → p.variable + count ≡ p.variables

-- the bytes are the columns of these rows, which may be the next page
pub record IsPage (p : Pages) (bytes : List ℕ) (rows : List Row) : Type 0 where
  pub columns : AreColumnsIn bytes (page_rows p) (variable_count rows) rows
  pub fits : FitsPage p (variable_count rows)

-- what is left behind a page
abbrev pub after : Pages → List Row → Pages
after p rows = record p { row = p.row + page_rows p; variable = p.variable + variable_count rows }

-- what is left behind a page that has so many variables
abbrev pub passed : Pages → ℕ → Pages
passed p count = record p { row = p.row + page_rows p; variable = p.variable + count }

-- where a reader of pages may stand
pub record ArePages (p : Pages) : Type 0 where
  pub start : p.start < 2 ^ 40
  pub rows : p.rows < 2 ^ 32
  pub variables : p.variables < 2 ^ 32
  pub row : p.row ≤ p.rows
  pub variable : p.variable ≤ p.variables
