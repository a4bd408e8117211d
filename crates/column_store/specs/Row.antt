-- Rows, and how many words they have.
use Rattle.std.specs.Prelude.{◌<◌, ◌^◌, ℕ, List, length, All}
use Rattle.std.specs.List.{sum_by}
use Rattle.std.specs.Int.{w64}
use Rattle.std.specs.Int.RustNames.{FitsSigned}
use Rattle.column_store.specs.declared.row.Row.{Row}
use Rattle.column_store.specs.declared.row.RowRef.{RowRef}

-- a row whose words are lent, as a row
abbrev pub row_of : RowRef → Row
row_of r = record { pattern = r.pattern; moment = r.moment; log_type = r.log_type; words = r.words.now }

-- how many words the rows have in all
abbrev pub variable_count : List Row → ℕ
variable_count rows = sum_by (λ r. length r.words) rows

-- the numbers of a row fit their fields
pub record IsRow (r : Row) : Type 0 where
  pub pattern : r.pattern < 2 ^ 8
  pub moment : FitsSigned w64 r.moment
  pub log_type : r.log_type < 2 ^ 32
  pub words : All (λ w. w < 2 ^ 64) r.words
