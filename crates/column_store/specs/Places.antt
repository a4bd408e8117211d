-- The rows of columns by their places in the arrays.
use Rattle.std.specs.Prelude.{◌≡◌, ◌<◌, ◌≤◌, ℕ, zero, suc, ◌*◌, ℤ, pos, List, length}
use Rattle.std.specs.Prelude.{map, slice_index, slice_index_or, slice_range}
use Rattle.std.specs.List.{range_with_len}
use Rattle.column_store.specs.declared.row.Row.{Row}

-- where the words of row k begin: where those of the row before it end
abbrev pub start_of : List ℕ → ℕ → ℕ
start_of ends zero = 0
start_of ends (suc k) = slice_index ends k

abbrev pub row_at : List ℕ → List ℤ → List ℕ → List ℕ → List ℕ → ℕ → Row
row_at patterns moments types ends words k = record {
  pattern = slice_index patterns k;
  moment = slice_index_or moments k (pos 0);
  log_type = slice_index types k;
  words = slice_range words (start_of ends k) (slice_index ends k);
}

abbrev pub rows_of : List ℕ → List ℤ → List ℕ → List ℕ → List ℕ → List Row
rows_of patterns moments types ends words = map (row_at patterns moments types ends words) (range_with_len 0 (length patterns))

pub record AreColumns (patterns : List ℕ) (moments : List ℤ) (types ends words : List ℕ) (bytes : ℕ) : Type 0 where
  pub as_moments : length moments ≡ length patterns
  pub as_types : length types ≡ length patterns
  pub as_ends : length ends ≡ length patterns
  pub few : length patterns < 4294967296
  pub room : length words < 4294967296
  pub small : bytes ≤ 1048576 * length patterns
  pub rise : (k : ℕ) → k < length patterns → start_of ends k ≤ slice_index ends k
  pub within : (k : ℕ) → k < length patterns → slice_index ends k ≤ length words
  pub last : start_of ends (length patterns) ≡ length words
