-- What columns are for their users: a list of rows, and how many bytes their messages have.
use Rattle.std.specs.Prelude.{◌≡◌, ◌≤◌, ◌⊎◌, ◌+◌, ℕ, List, [], ◌∷◌, length, map}
use Rattle.std.specs.List.{flat_map}
use Rattle.column_store.specs.Row.{variable_count}
use Rattle.column_store.specs.declared.row.Row.{Row}
use Rattle.column_store.specs.declared.arrays.Arrays.{Arrays}

pub record ColumnsState : Type 0 where
  pub rows : List Row
  pub bytes : ℕ

-- where the words of each row end, counted from the start
abbrev pub ends_from : ℕ → List Row → List ℕ
ends_from start [] = []
ends_from start (r ∷ rows) = (start + length r.words) ∷ ends_from (start + length r.words) rows

-- the arrays hold, field by field, what these rows have
pub record AreArraysOf (rows : List Row) (arrays : Arrays) : Type 0 where
  pub patterns : arrays.patterns.items ≡ map (λ r. r.pattern) rows
  pub moments : arrays.moments.items ≡ map (λ r. r.moment) rows
  pub types : arrays.types.items ≡ map (λ r. r.log_type) rows
  pub counts : arrays.counts.items ≡ map (λ r. length r.words) rows
  pub words : arrays.words.items ≡ flat_map (λ r. r.words) rows

-- no arrays are those of two lists of rows
abbrev pub RowsAreUnique : Type 0
RowsAreUnique = (rows others : List Row) (arrays : Arrays) → AreArraysOf rows arrays → AreArraysOf others arrays → rows ≡ others

-- a segment is cut behind these rows: there are as many as the limit, or 1,048,576 variables, or
-- 16,777,216 bytes of messages
abbrev pub IsFull : ColumnsState → ℕ → Type 0
IsFull columns limit = (limit ≤ length columns.rows) ⊎ ((1048576 ≤ variable_count columns.rows) ⊎ (16777216 ≤ columns.bytes))
