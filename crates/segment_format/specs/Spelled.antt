-- Which rows the bytes of columns spell.
use Rattle.std.specs.Prelude.{◌≡◌, ◌≤◌, ℕ, List, length, drop, All}
use Rattle.column_store.specs.declared.row.Row.{Row}
use Rattle.column_store.specs.Row.{variable_count, IsRow}
use Rattle.segment_format.specs.declared.head.Head.{Head}
use Rattle.segment_format.specs.Layout.{head_length, fixed_of, columns_bytes}

-- the bytes are the columns of these rows, so many and with so many words
pub record AreColumnsIn (bytes : List ℕ) (n v : ℕ) (rows : List Row) : Type 0 where
  pub fit : All IsRow rows
  pub count : length rows ≡ n
  pub variables : variable_count rows ≡ v
  pub spelled : bytes ≡ columns_bytes rows

-- behind as many bytes as the head has, a segment's payload is the columns of these rows, and they are
-- as many as the head says
pub record HoldsRows (head : Head) (payload : List ℕ) (rows : List Row) : Type 0 where
  pub front : head_length (fixed_of head) ≤ length payload
  pub behind : AreColumnsIn (drop (head_length (fixed_of head)) payload) head.rows head.variables rows
