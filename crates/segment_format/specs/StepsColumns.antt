-- What a reader of columns has in its arrays before they are columns.
use Rattle.std.specs.Prelude.{◌≡◌, ◌<◌, ◌^◌, ℕ, List, length, All}
use Rattle.std.specs.Int.{w64}
use Rattle.std.specs.Int.RustNames.{FitsSigned}
use Rattle.column_store.specs.declared.arrays.Arrays.{Arrays}
use Rattle.segment_format.specs.Layout.{fields_bytes}

-- the arrays hold what the bytes spell
pub record AreFilled (arrays : Arrays) (bytes : List ℕ) (rows count : ℕ) : Type 0 where
  pub spelled : bytes ≡ fields_bytes arrays.patterns.items arrays.moments.items arrays.types.items
      arrays.counts.items arrays.words.items
  pub as_patterns : length arrays.patterns.items ≡ rows
  pub as_moments : length arrays.moments.items ≡ rows
  pub as_types : length arrays.types.items ≡ rows
  pub as_counts : length arrays.counts.items ≡ rows
  pub as_words : length arrays.words.items ≡ count
  pub moments : All (λ m. FitsSigned w64 m) arrays.moments.items
  pub types : All (λ t. t < 2 ^ 32) arrays.types.items
  pub counts : All (λ n. n < 2 ^ 32) arrays.counts.items
  pub words : All (λ w. w < 2 ^ 64) arrays.words.items
