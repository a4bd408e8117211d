-- How the lists of a pass for several needles grow.
use Rattle.std.specs.Prelude.{◌≡◌, ℕ, List, [], Some, slice_get, slice_index_or}
use Rattle.word_places.specs.declared.needle.Needle.{Needle}
use Rattle.word_places.specs.Holders.{AddsHolders}

-- to the list of a needle the numbers of those texts were added that have it
abbrev pub AddsFor : List Needle → ℕ → ℕ → List (List ℕ) → List (List ℕ) → List (List ℕ) → Type 0
AddsFor needles at first texts old new =
    (needle : Needle) → slice_get needles at ≡ Some needle
    → AddsHolders needle.fit needle.finder first texts (slice_index_or old at []) (slice_index_or new at [])

-- to that of each needle
abbrev pub AddsEach : List Needle → ℕ → List (List ℕ) → List (List ℕ) → List (List ℕ) → Type 0
AddsEach needles first texts old new = (at : ℕ) → AddsFor needles at first texts old new
