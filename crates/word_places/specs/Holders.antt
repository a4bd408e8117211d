-- Which words have a needle.
use Rattle.std.specs.Prelude.{◌≡◌, ◌⊎◌, ℕ, ◌+◌, List, [], ◌∷◌, ◌++◌, Some, slice_get, slice_index_or}
use Rattle.wild_match.specs.Runs.{Occurs}
use Rattle.word_places.specs.declared.needle.Fit.{Fit}
use Rattle.word_places.specs.declared.needle.Needle.{Needle}
use Rattle.word_places.specs.declared.needle.Fit.TheVariants.{Within, Whole}

-- the needle stands somewhere in the text, or is the text
abbrev pub HasNeedle : Fit → List ℕ → List ℕ → Type 0
HasNeedle Within needle text = Occurs text needle
HasNeedle Whole needle text = text ≡ needle

-- The numbers of those texts that have the needle, in order, where the first text has this number.
abbrev pub Holders : Fit → List ℕ → ℕ → List (List ℕ) → List ℕ → Type 0
Holders fit needle first [] numbers = numbers ≡ []
Holders fit needle first (text ∷ texts) numbers =
    (HasNeedle fit needle text × ((rest : List ℕ) × Holders fit needle (first + 1) texts rest × (numbers ≡ first ∷ rest)))
    ⊎ ((¬ HasNeedle fit needle text) × Holders fit needle (first + 1) texts numbers)

-- of each needle, the list at its place has the numbers of the words that have it, in order
abbrev pub FoundEach : List Needle → List (List ℕ) → List (List ℕ) → Type 0
FoundEach needles words lists =
    (at : ℕ) (needle : Needle) → slice_get needles at ≡ Some needle
    → Holders needle.fit needle.finder 0 words (slice_index_or lists at [])

-- such numbers were added behind others
abbrev pub AddsHolders : Fit → List ℕ → ℕ → List (List ℕ) → List ℕ → List ℕ → Type 0
AddsHolders fit needle first texts old new = (more : List ℕ) × Holders fit needle first texts more × (new ≡ old ++ more)

-- the number of a text was added, if it has the needle
abbrev pub AddsNumber : Fit → List ℕ → List ℕ → ℕ → List ℕ → List ℕ → Type 0
AddsNumber fit needle text number old new =
    (HasNeedle fit needle text × (new ≡ old ++ number ∷ [])) ⊎ ((¬ HasNeedle fit needle text) × (new ≡ old))
