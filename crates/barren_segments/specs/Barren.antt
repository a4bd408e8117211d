-- Which segments are barren: their heads tell that no row within the range can match.
-- Everything is said of the pieces of the pattern that the search is planned over.
use Rattle.std.specs.Prelude.{◌≡◌, ◌⊎◌, ℕ, ℤ, ◌<ℤ◌, Bool, true, false, List, Some, slice_get}
use Rattle.std.specs.List.{Contains}
use Rattle.var_codec.specs.Codes.{Codes}
use Rattle.var_codec.specs.declared.Coded.TheVariants.{Word as DictionaryWord}
use Rattle.column_store.specs.declared.range.Range.{Range}
use Rattle.segment_format.specs.declared.head.Head.{Head}
use Rattle.query_plan.specs.declared.pieces.Piece.{Piece}
use Rattle.query_plan.specs.Pieces.{Free, needed_of}
use Rattle.query_plan.specs.Needs.{needed_variables_of}
use Rattle.barren_segments.specs.Runs.{HoldsRun}

-- the text is a needed word of the pieces, and this tells whether it is a variable
abbrev pub IsNeeded : List Piece → Bool → List ℕ → Type 0
IsNeeded ps variable text =
    (k : ℕ) × (slice_get (needed_of Free ps) k ≡ Some text) × (slice_get (needed_variables_of Free ps) k ≡ Some variable)

-- a bound is given
abbrev pub IsBounded : Range → Type 0
IsBounded range = ((m : ℤ) × (range.from ≡ Some m)) ⊎ ((m : ℤ) × (range.to ≡ Some m))

-- no row has a stamp, or one bound for itself leaves out all moments from the least to the greatest
abbrev pub LeavesOut : Range → Bool → ℤ → ℤ → Type 0
LeavesOut range stamped least greatest =
    (stamped ≡ false)
    ⊎ (((m : ℤ) × (range.from ≡ Some m) × (greatest <ℤ m))
    ⊎ ((m : ℤ) × (range.to ≡ Some m) × (m <ℤ least)))

-- so it is of the moments of a segment
abbrev pub IsOutside : Range → Head → Type 0
IsOutside range head = LeavesOut range head.stamped head.least head.greatest

-- a variable with this text is a word of the dictionary, and no number of it is listed
abbrev pub IsMissing : List (List ℕ) → List ℕ → List ℕ → Type 0
IsMissing words listed text = Codes text DictionaryWord × ((n : ℕ) → slice_get words n ≡ Some text → ¬ Contains listed n)

-- some needed variable is missing
abbrev pub LacksWord : List Piece → List (List ℕ) → List ℕ → Type 0
LacksWord ps words listed = (text : List ℕ) × IsNeeded ps true text × IsMissing words listed text

-- each needed word that is no variable is a run of constant bytes of the log type
abbrev pub HoldsConstants : List Piece → List ℕ → Type 0
HoldsConstants ps text = (word : List ℕ) → IsNeeded ps false word → HoldsRun text word

-- the log type with this number does
abbrev pub HasConstants : List Piece → List (List ℕ) → ℕ → Type 0
HasConstants ps types n = (text : List ℕ) × (slice_get types n ≡ Some text) × HoldsConstants ps text

-- none of the listed log types does
abbrev pub LacksTypes : List Piece → List (List ℕ) → List ℕ → Type 0
LacksTypes ps types listed = (n : ℕ) → Contains listed n → ¬ HasConstants ps types n

-- The segment is barren for the pieces and the range: it has no rows; or a bound is given, and all rows
-- are outside; or a word that is needed is missing; or no log type holds the needed constants.
abbrev pub IsBarren : List Piece → Range → List (List ℕ) → List (List ℕ) → Head → Type 0
IsBarren ps range types words head =
    (head.rows ≡ 0)
    ⊎ ((IsBounded range × IsOutside range head)
    ⊎ (LacksWord ps words head.words
    ⊎ LacksTypes ps types head.types))
