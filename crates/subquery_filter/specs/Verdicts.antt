-- What the constant bytes of a log type tell of all its messages.
use Rattle.std.specs.Prelude.{◌≡◌, ℕ, Some, List, [], ◌∷◌, slice_get, map}
use Rattle.column_store.specs.declared.row.Row.{Row}
use Rattle.logtype_text.specs.Parts.{Part, symbol_of}
use Rattle.logtype_text.specs.TypeText.{type_text}
use Rattle.wild_match.specs.Matches.{Match}
use Rattle.wild_match.specs.declared.pattern.Item.{Item}
use Rattle.wild_match.specs.declared.pattern.Item.TheVariants.{Byte, One, Many}
use Rattle.row_codec.specs.Means.{IsCanonical, IsSpelling}
use Rattle.query_plan.specs.declared.pieces.Piece.{Piece}
use Rattle.query_plan.specs.Laws.{HasNot, IsSearched}
use Rattle.query_plan.specs.Needs.{constants, marked, skeleton_of}
use Rattle.query_plan.specs.Pieces.{flat, wide, wide_pieces}

-- any bytes may come first
abbrev pub BeginsMany : List Item → Type 0
BeginsMany [] = ⊥
BeginsMany (Many ∷ items) = Unit {0}
BeginsMany (One ∷ items) = ⊥
BeginsMany (Byte b ∷ items) = ⊥

-- no constant bytes that the skeleton matches
abbrev pub IsRejected : List Piece → List Part → Type 0
IsRejected ps parts = ¬ Match (skeleton_of ps) (constants parts)

-- The pattern has no newline, and matches the constant bytes with a newline for each variable.
abbrev pub IsCertain : List Piece → List Part → Type 0
IsCertain ps parts = BeginsMany (flat ps) × HasNot 10 (flat ps) × Match (flat ps) (marked 10 parts)

-- the pattern that a search is planned over matches no message of a log type that is rejected
abbrev pub RejectedNeverMatches : Type 0
RejectedNeverMatches =
    (version : ℕ) (p : List Item) (row : Row) (types words : List (List ℕ)) (parts : List Part) (message : List ℕ)
    → IsSearched p → slice_get types row.log_type ≡ Some (type_text (map symbol_of parts)) → IsRejected (wide_pieces p) parts
    → IsCanonical version row types words message → ¬ Match (wide p) message

-- and each message of one that is certain
abbrev pub CertainAlwaysMatches : Type 0
CertainAlwaysMatches =
    (ps : List Piece) (row : Row) (types words : List (List ℕ)) (parts : List Part) (message : List ℕ)
    → slice_get types row.log_type ≡ Some (type_text (map symbol_of parts)) → IsCertain ps parts
    → IsSpelling row types words message → Match (flat ps) message
