-- What the loops over a pattern and its pieces keep.
use Rattle.std.specs.Prelude.{ℕ, List, [], ◌∷◌, ◌++◌, Bool, true, false, Option, Some, None, if◌then◌else◌}
use Rattle.std.specs.Option.{is_some}
use Rattle.token_rules.specs.Tokens.{is_variable}
use Rattle.wild_match.specs.declared.pattern.Item.{Item}
use Rattle.wild_match.specs.declared.pattern.Item.TheVariants.{Byte, Many}
use Rattle.query_plan.specs.declared.pieces.Piece.{Piece}
use Rattle.query_plan.specs.declared.pieces.Piece.TheVariants.{Gap, Mark, Word}
use Rattle.query_plan.specs.Pieces.{Side, Free, After, is_open, begun, is_needed}
use Rattle.query_plan.specs.Needs.{token_bones}

-- the pieces with a token behind them, where it has bytes
abbrev pub ended : List Piece → List ℕ → List Piece
ended out [] = out
ended out (b ∷ t) = out ++ Word (b ∷ t) ∷ []

-- pieces with the bytes of a token before them
abbrev pub fronted : List ℕ → List Piece → List Piece
fronted [] ps = ps
fronted (b ∷ t) ps = begun b (fronted t ps)

abbrev pub is_mark : Piece → Bool
is_mark Gap = false
is_mark (Mark d) = true
is_mark (Word t) = false

-- what stands before a piece, as far as it matters: a delimiter or none
abbrev pub side : Bool → Side
side true = After 0
side false = Free

-- a piece is an open token
abbrev pub opens : Bool → Piece → List Piece → Bool
opens after Gap ps = false
opens after (Mark d) ps = false
opens after (Word t) ps = is_open (side after) ps

-- a token that may not stay is a gap
abbrev pub kept : Bool → Piece → Piece
kept stays Gap = Gap
kept stays (Mark d) = Mark d
kept true (Word t) = Word t
kept false (Word t) = Gap

-- the pieces without a gap at the front, where one is to be left out
abbrev pub trimmed : Bool → List Piece → List Piece
trimmed true [] = []
trimmed true (Gap ∷ ps) = ps
trimmed true (Mark d ∷ ps) = Mark d ∷ ps
trimmed true (Word t ∷ ps) = Word t ∷ ps
trimmed false ps = ps

-- a piece that is a needed word
abbrev pub needed_first : Bool → Piece → List Piece → List (List ℕ)
needed_first after Gap ps = []
needed_first after (Mark d) ps = []
needed_first after (Word t) ps = if is_needed (side after) ps t then t ∷ [] else []

-- the delimiter that a piece is
abbrev pub delimiter_of : Piece → Option ℕ
delimiter_of Gap = None
delimiter_of (Mark d) = Some d
delimiter_of (Word t) = None

-- what stands before a piece
abbrev pub side_of : Option ℕ → Side
side_of None = Free
side_of (Some d) = After d

-- whether a piece is a variable, where it is a needed word
abbrev pub variable_first : Option ℕ → Piece → List Piece → List Bool
variable_first before Gap ps = []
variable_first before (Mark d) ps = []
variable_first before (Word t) ps = if is_needed (side (is_some before)) ps t then is_variable before t ∷ [] else []

-- what a piece says of the constant bytes
abbrev pub bones_first : Option ℕ → Piece → List Piece → List Item
bones_first before Gap ps = Many ∷ []
bones_first before (Mark d) ps = Byte d ∷ []
bones_first before (Word t) ps = token_bones (is_open (side (is_some before)) ps) before t []
