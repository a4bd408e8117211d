-- A pattern cut into pieces, and the pattern that a search is planned over.
use Rattle.std.specs.Prelude.{ℕ, zero, suc, List, [], ◌∷◌, Bool, true, false, not, ◌&&◌, ◌||◌, ◌==◌, IsTrue, if◌then◌else◌}
use Rattle.std.specs.List.{list_any}
use Rattle.std.specs.Int.{is_in_range}
use Rattle.token_rules.specs.Tokens.{is_token_byte, IsDelimiter}
use Rattle.query_plan.specs.declared.pieces.Piece.{Piece}
use Rattle.query_plan.specs.declared.pieces.TheConstants.{MAX_OPEN_TOKENS}
use Rattle.query_plan.specs.declared.pieces.Piece.TheVariants.{Gap, Mark, Word}
use Rattle.wild_match.specs.declared.pattern.Item.{Item}
use Rattle.wild_match.specs.declared.pattern.Item.TheVariants.{Byte, One, Many}

-- the bytes as items, before further items
abbrev pub bytes : List ℕ → List Item → List Item
bytes [] items = items
bytes (b ∷ text) items = Byte b ∷ bytes text items

-- the items of pieces
abbrev pub flat : List Piece → List Item
flat [] = []
flat (Gap ∷ ps) = Many ∷ flat ps
flat (Mark d ∷ ps) = Byte d ∷ flat ps
flat (Word t ∷ ps) = bytes t (flat ps)

-- no byte of the text is a delimiter
abbrev pub IsInner : List ℕ → Type 0
IsInner [] = Unit {0}
IsInner (b ∷ t) = IsTrue (is_token_byte b) × IsInner t

-- the text is one that a token may have
abbrev pub IsSomeInner : List ℕ → Type 0
IsSomeInner [] = ⊥
IsSomeInner (b ∷ t) = IsTrue (is_token_byte b) × IsInner t

-- no token comes first
abbrev pub EndsWord : List Piece → Type 0
EndsWord [] = Unit {0}
EndsWord (Gap ∷ ps) = Unit {0}
EndsWord (Mark d ∷ ps) = Unit {0}
EndsWord (Word t ∷ ps) = ⊥

-- the pieces are as long as they can be: a mark is a delimiter, a word has none, and no word stands
-- directly behind a word
abbrev pub IsCut : List Piece → Type 0
IsCut [] = Unit {0}
IsCut (Gap ∷ ps) = IsCut ps
IsCut (Mark d ∷ ps) = IsDelimiter d × IsCut ps
IsCut (Word t ∷ ps) = IsSomeInner t × EndsWord ps × IsCut ps

-- a byte before pieces: it is a delimiter, or the first byte of the token that it makes or begins
abbrev pub begun : ℕ → List Piece → List Piece
begun b [] = Word (b ∷ []) ∷ []
begun b (Gap ∷ ps) = Word (b ∷ []) ∷ Gap ∷ ps
begun b (Mark d ∷ ps) = Word (b ∷ []) ∷ Mark d ∷ ps
begun b (Word t ∷ ps) = Word (b ∷ t) ∷ ps

abbrev pub put : Bool → ℕ → List Piece → List Piece
put true b ps = begun b ps
put false b ps = Mark b ∷ ps

-- the pieces of a pattern, in which each wildcard is a gap
abbrev pub pieces : List Item → List Piece
pieces [] = []
pieces (Byte b ∷ items) = put (is_token_byte b) b (pieces items)
pieces (One ∷ items) = Gap ∷ pieces items
pieces (Many ∷ items) = Gap ∷ pieces items

-- What stands before a piece: a gap or the front of the pattern, a delimiter, or a token.
pub data Side : Type 0 where
  Free : Side
  After : ℕ → Side
  Inside : Side

-- A token is closed where delimiters of the pattern stand on both of its sides, and open otherwise.
abbrev pub is_open : Side → List Piece → Bool
is_open (After d) (Mark c ∷ ps) = false
is_open (After d) [] = true
is_open (After d) (Gap ∷ ps) = true
is_open (After d) (Word t ∷ ps) = true
is_open Free ps = true
is_open Inside ps = true

-- one less, where there is an open token
abbrev pub less : ℕ → Bool → ℕ
less n false = n
less zero true = zero
less (suc n) true = n

-- an open token stays as long as some may stay
abbrev pub stays : ℕ → Bool → List ℕ → Piece
stays zero true t = Gap
stays zero false t = Word t
stays (suc n) o t = Word t

-- the first n open tokens stay, and each one after them is a gap
abbrev pub thin : ℕ → Side → List Piece → List Piece
thin n e [] = []
thin n e (Gap ∷ ps) = Gap ∷ thin n Free ps
thin n e (Mark d ∷ ps) = Mark d ∷ thin n (After d) ps
thin n e (Word t ∷ ps) = stays n (is_open e ps) t ∷ thin (less n (is_open e ps)) Inside ps

-- gaps in a row are one
abbrev pub one_gap : List Piece → List Piece
one_gap [] = Gap ∷ []
one_gap (Gap ∷ ps) = Gap ∷ ps
one_gap (Mark d ∷ ps) = Gap ∷ Mark d ∷ ps
one_gap (Word t ∷ ps) = Gap ∷ Word t ∷ ps

abbrev pub merge : List Piece → List Piece
merge [] = []
merge (Gap ∷ ps) = one_gap (merge ps)
merge (Mark d ∷ ps) = Mark d ∷ merge ps
merge (Word t ∷ ps) = Word t ∷ merge ps

-- the pieces of the pattern that a search is planned over: the first four open tokens stay
abbrev pub wide_pieces : List Item → List Piece
wide_pieces items = merge (thin MAX_OPEN_TOKENS Free (pieces items))

-- that pattern
abbrev pub wide : List Item → List Item
wide items = flat (wide_pieces items)

-- one more, where there is an open token
abbrev pub more : Bool → ℕ → ℕ
more true n = suc n
more false n = n

-- how many open tokens there are
abbrev pub open_count : Side → List Piece → ℕ
open_count e [] = 0
open_count e (Gap ∷ ps) = open_count Free ps
open_count e (Mark d ∷ ps) = open_count (After d) ps
open_count e (Word t ∷ ps) = more (is_open e ps) (open_count Inside ps)

-- how many open tokens a pattern has
abbrev pub open_tokens : List Item → ℕ
open_tokens items = open_count Free (pieces items)

-- the bytes of the tokens of a stamp: digits, `-`, `.`, `T` and `Z`
unfoldable pub is_stamp_token_byte : ℕ → Bool
is_stamp_token_byte b = is_in_range 0x30 0x39 b || (b == 0x2D) || (b == 0x2E) || (b == 0x54) || (b == 0x5A)

-- a closed token that can lie in no stamp
abbrev pub is_needed : Side → List Piece → List ℕ → Bool
is_needed e ps t = not (is_open e ps) && list_any (λ b. not (is_stamp_token_byte b)) t

-- the needed words: the closed tokens with a byte that no stamp's token has, from left to right
abbrev pub needed_of : Side → List Piece → List (List ℕ)
needed_of e [] = []
needed_of e (Gap ∷ ps) = needed_of Free ps
needed_of e (Mark d ∷ ps) = needed_of (After d) ps
needed_of e (Word t ∷ ps) = if is_needed e ps t then t ∷ needed_of Inside ps else needed_of Inside ps
