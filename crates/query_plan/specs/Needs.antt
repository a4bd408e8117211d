-- What a message must bring for the pattern that a search is planned over: its needed words, and the
-- skeleton, a pattern over the constant bytes of a body alone.
use Rattle.std.specs.Prelude.{◌≡◌, ℕ, List, [], ◌∷◌, ◌++◌, ◌⊎◌, Bool, true, false, not, ◌||◌, Option, Some, None, if◌then◌else◌}
use Rattle.std.specs.List.{list_any}
use Rattle.token_rules.specs.Tokens.{IsDelimiter, is_variable}
use Rattle.time_patterns.specs.Laws.{is_stamp_byte}
use Rattle.logtype_text.specs.Parts.{Part, Constant, Variable}
use Rattle.logtype_text.specs.Cut.{plains}
use Rattle.wild_match.specs.Matches.{Match}
use Rattle.wild_match.specs.declared.pattern.Item.{Item}
use Rattle.wild_match.specs.declared.pattern.Item.TheVariants.{Byte, Many}
use Rattle.query_plan.specs.declared.pieces.Piece.{Piece}
use Rattle.query_plan.specs.declared.pieces.Piece.TheVariants.{Gap, Mark, Word}
use Rattle.query_plan.specs.Pieces.{Side, Free, After, Inside, bytes, is_open, is_needed}

-- the byte of the pattern that is known to stand before a piece
abbrev pub byte_of : Side → Option ℕ
byte_of Free = None
byte_of (After d) = Some d
byte_of Inside = None

-- for each needed word, from left to right, whether it is a variable
abbrev pub needed_variables_of : Side → List Piece → List Bool
needed_variables_of e [] = []
needed_variables_of e (Gap ∷ ps) = needed_variables_of Free ps
needed_variables_of e (Mark d ∷ ps) = needed_variables_of (After d) ps
needed_variables_of e (Word t ∷ ps) =
    if is_needed e ps t then is_variable (byte_of e) t ∷ needed_variables_of Inside ps else needed_variables_of Inside ps

-- a text has a byte that no stamp has
abbrev pub is_foreign : List ℕ → Bool
is_foreign t = list_any (λ b. not (is_stamp_byte b)) t

-- a token comes first that can lie in no stamp
abbrev pub foreign_next : List Piece → Bool
foreign_next [] = false
foreign_next (Gap ∷ ps) = false
foreign_next (Mark d ∷ ps) = false
foreign_next (Word t ∷ ps) = is_foreign t

-- A piece can lie in no stamp, since it has a byte that no stamp has, or is a delimiter before a token with
-- one: a body does not begin within a line's token.
abbrev pub is_behind : Piece → List Piece → Bool
is_behind Gap ps = false
is_behind (Mark d) ps = not (is_stamp_byte d) || foreign_next ps
is_behind (Word t) ps = is_foreign t

-- the pieces from the first one on that can lie in no stamp
abbrev pub back_part : List Piece → List Piece
back_part [] = []
back_part (p ∷ ps) = if is_behind p ps then p ∷ ps else back_part ps

-- a closed token among the constant bytes: none where it is a variable
abbrev pub bone : Bool → List ℕ → List Item → List Item
bone true t items = items
bone false t items = bytes t items

-- what a token says of the constant bytes: an open one may be any
abbrev pub token_bones : Bool → Option ℕ → List ℕ → List Item → List Item
token_bones true before t items = Many ∷ items
token_bones false before t items = bone (is_variable before t) t items

-- what pieces say of them
abbrev pub bones : Side → List Piece → List Item
bones e [] = []
bones e (Gap ∷ ps) = Many ∷ bones Free ps
bones e (Mark d ∷ ps) = Byte d ∷ bones (After d) ps
bones e (Word t ∷ ps) = token_bones (is_open e ps) (byte_of e) t (bones Inside ps)

-- the skeleton of pieces
abbrev pub skeleton_of : List Piece → List Item
skeleton_of ps = Many ∷ bones Free (back_part ps)

-- the constant bytes of a body
abbrev pub constants : List Part → List ℕ
constants [] = []
constants (Constant b ∷ parts) = b ∷ constants parts
constants (Variable kind text ∷ parts) = constants parts

-- the constant bytes, with this byte for each variable
abbrev pub marked : ℕ → List Part → List ℕ
marked m [] = []
marked m (Constant b ∷ parts) = b ∷ marked m parts
marked m (Variable kind text ∷ parts) = m ∷ marked m parts

-- the text is that of a variable
abbrev pub Owns : List ℕ → List Part → Type 0
Owns t [] = ⊥
Owns t (Constant b ∷ parts) = Owns t parts
Owns t (Variable kind text ∷ parts) = (text ≡ t) ⊎ Owns t parts

-- the text stands among the constant bytes, and a delimiter on each side of it
pub record Shows (t : List ℕ) (parts : List Part) : Type 0 where
  pub front : List Part
  pub behind : List Part
  pub left : ℕ
  pub right : ℕ
  pub left_ends : IsDelimiter left
  pub right_ends : IsDelimiter right
  pub stands : parts ≡ front ++ Constant left ∷ plains t (Constant right ∷ behind)

-- the parts bring a needed word
abbrev pub Brings : List Part → List ℕ → Bool → Type 0
Brings parts t true = Owns t parts
Brings parts t false = Shows t parts

-- the text with any bytes on both sides
abbrev pub around : List ℕ → List Item
around t = Many ∷ bytes t (Many ∷ [])

-- the text stands in that of a variable
abbrev pub HeldIn : List ℕ → List Part → Type 0
HeldIn t [] = ⊥
HeldIn t (Constant b ∷ parts) = HeldIn t parts
HeldIn t (Variable kind text ∷ parts) = Match (around t) text ⊎ HeldIn t parts
