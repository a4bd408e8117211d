-- Where a text may stand in the messages of a log type. Its constant bytes are known, and each variable is one
-- whole token.
use Rattle.std.specs.Prelude.{◌≡◌, ◌⊎◌, ℕ, ◌<◌, List, [], ◌∷◌, ◌++◌, length, map, IsTrue, if◌then◌else◌}
use Rattle.token_rules.specs.Tokens.{is_token_byte}
use Rattle.logtype_text.specs.declared.symbols.Symbol.{Symbol}
use Rattle.logtype_text.specs.declared.symbols.Symbol.TheVariants.{Byte, Slot}
use Rattle.logtype_text.specs.Parts.{Part, AreParts, symbol_of}
use Rattle.wild_match.specs.Matches.{Match}
use Rattle.query_plan.specs.declared.pieces.Piece.{Piece}
use Rattle.query_plan.specs.Laws.{BeginsMark, IsChunk, chunk_text}
use Rattle.query_plan.specs.Needs.{around}
use Rattle.query_plan.specs.Pieces.{IsCut, flat}
use Rattle.query_plan.specs.Readings.{IsBodyBehind}

-- what is left of a text behind the bytes of a token at its front
abbrev pub after_token : List ℕ → List ℕ
after_token [] = []
after_token (b ∷ w) = if is_token_byte b then after_token w else b ∷ w

-- The text may begin with these symbols: a constant byte stands for itself, and a variable for the bytes of
-- one token, as far as the text goes.
abbrev pub MayBegin : List ℕ → List Symbol → Type 0
MayBegin [] symbols = Unit {0}
MayBegin (b ∷ w) [] = ⊥
MayBegin (b ∷ w) (Byte c ∷ symbols) = (b ≡ c) × MayBegin w symbols
MayBegin (b ∷ w) (Slot kind ∷ symbols) = IsTrue (is_token_byte b) × MayBegin (after_token w) symbols

-- the text may begin with some symbol, or within the variable of a slot
abbrev pub MayStand : List ℕ → List Symbol → Type 0
MayStand w [] = MayBegin w []
MayStand w (s ∷ symbols) = MayBegin w (s ∷ symbols) ⊎ MayStand w symbols

-- a text stands in a body only where it may stand in the body's log type
abbrev pub TextsStand : Type 0
TextsStand =
    (w body : List ℕ) (parts : List Part) → AreParts body parts → Match (around w) body → MayStand w (map symbol_of parts)

-- and at its front only where it may begin there
abbrev pub FrontsBegin : Type 0
FrontsBegin =
    (w behind body : List ℕ) (parts : List Part) → AreParts body parts → body ≡ w ++ behind → MayBegin w (map symbol_of parts)

-- a front of the text ends a stamp, and its rest, which begins with a delimiter, may begin with these symbols
pub record GoesOn (text s : List ℕ) (symbols : List Symbol) : Type 0 where
  pub front : List ℕ
  pub back : List ℕ
  pub before : List ℕ
  pub joins : text ≡ front ++ back
  pub some : 0 < length front
  pub marks : BeginsMark back
  pub ends : s ≡ before ++ front
  pub goes : MayBegin back symbols

-- A message that pieces match has the text of each chunk of them in its stamp, or that goes on from there into
-- its body, or its log type is one in which the text may stand.
abbrev pub ChunksMayStand : Type 0
ChunksMayStand =
    (ps chunk : List Piece) (s body : List ℕ) (parts : List Part) → IsCut ps → IsChunk ps chunk
    → IsBodyBehind s body → AreParts body parts → Match (flat ps) (s ++ body)
    → Match (around (chunk_text chunk)) s
    ⊎ (GoesOn (chunk_text chunk) s (map symbol_of parts) ⊎ MayStand (chunk_text chunk) (map symbol_of parts))
