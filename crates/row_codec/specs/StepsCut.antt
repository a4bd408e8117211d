-- Whether the parts of a row are cut by the rule of tokens, on the way through the text of its log type.
use Rattle.std.specs.Prelude.{◌≡◌, ℕ, ◌<◌, ◌↔◌, Bool, true, Option, List, [], ◌∷◌, ◌++◌, length, map, slice_index}
use Rattle.token_rules.specs.Tokens.{IsDelimiter, IsVariable}
use Rattle.logtype_text.specs.declared.symbols.Kind.{Kind}
use Rattle.logtype_text.specs.declared.symbols.Symbol.TheVariants.{Byte}
use Rattle.logtype_text.specs.Parts.{Part, Constant, Variable, HasKind, symbol_of}
use Rattle.logtype_text.specs.Cut.{Breaks, Cut, IsTokenText}
use Rattle.logtype_text.specs.TypeText.{text_of_symbol, type_text}
use Rattle.row_codec.specs.Means.{EachWord, IsWritten}
use Rattle.row_codec.specs.declared.cutting.Place.{Place}

-- the parts that the text of a log type and these words stand for are cut by the rule of tokens, where
-- the byte `prev` stands directly before them, if one does
pub record IsCutText (words : List (List ℕ)) (prev : Option ℕ) (text row : List ℕ) : Type 0 where
  pub parts : List Part
  pub typed : text ≡ type_text (map symbol_of parts)
  pub written : EachWord (IsWritten words) parts row
  pub cut : Cut prev parts

-- what is left from a place on is cut so
abbrev pub IsCutAt : List (List ℕ) → Place → Type 0
IsCutAt words at = IsCutText words at.prev at.rest.now at.words.now

-- a variable of this kind with this word can be written, as a token that is such a variable
pub record IsHeldWord (words : List (List ℕ)) (prev : Option ℕ) (kind : Kind) (word : ℕ) : Type 0 where
  pub token : List ℕ
  pub written : IsWritten words kind token word
  pub text : IsTokenText token
  pub variable : IsVariable prev token
  pub has_kind : HasKind token kind

-- a token that is a variable behind this byte
pub record IsHeldToken (prev : Option ℕ) (token : List ℕ) : Type 0 where
  pub text : IsTokenText token
  pub variable : IsVariable prev token

-- a token before the text of some parts ends there
abbrev pub TellsBreaks : List ℕ → Bool → Type 0
TellsBreaks text breaks = (parts : List Part) → text ≡ type_text (map symbol_of parts) → (breaks ≡ true) ↔ Breaks parts

-- no constant byte of a token is the first of the parts
abbrev pub Stops : List Part → Type 0
Stops [] = Unit {0}
Stops (Constant b ∷ parts) = IsDelimiter b
Stops (Variable kind text ∷ parts) = Unit {0}

-- a constant byte of a token is first in the text
pub record IsTokenByte (text rest : List ℕ) : Type 0 where
  pub byte : ℕ
  pub of_token : ¬ IsDelimiter byte
  pub cut : text ≡ text_of_symbol (Byte byte) ++ rest

-- none is
abbrev pub StopsText : List ℕ → Type 0
StopsText text = (rest : List ℕ) → ¬ IsTokenByte text rest

-- constant bytes of a token are first in the text
pub record AreTokenBytes (text rest : List ℕ) : Type 0 where
  pub bytes : List ℕ
  pub unbroken : (k : ℕ) → k < length bytes → ¬ IsDelimiter (slice_index bytes k)
  pub cut : text ≡ type_text (map Byte bytes) ++ rest
