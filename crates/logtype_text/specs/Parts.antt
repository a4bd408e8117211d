-- What a body is made of: bytes of constant text and variables, each a token.
-- The parts are pinned on the whole body at once: joined they are the body, each variable is a whole
-- token that is a variable, and no byte of such a token is left as a constant.
use Rattle.std.specs.Prelude.{◌≡◌, ℕ, ◌+◌, ◌<◌, ◌≤◌, List, [], ◌∷◌, length, map, slice_range}
use Rattle.std.specs.List.{AllZip, flat_map}
use Rattle.token_rules.specs.Tokens.{IsToken, IsVariableAt}
use Rattle.var_codec.specs.Codes.{Codes}
use Rattle.var_codec.specs.declared.Coded.{Coded}
use Rattle.var_codec.specs.declared.Coded.TheVariants.{Whole as WholeWord, Decimal as DecimalWord, Word as DictionaryWord}
use Rattle.logtype_text.specs.declared.symbols.Kind.{Kind}
use Rattle.logtype_text.specs.declared.symbols.Kind.TheVariants.{Whole, Word, Decimal}
use Rattle.logtype_text.specs.declared.symbols.Symbol.{Symbol}
use Rattle.logtype_text.specs.declared.symbols.Symbol.TheVariants.{Byte, Slot}
use Rattle.logtype_text.specs.declared.spans.Span.{Span}

-- a part of a body: one byte of constant text, or a variable with its kind and its text
pub data Part : Type 0 where
  Constant : ℕ → Part
  Variable : Kind → List ℕ → Part

-- the bytes of a part
abbrev pub text_of_part : Part → List ℕ
text_of_part (Constant b) = b ∷ []
text_of_part (Variable kind text) = text

-- the texts of the parts joined
abbrev pub joined : List Part → List ℕ
joined parts = flat_map text_of_part parts

-- which kind of variable has this word
abbrev pub kind_of : Coded → Kind
kind_of (WholeWord n) = Whole
kind_of (DecimalWord word) = Decimal
kind_of DictionaryWord = Word

-- the text is coded as this kind
abbrev pub HasKind : List ℕ → Kind → Type 0
HasKind text kind = (coded : Coded) × Codes text coded × (kind_of coded ≡ kind)

-- the bytes from `start` up to `end` are a token of the body that is a variable
pub record IsVariableToken (body : List ℕ) (start end : ℕ) : Type 0 where
  pub token : IsToken body start end
  pub variable : IsVariableAt body start end

-- the byte at this place belongs to a token that is a variable
pub record LiesInVariable (body : List ℕ) (at : ℕ) : Type 0 where
  pub start : ℕ
  pub end : ℕ
  pub holds : IsVariableToken body start end
  pub low : start ≤ at
  pub high : at < end

-- no byte from the one place up to the other belongs to a variable
abbrev pub IsFree : List ℕ → ℕ → ℕ → Type 0
IsFree body from to = (k : ℕ) → from ≤ k → k < to → ¬ LiesInVariable body k

-- The parts stand in the body from this place on: a variable is a token that is a variable, with the
-- kind that its text is coded as, and a constant byte belongs to no such token.
abbrev pub StandAt : List ℕ → ℕ → List Part → Type 0
StandAt body at [] = Unit {0}
StandAt body at (Constant b ∷ parts) = (¬ LiesInVariable body at) × StandAt body (at + 1) parts
StandAt body at (Variable kind text ∷ parts) =
    IsVariableToken body at (at + length text) × HasKind text kind × StandAt body (at + length text) parts

-- these are the parts of the body
pub record AreParts (body : List ℕ) (parts : List Part) : Type 0 where
  pub joins : joined parts ≡ body
  pub stand : StandAt body 0 parts

-- a part without the text of its variable
abbrev pub symbol_of : Part → Symbol
symbol_of (Constant b) = Byte b
symbol_of (Variable kind text) = Slot kind

-- where the variables stand, if the first part stands at this place
abbrev pub places_of : ℕ → List Part → List Span
places_of at [] = []
places_of at (Constant b ∷ parts) = places_of (at + 1) parts
places_of at (Variable kind text ∷ parts) =
    record { start = at; end = at + length text } ∷ places_of (at + length text) parts

-- the parts again, from the symbols, the places of the variables in order, and the body
abbrev pub parts_of : List ℕ → List Symbol → List Span → List Part
parts_of body [] spans = []
parts_of body (Byte b ∷ symbols) spans = Constant b ∷ parts_of body symbols spans
parts_of body (Slot kind ∷ symbols) [] = Variable kind [] ∷ parts_of body symbols []
parts_of body (Slot kind ∷ symbols) (span ∷ spans) =
    Variable kind (slice_range body span.start span.end) ∷ parts_of body symbols spans

-- how many variables the symbols have
abbrev pub slot_count : List Symbol → ℕ
slot_count [] = 0
slot_count (Byte b ∷ symbols) = slot_count symbols
slot_count (Slot kind ∷ symbols) = slot_count symbols + 1

-- these are the symbols of the body, and these are the places of its variables in order
pub record IsSplit (body : List ℕ) (symbols : List Symbol) (spans : List Span) : Type 0 where
  pub parts : AreParts body (parts_of body symbols spans)
  pub all_symbols : map symbol_of (parts_of body symbols spans) ≡ symbols
  pub all_spans : places_of 0 (parts_of body symbols spans) ≡ spans

-- these are, place by place, what the variables at these places of the body are coded as
abbrev pub AreCodes : List ℕ → List Span → List Coded → Type 0
AreCodes body spans codes = AllZip (λ span coded. Codes (slice_range body span.start span.end) coded) spans codes
