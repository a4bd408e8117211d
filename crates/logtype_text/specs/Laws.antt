-- What follows of the parts of a body and of the texts of log types.
use Rattle.std.specs.Prelude.{◌≡◌, ℕ, ◌↔◌, List, ◌∷◌, ◌++◌, length, map, slice_range}
use Rattle.logtype_text.specs.declared.symbols.Kind.{Kind}
use Rattle.logtype_text.specs.declared.symbols.Symbol.{Symbol}
use Rattle.logtype_text.specs.Parts.{Part, Variable, AreParts, IsVariableToken, joined, symbol_of}
use Rattle.logtype_text.specs.TypeText.{type_text, IsGood, IsTypeText}

-- a body has one list of parts
abbrev pub OneListOfParts : Type 0
OneListOfParts = (body : List ℕ) (a b : List Part) → AreParts body a → AreParts body b → a ≡ b

-- one of the parts is a variable with the bytes from `start` up to `end`, and it stands there
pub record HasVariable (body : List ℕ) (parts : List Part) (start end : ℕ) : Type 0 where
  pub front : List Part
  pub kind : Kind
  pub back : List Part
  pub cut : parts ≡ front ++ Variable kind (slice_range body start end) ∷ back
  pub place : length (joined front) ≡ start

-- each token that is a variable is one of the parts
abbrev pub EachVariableIsAPart : Type 0
EachVariableIsAPart =
    (body : List ℕ) (parts : List Part) (start end : ℕ)
    → AreParts body parts → IsVariableToken body start end → HasVariable body parts start end

-- two lists of parts have the same text exactly where they are the same without the variables' texts
abbrev pub SameTypeText : Type 0
SameTypeText =
    (a b : List Part)
    → (type_text (map symbol_of a) ≡ type_text (map symbol_of b)) ↔ (map symbol_of a ≡ map symbol_of b)

-- a text is that of one list of symbols
abbrev pub OneListOfSymbols : Type 0
OneListOfSymbols = (a b : List Symbol) → type_text a ≡ type_text b → a ≡ b

-- a text is good exactly where it is that of some symbols
abbrev pub GoodIsTypeText : Type 0
GoodIsTypeText = (text : List ℕ) → IsGood text ↔ IsTypeText text
