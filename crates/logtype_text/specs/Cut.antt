-- The parts of a body, a whole token at a time from the left.
-- This says of the parts alone, with no body beside them, that they are those of the body that they
-- join to: which is what a test of parts that are stored apart from their body has to decide.
use Rattle.std.specs.Prelude.{◌≡◌, ℕ, ◌<◌, ◌↔◌, Option, None, Some, List, [], ◌∷◌, length, slice_index}
use Rattle.token_rules.specs.Tokens.{IsDelimiter, IsVariable}
use Rattle.logtype_text.specs.declared.symbols.Kind.{Kind}
use Rattle.logtype_text.specs.Parts.{Part, Constant, Variable, HasKind, AreParts, joined}

-- the bytes can be a token: at least one, and none of them a delimiter
pub record IsTokenText (text : List ℕ) : Type 0 where
  pub some : 0 < length text
  pub unbroken : (k : ℕ) → k < length text → ¬ IsDelimiter (slice_index text k)

-- a token that stands before these parts ends there: none follows, or a constant delimiter
abbrev pub Breaks : List Part → Type 0
Breaks [] = Unit {0}
Breaks (Constant b ∷ parts) = IsDelimiter b
Breaks (Variable kind text ∷ parts) = ⊥

-- the bytes as constants, and the parts after them
abbrev pub plains : List ℕ → List Part → List Part
plains [] parts = parts
plains (b ∷ bytes) parts = Constant b ∷ plains bytes parts

-- The parts are cut by the rule of tokens, where the byte `prev` stands directly before them, if one
-- does: a delimiter is a constant, a token that is no variable is constants, and a token that is a
-- variable is one part of the kind that its text is coded as. A token ends at a delimiter or with the
-- parts, so no rule asks what stands before what follows it.
pub data Cut : Option ℕ → List Part → Type 0 where
  ended : {prev : Option ℕ} → Cut prev []
  delimiter :
      {prev : Option ℕ} {parts : List Part} (b : ℕ) → IsDelimiter b → Cut (Some b) parts
      → Cut prev (Constant b ∷ parts)
  plain :
      {prev : Option ℕ} {parts : List Part} (token : List ℕ) → IsTokenText token → Breaks parts
      → ¬ IsVariable prev token → Cut None parts → Cut prev (plains token parts)
  held :
      {prev : Option ℕ} {parts : List Part} (kind : Kind) (token : List ℕ) → IsTokenText token
      → Breaks parts → IsVariable prev token → HasKind token kind → Cut None parts
      → Cut prev (Variable kind token ∷ parts)

-- parts are those of a body exactly where they join to it and are cut by the rule of tokens
abbrev pub PartsAreCut : Type 0
PartsAreCut = (body : List ℕ) (parts : List Part) → AreParts body parts ↔ ((joined parts ≡ body) × Cut None parts)
