-- The runs of constant bytes in the text of a log type. A run ends at a delimiter, at a variable and at
-- an end of the text, and is as long as it can be.
use Rattle.std.specs.Prelude.{◌≡◌, ℕ, Bool, true, not, List, [], ◌∷◌, ◌++◌, map, IsTrue}
use Rattle.token_rules.specs.Tokens.{IsDelimiter, is_token_byte}
use Rattle.logtype_text.specs.declared.symbols.Symbol.{Symbol}
use Rattle.logtype_text.specs.declared.symbols.Symbol.TheVariants.{Byte, Slot}
use Rattle.logtype_text.specs.TypeText.{text_of_symbol, type_text}

-- no run goes on over this symbol
abbrev pub ends_run : Symbol → Bool
ends_run (Byte b) = not (is_token_byte b)
ends_run (Slot kind) = true

-- a run may begin behind these symbols: behind one that ends a run, and behind none where it may begin
-- here
abbrev pub may_begin : Bool → List Symbol → Bool
may_begin here [] = here
may_begin here (symbol ∷ symbols) = may_begin (ends_run symbol) symbols

-- no further byte of a run comes first
abbrev pub IsRunEnd : List ℕ → Type 0
IsRunEnd text = (b : ℕ) (rest : List ℕ) → text ≡ text_of_symbol (Byte b) ++ rest → IsDelimiter b

-- the run at the front of the text is the word
abbrev pub BeginsRun : List ℕ → List ℕ → Type 0
BeginsRun text word = (behind : List ℕ) × (text ≡ type_text (map Byte word) ++ behind) × IsRunEnd behind

-- The word is a run of the text, read from the front; `here` tells whether one may begin there. The
-- word's bytes are compared with constant bytes, not with the bytes of the text: a `\` that stands
-- before another byte is none of them.
pub record HoldsRunFrom (here : Bool) (text word : List ℕ) : Type 0 where
  pub front : List Symbol
  pub run : List ℕ
  pub begins : IsTrue (may_begin here front)
  pub stands : text ≡ type_text front ++ run
  pub is : BeginsRun run word

-- the word is a run of the text
abbrev pub HoldsRun : List ℕ → List ℕ → Type 0
HoldsRun text word = HoldsRunFrom true text word
