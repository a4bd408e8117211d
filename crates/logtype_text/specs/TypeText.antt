-- The text of a log type: its constant bytes, and a placeholder for each variable.
use Rattle.std.specs.Prelude.{◌≡◌, ℕ, Bool, ◌||◌, List, [], ◌∷◌, ◌++◌, length, if◌then◌else◌, ◌==◌, IsTrue, IfSome, slice_get}
use Rattle.std.specs.List.{flat_map}
use Rattle.std.specs.Int.{is_in_range}
use Rattle.logtype_text.specs.declared.symbols.Kind.{Kind}
use Rattle.logtype_text.specs.declared.symbols.Kind.TheVariants.{Whole, Word, Decimal}
use Rattle.logtype_text.specs.declared.symbols.Symbol.{Symbol}
use Rattle.logtype_text.specs.declared.symbols.Symbol.TheVariants.{Byte, Slot}

-- the byte that stands in the place of a variable of this kind
abbrev pub placeholder : Kind → ℕ
placeholder Whole = 0x11
placeholder Word = 0x12
placeholder Decimal = 0x13

-- a constant byte that needs a `\` before it: a placeholder's byte, or `\` itself
abbrev pub is_escaped : ℕ → Bool
is_escaped b = is_in_range 0x11 0x13 b || (b == 0x5C)

-- the bytes of a symbol
abbrev pub text_of_symbol : Symbol → List ℕ
text_of_symbol (Byte b) = if is_escaped b then 0x5C ∷ b ∷ [] else b ∷ []
text_of_symbol (Slot kind) = placeholder kind ∷ []

-- the text of a log type
abbrev pub type_text : List Symbol → List ℕ
type_text symbols = flat_map text_of_symbol symbols

-- the text is that of some symbols
abbrev pub IsTypeText : List ℕ → Type 0
IsTypeText text = (symbols : List Symbol) × (type_text symbols ≡ text)

-- Read from the front, the `\` at this place stands before no byte that needs it: what is before it
-- is the text of symbols, so that it belongs to no other `\`, and it is the first such.
pub record IsLoneAt (text : List ℕ) (at : ℕ) : Type 0 where
  pub front : List Symbol
  pub back : List ℕ
  pub cut : text ≡ type_text front ++ (0x5C ∷ back)
  pub place : at ≡ length (type_text front)
  pub lone : IfSome (slice_get back 0) (λ b. ¬ IsTrue (is_escaped b))

-- read from the front, each `\` stands before a byte that needs it
abbrev pub IsGood : List ℕ → Type 0
IsGood text = (at : ℕ) → ¬ IsLoneAt text at
