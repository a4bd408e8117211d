-- How `show` prints a message: its bytes, with each variable in braces.
use Rattle.std.specs.Prelude.{◌≡◌, ◌+◌, ◌/◌, ◌%◌, ◌^◌, ℕ, zero, suc, List, [], ◌∷◌, ◌++◌, codes, if◌then◌else◌, nat_lt}
use Rattle.std.specs.Int.{cast_unsigned, w64}
use Rattle.var_codec.specs.Codes.{Codes}
use Rattle.var_codec.specs.declared.Coded.{Coded}
use Rattle.var_codec.specs.declared.Coded.TheVariants.{Whole, Decimal, Word}
use Rattle.logtype_text.specs.Parts.{Part, Constant, Variable, AreParts}

-- `0` to `9` and `A` to `F`
abbrev pub hexadecimal_digit : ℕ → ℕ
hexadecimal_digit n = if nat_lt n 10 then 48 + n else 55 + n

-- so many hexadecimal digits of a number, the highest first
abbrev pub hexadecimal : ℕ → ℕ → List ℕ
hexadecimal zero n = []
hexadecimal (suc places) n = hexadecimal_digit (n / 16 ^ places % 16) ∷ hexadecimal places n

-- a word of 64 bits behind its variable's text: `=`, 16 digits, and `}`
abbrev pub word_end : ℕ → List ℕ
word_end word = 61 ∷ (hexadecimal 16 word ++ (125 ∷ []))

-- a variable with the word of 64 bits that it is coded as
abbrev pub with_word : List ℕ → List ℕ → ℕ → List ℕ
with_word mark text word = mark ++ (text ++ word_end word)

-- a variable in braces
abbrev pub marked : List ℕ → Coded → List ℕ
marked text (Whole n) = with_word (codes "{i:") text (cast_unsigned w64 n)
marked text (Decimal word) = with_word (codes "{d:") text word
marked text Word = codes "{w:" ++ (text ++ (125 ∷ []))

-- the text that a part of a message is shown as: a constant byte as itself, a variable in braces as it is coded
abbrev pub ShowsPart : Part → List ℕ → Type 0
ShowsPart (Constant b) shown = shown ≡ b ∷ []
ShowsPart (Variable kind text) shown = (coded : Coded) × Codes text coded × (shown ≡ marked text coded)

-- the parts one after the other
abbrev pub ShowsParts : List Part → List ℕ → Type 0
ShowsParts [] shown = shown ≡ []
ShowsParts (part ∷ parts) shown =
    (first : List ℕ) × (rest : List ℕ)
    × (shown ≡ first ++ rest)
    × ShowsPart part first × ShowsParts parts rest

-- the text that a message is shown as: its parts, and a newline
pub record Shows (message text : List ℕ) : Type 0 where
  pub parts : List Part
  pub are : AreParts message parts
  pub shown : List ℕ
  pub shows : ShowsParts parts shown
  pub is : text ≡ shown ++ 10 ∷ []
