-- What a message of an archive is, and the texts that its encoding names.
use Rattle.std.specs.Prelude.{◌≡◌, ℕ, ℤ, ◌<◌, ◌≤◌, ◌⊎◌, List, [], ◌∷◌, ◌++◌, length, map}
use Rattle.std.specs.List.{Contains}
use Rattle.log_messages.specs.Messages.{IsLine}
use Rattle.logtype_text.specs.Parts.{Part, AreParts, joined, symbol_of}
use Rattle.logtype_text.specs.TypeText.{type_text}
use Rattle.logtype_text.specs.Encoded.{word_texts}
use Rattle.time_patterns.specs.Stamps.{HasStamp, IsStamped}
use Rattle.row_codec.specs.declared.TheConstants.{MAX_MESSAGE_LEN}

-- the bytes are empty, or go on behind a newline
abbrev pub EndsLine : List ℕ → Type 0
EndsLine [] = Unit {0}
EndsLine (b ∷ rest) = b ≡ 10

-- a line behind a newline of the message has a stamp
pub record HasLaterStamp (version : ℕ) (message : List ℕ) : Type 0 where
  pub front : List ℕ
  pub line : List ℕ
  pub back : List ℕ
  pub cut : message ≡ front ++ (10 ∷ (line ++ back))
  pub is_line : IsLine line
  pub ends : EndsLine back
  pub stamped : IsStamped version line

-- a first line with a stamp, and lines behind it that have none
pub record IsGroup (version : ℕ) (message : List ℕ) : Type 0 where
  pub stamped : IsStamped version message
  pub alone : ¬ HasLaterStamp version message

-- a message of an archive of this version: one line, or from version 2 on a group of lines
pub record IsMessage (version : ℕ) (message : List ℕ) : Type 0 where
  pub short : length message ≤ MAX_MESSAGE_LEN
  pub lines : IsLine message ⊎ ((1 < version) × IsGroup version message)

-- the message is its stamp, or nothing without one, and then the parts of its body
pub record IsCutInto (version : ℕ) (message : List ℕ) (parts : List Part) : Type 0 where
  pub stamp : List ℕ
  pub pattern : ℕ
  pub moment : ℤ
  pub stamped : HasStamp version message pattern moment (length stamp)
  pub is : message ≡ stamp ++ joined parts
  pub body : AreParts (joined parts) parts

-- the text of the message's log type
abbrev pub IsTypeOf : ℕ → List ℕ → List ℕ → Type 0
IsTypeOf version message text =
    (parts : List Part) × IsCutInto version message parts × (text ≡ type_text (map symbol_of parts))

-- a text of the message that goes to the dictionary of words
abbrev pub IsWordOf : ℕ → List ℕ → List ℕ → Type 0
IsWordOf version message text =
    (parts : List Part) × IsCutInto version message parts × Contains (word_texts parts) text
