-- What is written behind the stamp of a row, on the way through the text of its log type.
use Rattle.std.specs.Prelude.{◌≡◌, ◌≢◌, ℕ, ℤ, List, ◌++◌, map, Some, slice_get}
use Rattle.logtype_text.specs.declared.symbols.Kind.{Kind}
use Rattle.logtype_text.specs.Parts.{Part, joined, symbol_of}
use Rattle.logtype_text.specs.TypeText.{type_text}
use Rattle.row_codec.specs.Means.{EachWord, HasStampText, IsWritten}

-- a stamp with this pattern and moment can be written
abbrev pub HasStampWriting : ℕ → ℤ → Type 0
HasStampWriting pattern moment = (text : List ℕ) × HasStampText pattern moment text

-- no text has this number
abbrev pub HasNoText : List (List ℕ) → ℕ → Type 0
HasNoText texts number = (text : List ℕ) → slice_get texts number ≢ Some text

-- a variable of this kind with this word can be written
abbrev pub HasWriting : List (List ℕ) → Kind → ℕ → Type 0
HasWriting words kind word = (text : List ℕ) × IsWritten words kind text word

-- the text of a log type with these words in its slots is written so
pub record IsBody (words : List (List ℕ)) (text row body : List ℕ) : Type 0 where
  pub parts : List Part
  pub typed : text ≡ type_text (map symbol_of parts)
  pub written : EachWord (IsWritten words) parts row
  pub is : body ≡ joined parts

-- the text of a log type with these words in its slots can be written
abbrev pub HasBody : List (List ℕ) → List ℕ → List ℕ → Type 0
HasBody words text row = (body : List ℕ) × IsBody words text row body

-- what a text is written as begins with these bytes, and goes on as the rest of it with the words
-- that are left
abbrev pub Leads : List (List ℕ) → List ℕ → List ℕ → List ℕ → List ℕ → List ℕ → Type 0
Leads words text row rest left bytes =
    (body : List ℕ) → IsBody words text row body
    → (tail : List ℕ) × IsBody words rest left tail × (body ≡ bytes ++ tail)

-- Bytes were appended, and what a text is written as begins with them and goes on as the rest of it.
-- Where the rest can be written, the whole can.
pub record Puts (words : List (List ℕ)) (text row rest left old new : List ℕ) : Type 0 where
  pub bytes : List ℕ
  pub appended : new ≡ old ++ bytes
  pub leads : Leads words text row rest left bytes
  pub fits : HasBody words rest left → HasBody words text row
