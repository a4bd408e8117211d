-- Which message a row means, and when a row is the one that a message is encoded as.
-- A log type number and the numbers of words are places in two lists of texts, `types` and `words`.
use Rattle.std.specs.Prelude.{◌≡◌, ℕ, zero, suc, ℤ, pos, List, [], ◌∷◌, ◌++◌, length, map, Some, slice_get}
use Rattle.std.specs.List.{AllZip}
use Rattle.std.specs.Int.{cast_unsigned, w64}
use Rattle.var_codec.specs.Codes.{Codes}
use Rattle.var_codec.specs.declared.Coded.TheVariants.{Whole as WholeWord, Decimal as DecimalWord, Word as DictionaryWord}
use Rattle.logtype_text.specs.declared.symbols.Kind.{Kind}
use Rattle.logtype_text.specs.declared.symbols.Kind.TheVariants.{Whole, Word, Decimal}
use Rattle.logtype_text.specs.Parts.{Part, Constant, Variable, AreParts, joined, symbol_of}
use Rattle.logtype_text.specs.TypeText.{type_text}
use Rattle.time_patterns.specs.Stamps.{HasStamp, Prints}
use Rattle.column_store.specs.declared.row.Row.{Row}

-- The word of a variable of this kind with this text: a whole number in two's complement, the word of
-- a decimal, or for any other text its number among the words.
abbrev pub HasWord : List (List ℕ) → Kind → List ℕ → ℕ → Type 0
HasWord words Whole text word = (n : ℤ) × Codes text (WholeWord n) × (word ≡ cast_unsigned w64 n)
HasWord words Decimal text word = Codes text (DecimalWord word)
HasWord words Word text word = Codes text DictionaryWord × (slice_get words word ≡ Some text)

-- a variable of this kind that has this word is written so: as above, whatever text the number has
abbrev pub IsWritten : List (List ℕ) → Kind → List ℕ → ℕ → Type 0
IsWritten words Whole text word = (n : ℤ) × Codes text (WholeWord n) × (word ≡ cast_unsigned w64 n)
IsWritten words Decimal text word = Codes text (DecimalWord word)
IsWritten words Word text word = slice_get words word ≡ Some text

-- one word for each variable of the parts, in order, and the relation holds of each
abbrev pub EachWord : (Kind → List ℕ → ℕ → Type 0) → List Part → List ℕ → Type 0
EachWord R [] [] = Unit {0}
EachWord R [] (word ∷ row) = ⊥
EachWord R (Constant b ∷ parts) row = EachWord R parts row
EachWord R (Variable kind text ∷ parts) [] = ⊥
EachWord R (Variable kind text ∷ parts) (word ∷ row) = R kind text word × EachWord R parts row

-- the text of a row's stamp, which is empty without one
abbrev pub HasStampText : ℕ → ℤ → List ℕ → Type 0
HasStampText zero moment text = (moment ≡ pos 0) × (text ≡ [])
HasStampText (suc k) moment text = Prints (suc k) moment text

-- The row's stamp and parts, written one after the other, are the message. This asks less than that
-- the row means the message: a number of a word may stand for a text that is coded otherwise.
pub record IsSpelling (row : Row) (types words : List (List ℕ)) (message : List ℕ) : Type 0 where
  pub stamp : List ℕ
  pub parts : List Part
  pub typed : slice_get types row.log_type ≡ Some (type_text (map symbol_of parts))
  pub written : EachWord (IsWritten words) parts row.words
  pub stamped : HasStampText row.pattern row.moment stamp
  pub is : message ≡ stamp ++ joined parts

-- the row can be written: its pattern prints its moment, its numbers have texts, its words fit its slots
abbrev pub HasSpelling : Row → List (List ℕ) → List (List ℕ) → Type 0
HasSpelling row types words = (message : List ℕ) × IsSpelling row types words message

-- what the row is written as stands behind the old bytes
abbrev pub IsAppended : Row → List (List ℕ) → List (List ℕ) → List ℕ → List ℕ → Type 0
IsAppended row types words old new = (text : List ℕ) × IsSpelling row types words text × (new ≡ old ++ text)

-- the row means the message
pub record Means (row : Row) (types words : List (List ℕ)) (message : List ℕ) : Type 0 where
  pub stamp : List ℕ
  pub parts : List Part
  pub typed : slice_get types row.log_type ≡ Some (type_text (map symbol_of parts))
  pub coded : EachWord (HasWord words) parts row.words
  pub stamped : HasStampText row.pattern row.moment stamp
  pub is : message ≡ stamp ++ joined parts

-- The row is the encoding of the message in an archive of this version: it means the message, its
-- parts are those of the message's body, and its stamp is the message's.
pub record IsCanonical (version : ℕ) (row : Row) (types words : List (List ℕ)) (message : List ℕ) : Type 0 where
  pub means : Means row types words message
  pub body : AreParts (joined means.parts) means.parts
  pub stamp : HasStamp version message row.pattern row.moment (length means.stamp)

-- the row is the encoding of some message
abbrev pub IsEncoding : ℕ → Row → List (List ℕ) → List (List ℕ) → Type 0
IsEncoding version row types words = (message : List ℕ) × IsCanonical version row types words message

-- the rows are the encodings of the messages, in order
abbrev pub AreCanonical : ℕ → List Row → List (List ℕ) → List (List ℕ) → List (List ℕ) → Type 0
AreCanonical version rows types words messages =
    AllZip (λ row message. IsCanonical version row types words message) rows messages
