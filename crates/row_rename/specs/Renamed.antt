-- What it is that a row of one archive has the numbers of another. The log types and the words of the
-- one are `old` texts, those of the other `new` ones, each at its number.
use Rattle.std.specs.Prelude.{◌≡◌, ℕ, false, List, [], ◌∷◌, Some, slice_get}
use Rattle.std.specs.List.{Contains}
use Rattle.logtype_text.specs.declared.symbols.Kind.{Kind}
use Rattle.logtype_text.specs.declared.symbols.Kind.TheVariants.{Whole, Word, Decimal}
use Rattle.column_store.specs.declared.row.Row.{Row}
use Rattle.row_codec.specs.declared.namer.Which.{Which}
use Rattle.row_codec.specs.declared.namer.Which.TheVariants.{Types, Words}
use Rattle.row_codec.specs.Numbers.{kinds_from, numbers_of_row}
use Rattle.row_rename.specs.declared.renamed_row.RenamedRow.{RenamedRow}

-- a number there and a number here have one text
pub record HaveOneText (old new : List (List ℕ)) (number renamed : ℕ) : Type 0 where
  pub text : List ℕ
  pub was : slice_get old number ≡ Some text
  pub is : slice_get new renamed ≡ Some text

-- a word in a slot of this kind: the number of one text, or the same whole number or decimal
abbrev pub IsSlot : List (List ℕ) → List (List ℕ) → Kind → ℕ → ℕ → Type 0
IsSlot old new Word word renamed = HaveOneText old new word renamed
IsSlot old new Whole word renamed = renamed ≡ word
IsSlot old new Decimal word renamed = renamed ≡ word

-- so is each word, one for each slot
abbrev pub AreRenamed : List (List ℕ) → List (List ℕ) → List Kind → List ℕ → List ℕ → Type 0
AreRenamed old new [] [] [] = Unit {0}
AreRenamed old new [] [] (r ∷ renamed) = ⊥
AreRenamed old new [] (w ∷ words) renamed = ⊥
AreRenamed old new (kind ∷ kinds) [] renamed = ⊥
AreRenamed old new (kind ∷ kinds) (w ∷ words) [] = ⊥
AreRenamed old new (kind ∷ kinds) (w ∷ words) (r ∷ renamed) = IsSlot old new kind w r × AreRenamed old new kinds words renamed

-- the second row is the first one with the numbers of the new texts: stamp, log type and words are the same
pub record IsRenamed (types words new_types new_words : List (List ℕ)) (row renamed : Row) : Type 0 where
  pub pattern : renamed.pattern ≡ row.pattern
  pub moment : renamed.moment ≡ row.moment
  pub text : List ℕ
  pub was : slice_get types row.log_type ≡ Some text
  pub is : slice_get new_types renamed.log_type ≡ Some text
  pub words_are : AreRenamed words new_words (kinds_from false text) row.words renamed.words

-- the text has this number
abbrev pub IsTextAt : List (List ℕ) → ℕ → List ℕ → Type 0
IsTextAt texts number text = slice_get texts number ≡ Some text

-- it has one of these numbers
abbrev pub IsTextAmong : List (List ℕ) → List ℕ → List ℕ → Type 0
IsTextAmong texts numbers text = (number : ℕ) × Contains numbers number × IsTextAt texts number text

-- it is a text that the row needs: that of its log type, or of one of its words
abbrev pub IsTextOfRow : List (List ℕ) → List (List ℕ) → Row → Which → List ℕ → Type 0
IsTextOfRow types words row Types text = IsTextAt types row.log_type text
IsTextOfRow types words row Words text = IsTextAmong words (numbers_of_row types row) text

-- the row that was renamed last
abbrev pub row_in : RenamedRow → Row
row_in r = record { pattern = r.pattern; moment = r.moment; log_type = r.log_type; words = r.words.items }

-- the dictionary numbers of the rows that were renamed since these were last forgotten
abbrev pub used_in : RenamedRow → List ℕ
used_in r = r.used.items
