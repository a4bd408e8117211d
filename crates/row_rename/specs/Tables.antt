-- Which new numbers are known of old ones.
use Rattle.std.specs.Prelude.{◌≡◌, ◌≢◌, ℕ, false, List, Option, Some, slice_get}
use Rattle.row_codec.specs.declared.namer.Which.{Which}
use Rattle.row_codec.specs.declared.namer.Which.TheVariants.{Types, Words}
use Rattle.row_codec.specs.Naming.{HasGrown, Known}
use Rattle.row_codec.specs.Numbers.{kinds_from}
use Rattle.row_rename.specs.Renamed.{HaveOneText}
use Rattle.row_rename.specs.declared.log_types.LogType.{LogType}
use Rattle.row_rename.specs.declared.table.TheConstants.{NOT_NAMED}
use Rattle.row_rename.specs.declared.tables.Tables.{Tables}

-- each new number in the table is that of the text which has the number of its place
abbrev pub IsTable : List (List ℕ) → List (List ℕ) → List ℕ → Type 0
IsTable old new numbers =
    (number renamed : ℕ) → slice_get numbers number ≡ Some renamed → renamed ≢ NOT_NAMED → HaveOneText old new number renamed

-- the log type with this number: its new number, and the kinds of its slots
pub record IsLogType (old new : List (List ℕ)) (number : ℕ) (log_type : LogType) : Type 0 where
  pub text : List ℕ
  pub was : slice_get old number ≡ Some text
  pub is : slice_get new log_type.number ≡ Some text
  pub kinds : log_type.kinds.items ≡ kinds_from false text

-- each log type in the list is that of its place
abbrev pub AreLogTypes : List (List ℕ) → List (List ℕ) → List (Option LogType) → Type 0
AreLogTypes old new named =
    (number : ℕ) (log_type : LogType) → slice_get named number ≡ Some (Some log_type) → IsLogType old new number log_type

-- what is known of the log types and of the words holds of these old texts and these new ones
pub record AreTables (types words new_types new_words : List (List ℕ)) (tables : Tables) : Type 0 where
  pub log_types : AreLogTypes types new_types tables.log_types.named.items
  pub words_are : IsTable words new_words tables.words.numbers.items

-- of the new texts more are known, and what the namer added of them are such texts
pub record HasNamedSome (P : List ℕ → Type 0) (old : List (List ℕ)) (known more : Known) (numbers : List ℕ) : Type 0 where
  pub grown : HasGrown P known more
  pub kept : IsTable old more.texts numbers

-- so it is with the log types and the words, and the tables hold of them
pub record HasNamedBoth (P : Which → List ℕ → Type 0) (types words : List (List ℕ))
    (types_before types_after words_before words_after : Known) (tables : Tables) : Type 0 where
  pub types_grown : HasGrown (P Types) types_before types_after
  pub words_grown : HasGrown (P Words) words_before words_after
  pub kept : AreTables types words types_after.texts words_after.texts tables
