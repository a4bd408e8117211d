-- Why a row was not renamed.
use Rattle.std.specs.Prelude.{◌≡◌, ℕ, false, List, [], ◌∷◌, length, Some, slice_get}
use Rattle.std.specs.List.{Contains}
use Rattle.plain_list.specs.Texts.{IsNew}
use Rattle.logtype_text.specs.Fair.{IsFairType, IsFairWord}
use Rattle.logtype_text.specs.declared.symbols.Kind.{Kind}
use Rattle.logtype_text.specs.declared.symbols.Kind.TheVariants.{Whole, Word, Decimal}
use Rattle.column_store.specs.declared.row.Row.{Row}
use Rattle.row_codec.specs.declared.namer.NameRefusal.{NameRefusal}
use Rattle.row_codec.specs.declared.namer.NameRefusal.TheVariants.{Full, OutOfMemory}
use Rattle.row_codec.specs.declared.namer.Which.{Which}
use Rattle.row_codec.specs.declared.namer.Which.TheVariants.{Types, Words}
use Rattle.row_codec.specs.Naming.{Known}
use Rattle.row_codec.specs.Numbers.{kinds_from}
use Rattle.row_rename.specs.declared.refusal.RenameRefusal.{RenameRefusal}
use Rattle.row_rename.specs.declared.refusal.RenameRefusal.TheVariants.{Full as RenameFull, OutOfMemory as RenameOutOfMemory}

-- a number of these texts whose text a dictionary may hold
pub record HasFairText (IsFair : List ℕ → Type 0) (texts : List (List ℕ)) (number : ℕ) : Type 0 where
  pub text : List ℕ
  pub at : slice_get texts number ≡ Some text
  pub fair : IsFair text

-- a word for each slot; those of slots for words are numbers of fair texts
abbrev pub MayRenameWords : List (List ℕ) → List Kind → List ℕ → Type 0
MayRenameWords texts [] [] = Unit {0}
MayRenameWords texts [] (word ∷ words) = ⊥
MayRenameWords texts (kind ∷ kinds) [] = ⊥
MayRenameWords texts (Word ∷ kinds) (word ∷ words) = HasFairText IsFairWord texts word × MayRenameWords texts kinds words
MayRenameWords texts (Whole ∷ kinds) (word ∷ words) = MayRenameWords texts kinds words
MayRenameWords texts (Decimal ∷ kinds) (word ∷ words) = MayRenameWords texts kinds words

-- the numbers of the row have fair texts, and it has a word for each slot of its log type
pub record MayRename (types words : List (List ℕ)) (row : Row) : Type 0 where
  pub log_type : HasFairText IsFairType types row.log_type
  pub words_may : MayRenameWords words (kinds_from false log_type.text) row.words

-- As many texts are known as there may be, and one of these has no number.
pub record IsFullOf (texts : List (List ℕ)) (known : Known) (count : ℕ) : Type 0 where
  pub text : List ℕ
  pub is : Contains texts text
  pub new : IsNew known.texts text
  pub all : count ≡ length known.texts
  pub most : count ≡ known.limit

-- that holds of the log types or of the words
abbrev pub IsFull : Which → List (List ℕ) → List (List ℕ) → Known → Known → ℕ → Type 0
IsFull Types types words known_types known_words count = IsFullOf types known_types count
IsFull Words types words known_types known_words count = IsFullOf words known_words count

-- what is answered where a text got no number
abbrev pub refused_by : NameRefusal → RenameRefusal
refused_by (Full book count) = RenameFull book count
refused_by OutOfMemory = RenameOutOfMemory
