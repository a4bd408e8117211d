-- The texts of dictionaries, and when a dictionary is full by what is given.
use Rattle.std.specs.Prelude.{ℕ, List, drop, length, All, ◌≡◌}
use Rattle.row_codec.specs.declared.namer.Which.{Which}
use Rattle.row_codec.specs.declared.namer.Which.TheVariants.{Types, Words, Types as WhichTypes, Words as WhichWords}
use Rattle.record_format.specs.declared.header.Header.{Header}
use Rattle.archive_meaning.specs.declared.entry.JournalEntry.{JournalEntry}
use Rattle.archive_meaning.specs.Spelled.{types_of}
use Rattle.ingest_meaning.specs.WordsIn.{words_of}
use mathlib.Core.List.{IsPrefix}
use Rattle.plain_list.specs.Texts.{AreDistinct, IsNew}
use Rattle.row_codec.specs.Messages.{IsTypeOf, IsWordOf}

-- how many texts each of the two books may have
pub record Limits : Type 0 where
  pub types : ℕ
  pub words : ℕ

abbrev pub limit_of : Limits → Which → ℕ
limit_of limits Types = limits.types
limit_of limits Words = limits.words

-- the most texts of a book, by a header
abbrev pub header_limits : Header → Limits
header_limits h = record { types = h.types_limit; words = h.words_limit }

-- the texts of a book that entries add
abbrev pub book_texts : Which → List JournalEntry → List (List ℕ)
book_texts WhichTypes es = types_of es
book_texts WhichWords es = words_of es

-- The texts of a book, where a journal had these: theirs are the first ones, all are distinct, and each of the others is such a
-- text.
pub record HasTextsBehind (P : List ℕ → Type 0) (first texts : List (List ℕ)) : Type 0 where
  pub begins : IsPrefix first texts
  pub distinct : AreDistinct texts
  pub others : All P (drop (length first) texts)

-- a text of the encoding of such a message, which goes to this dictionary
abbrev pub IsTextOf : ℕ → (List ℕ → Type 0) → Which → List ℕ → Type 0
IsTextOf version P Types text = (m : List ℕ) × P m × IsTypeOf version m text
IsTextOf version P Words text = (m : List ℕ) × P m × IsWordOf version m text

-- There are so many such texts, and one more is met, which is of the next message.
pub record IsFullBy (P next : List ℕ → Type 0) (count : ℕ) : Type 0 where
  pub texts : List (List ℕ)
  pub all : length texts ≡ count
  pub distinct : AreDistinct texts
  pub each : All P texts
  pub text : List ℕ
  pub is : next text
  pub new : IsNew texts text
