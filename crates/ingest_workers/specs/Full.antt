-- When a dictionary is full by what is given.
use Rattle.std.specs.Prelude.{◌≡◌, ℕ, List, length, Option}
use mathlib.Core.List.{IsPrefix}
use Rattle.dict_lock.specs.Shared.{BookPass}
use Rattle.row_codec.specs.declared.namer.Which.{Which}
use Rattle.row_codec.specs.declared.namer.Which.TheVariants.{Types, Words}
use Rattle.row_codec.specs.Naming.{Known}
use Rattle.plain_list.specs.Texts.{IsNew}
use Rattle.disk_seal.specs.Known.{known_of}
use Rattle.ingest_meaning.specs.Given.{IsNextOf}
use Rattle.ingest_meaning.specs.Dictionaries.{IsTextOf}

-- ---- to a worker

-- what is known of the two books
pub record Books : Type 0 where
  pub types : Known
  pub words : Known

abbrev pub book_of : Books → Which → Known
book_of books Types = books.types
book_of books Words = books.words

-- by two passes over them
abbrev pub books_by : BookPass → BookPass → Books
books_by types words = record { types = known_of types; words = known_of words }

-- Such a text was met, which was not among the texts of the book, and these were as many as it may have.
pub record WasFull (P : List ℕ → Type 0) (count : ℕ) (known : Known) : Type 0 where
  pub limit : count ≡ known.limit
  pub front : List (List ℕ)
  pub begins : IsPrefix front known.texts
  pub all : count ≡ length front
  pub text : List ℕ
  pub is : P text
  pub new : IsNew front text

-- so it was of one of the two books, in naming the texts of such a message
abbrev pub WasFullFor : ℕ → (List ℕ → Type 0) → Books → Which → ℕ → Type 0
WasFullFor version P books book count = WasFull (IsTextOf version P book) count (book_of books book)

-- so it was at the message of these bytes that is the next one behind these
abbrev pub WasFullBehind : ℕ → Books → Option (List ℕ) → List (List ℕ) → Which → ℕ → Type 0
WasFullBehind version books bytes sealed = WasFullFor version (IsNextOf version bytes sealed) books

-- more is known of a book, of which there may be as many texts
pub record IsMore (old new : Known) : Type 0 where
  pub front : IsPrefix old.texts new.texts
  pub limit : new.limit ≡ old.limit
