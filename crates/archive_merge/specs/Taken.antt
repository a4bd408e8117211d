-- What takes rows over, what is named for them, and a segment that was taken over.
use Rattle.std.specs.Prelude.{◌≡◌, ◌≤◌, ℕ, Bool, List, length, Option, Some}
use Rattle.column_store.specs.declared.row.Row.{Row}
use Rattle.row_codec.specs.Naming.{HasGrown, Known}
use Rattle.row_codec.specs.declared.namer.Which.{Which}
use Rattle.row_codec.specs.declared.namer.Which.TheVariants.{Types, Words}
use Rattle.row_rename.specs.Tables.{AreTables}
use Rattle.archive_meaning.specs.declared.TheConstants.{MAX_ROWS}
use Rattle.archive_core.specs.Rows.{AreMessages}
use Rattle.archive_open.specs.declared.segments.SegmentPlace.{SegmentPlace}
use Rattle.segment_pages.specs.Paged.{HoldsSegment}
use Rattle.archive_merge.specs.declared.hand.Hand.{Hand}
use Rattle.archive_merge.specs.declared.taker.Taker.{Taker}
use Rattle.archive_merge.specs.InHand.{MayTakeAll, TakesRows, Texts}

-- what is known of the two dictionaries of the first archive
pub record Books : Type 0 where
  pub types : Known
  pub words : Known

abbrev pub texts_in : Books → Texts
texts_in books = record { types = books.types.texts; words = books.words.texts }

-- those of what tells the texts of an archive, and of what names texts
abbrev pub texts_by : {M : Type 0} → (M → List (List ℕ)) → (M → List (List ℕ)) → M → Texts
texts_by types words names = record { types = types names; words = words names }

abbrev pub books_by : {N : Type 0} → (N → Known) → (N → Known) → N → Books
books_by types words namer = record { types = types namer; words = words namer }

-- It is for an archive of this version with these texts, and the numbers that it keeps are those of what is known.
pub record Serves (version : ℕ) (old : Texts) (books : Books) (taker : Taker) : Type 0 where
  pub version_is : taker.version ≡ version
  pub judge_is : taker.judge ≡ old.types
  pub tables_are : AreTables old.types old.words books.types.texts books.words.texts taker.tables

-- More is known: what was known keeps its numbers, and all that was added are such texts.
pub record KnowsMore (P : Which → List ℕ → Type 0) (before after : Books) : Type 0 where
  pub types : HasGrown (P Types) before.types after.types
  pub words : HasGrown (P Words) before.words after.words

-- more is known, and it keeps numbers of that
pub record HasNamed (P : Which → List ℕ → Type 0) (version : ℕ) (old : Texts) (before after : Books) (taker : Taker)
    : Type 0 where
  pub more : KnowsMore P before after
  pub serves : Serves version old after taker

-- Rows came behind those in hand. Where the bytes are told, they are all rows of the segment that stands at the place.
pub record TakesSegment (version : ℕ) (old before after : Texts) (place : SegmentPlace) (seen : Option (List ℕ))
    (hand hand_new : Hand) (open_before open_end : Bool) : Type 0 where
  pub rows : List Row
  pub takes : TakesRows version old before after rows hand hand_new open_before open_end
  pub told : (bytes : List ℕ) (all : List Row) → seen ≡ Some bytes
      → HoldsSegment place.payload place.length place.head bytes all → all ≡ rows

-- the bytes hold a segment at the place, whose rows are the encodings of messages and may be taken over
pub record MayTakeSegment (version : ℕ) (old : Texts) (place : SegmentPlace) (bytes : List ℕ) (hand : Hand) : Type 0 where
  pub rows : List Row
  pub messages : List (List ℕ)
  pub holds : HoldsSegment place.payload place.length place.head bytes rows
  pub few : length rows ≤ MAX_ROWS
  pub are : AreMessages version old.types old.words rows messages
  pub may : MayTakeAll old.types old.words rows hand
