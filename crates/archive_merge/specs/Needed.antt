-- Which texts of the second archive are needed: those that rows taken over have.
use Rattle.std.specs.Prelude.{◌≡◌, ℕ, List, Option, Some}
use Rattle.std.specs.List.{Contains}
use Rattle.column_store.specs.declared.row.Row.{Row}
use Rattle.row_codec.specs.declared.namer.Which.{Which}
use Rattle.row_rename.specs.Renamed.{IsTextOfRow}
use Rattle.segment_pages.specs.Paged.{HoldsSegment}
use Rattle.archive_open.specs.declared.segments.SegmentPlace.{SegmentPlace}
use Rattle.archive_merge.specs.InHand.{Texts}

-- one of these rows needs the text
abbrev pub IsTextOfRows : Texts → List Row → Which → List ℕ → Type 0
IsTextOfRows old rows book text = (row : Row) × Contains rows row × IsTextOfRow old.types old.words row book text

-- a row of the segment at the place needs it: where the bytes are told, one of all that stand there
pub record IsTextThere (old : Texts) (told : Option (List ℕ)) (place : SegmentPlace) (book : Which) (text : List ℕ)
    : Type 0 where
  pub row : Row
  pub there : (bytes : List ℕ) (all : List Row) → told ≡ Some bytes
      → HoldsSegment place.payload place.length place.head bytes all → Contains all row
  pub needs : IsTextOfRow old.types old.words row book text

-- a row of a segment at one of such places does
abbrev pub IsNeeded : Texts → Option (List ℕ) → (SegmentPlace → Type 0) → Which → List ℕ → Type 0
IsNeeded old told among book text = (place : SegmentPlace) × among place × IsTextThere old told place book text
