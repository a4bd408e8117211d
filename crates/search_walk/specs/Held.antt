-- The messages of segments, as the bytes of a disk hold them.
use Rattle.std.specs.Prelude.{◌≡◌, ◌≤◌, ◌+◌, ℕ, List, [], ◌∷◌, ◌++◌, length, drop, Option, Some, None, slice_get}
use Rattle.std.specs.List.{flat_map}
use Rattle.column_store.specs.declared.row.Row.{Row}
use Rattle.row_codec.specs.Means.{AreCanonical}
use Rattle.plain_list.specs.Texts.{AreDistinct}
use Rattle.segment_format.specs.Layout.{head_of}
use Rattle.segment_pages.specs.Paged.{HoldsLeft, HoldsSegment, Paged}
use Rattle.archive_meaning.specs.Back.{list_in}
use Rattle.archive_meaning.specs.declared.TheConstants.{MAX_MESSAGES}
use Rattle.subquery_filter.specs.Laws.{words_of}
use Rattle.archive_open.specs.declared.files.FileEntry.{FileEntry}
use Rattle.archive_open.specs.declared.segments.SegmentPlace.{SegmentPlace}
use Rattle.archive_places.specs.Heads.{HasHeadAt}
use Rattle.word_places.specs.declared.place.WordsPlace.{WordsPlace}
use Rattle.word_places.specs.Held.{HeldNames, kept_of, places_of}
use Rattle.word_places.specs.Kept.{KeptTypes}
use Rattle.word_places.specs.Places.{AreWords, payload_in}
use Rattle.printed_lines.specs.Lines.{Placed, numbered}

-- ---- names whose words stand on a disk

-- what the numbers of rows stand for, the archive's version, the bytes of the disk where they are told, where the words stand in
-- them, and the log types that are held, of which some may be empty texts in place of what stands there
pub record Named : Type 0 where
  pub version : ℕ
  pub types : List (List ℕ)
  pub words : List (List ℕ)
  pub told : Option (List ℕ)
  pub places : List WordsPlace
  pub kept : KeptTypes

-- the words at places of bytes, whatever these are, and none of a disk that tells no bytes
abbrev pub words_told : Option (List ℕ) → List WordsPlace → List (List ℕ)
words_told None places = []
words_told (Some bytes) places = flat_map (λ p. list_in (drop 4 (payload_in p bytes))) places

-- the names that are lent in part, of a disk that tells this
abbrev pub named : Option (List ℕ) → HeldNames → Named
named told held = record {
  version = held.version;
  types = words_told told held.type_places;
  words = words_told told (places_of held.records);
  told = told;
  places = places_of held.records;
  kept = kept_of held;
}

abbrev pub StandIn : Option (List ℕ) → List WordsPlace → List (List ℕ) → Type 0
StandIn None places words = ⊥
StandIn (Some bytes) places words = AreWords 0 places bytes words

-- the disk tells its bytes, and the words stand in them
abbrev pub IsTold : Named → Type 0
IsTold n = StandIn n.told n.places n.words

-- ---- messages

-- the rows are the encodings of these messages
pub record AreRowsOf (n : Named) (rows : List Row) (messages : List (List ℕ)) : Type 0 where
  pub told : IsTold n
  pub are : AreCanonical n.version rows n.types n.words messages

-- P holds of the messages that the bytes hold from a page on, where the bytes are told and hold messages
abbrev pub OfLeft : Option (List ℕ) → Paged → Named → (List (List ℕ) → Type 0) → Type 0
OfLeft None p n P = Unit {0}
OfLeft (Some bytes) p n P = (rows : List Row) (messages : List (List ℕ)) → HoldsLeft p bytes rows → AreRowsOf n rows messages
    → P messages

-- a segment's head and rows stand in the bytes, they are the encodings of these messages, and the head is that of the rows
pub record HasMessages (bytes : List ℕ) (n : Named) (p : SegmentPlace) (messages : List (List ℕ)) : Type 0 where
  pub rows : List Row
  pub holds : HoldsSegment p.payload p.length p.head bytes rows
  pub are : AreRowsOf n rows messages
  pub stands : HasHeadAt bytes p
  pub head : p.head ≡ head_of p.head.file p.head.first p.head.last p.head.ended rows (words_of n.types rows)
  pub most : p.head.first + length rows ≤ MAX_MESSAGES

-- the messages of segments one after the other, with the names of their files and their numbers
abbrev pub HaveMessages : List ℕ → Named → List FileEntry → List SegmentPlace → List Placed → Type 0
HaveMessages bytes n files [] all = all ≡ []
HaveMessages bytes n files (p ∷ ps) all =
    (file : FileEntry) × (messages : List (List ℕ)) × (others : List Placed) × (slice_get files p.head.file ≡ Some file)
    × HasMessages bytes n p messages
    × HaveMessages bytes n files ps others × (all ≡ numbered file.name (p.head.first + 1) messages ++ others)

-- P holds of the bytes and of all messages of segments, where the bytes are told and hold them, and no word has two numbers
abbrev pub OfSegments : Option (List ℕ) → Named → List FileEntry → List SegmentPlace → (List ℕ → List Placed → Type 0) → Type 0
OfSegments None n files ps P = Unit {0}
OfSegments (Some bytes) n files ps P = (all : List Placed) → AreDistinct n.words → HaveMessages bytes n files ps all → P bytes all
