-- What an opening by places has kept of the records so far.
use Rattle.std.specs.Prelude.{◌≡◌, ◌<◌, ◌≤◌, ℕ, ◌+◌, List, [], ◌∷◌, ◌++◌, length, map, false, get_or, set}
use Rattle.record_format.specs.declared.header.Header.{Header}
use Rattle.record_format.specs.declared.kinds.TheConstants.{TYPES_KIND, WORDS_KIND}
use Rattle.row_codec.specs.declared.namer.Which.{Which}
use Rattle.row_codec.specs.declared.namer.Which.TheVariants as which
use Rattle.disk_journal.specs.declared.walk.RecordPlace.{RecordPlace}
use Rattle.archive_meaning.specs.declared.TheConstants.{MAX_MESSAGES}
use Rattle.archive_meaning.specs.declared.entry.JournalEntry.{JournalEntry}
use Rattle.archive_meaning.specs.Held.{Held, nothing_held}
use Rattle.archive_meaning.specs.Legal.{Run}
use Rattle.archive_open.specs.declared.files.FileEntry.{FileEntry}
use Rattle.archive_open.specs.Shown.{files_of, places_of}
use Rattle.archive_open.specs.StepsFiles.{no_file}
use Rattle.archive_open.specs.StepsNext.{new_file}
use Rattle.word_places.specs.declared.place.WordsPlace.{WordsPlace}
use Rattle.archive_places.specs.declared.front.SegmentFront.{SegmentFront}
use Rattle.archive_places.specs.declared.opening.Opening.{Opening}
use Rattle.archive_places.specs.declared.opening.TextPlaces.{TextPlaces}
use Rattle.archive_places.specs.Fronts.{front_of_place}
use Rattle.archive_places.specs.Words.{types_places_of, words_places_of}

-- where records of texts stand, how many texts they have, and how many there may be
pub record Listing : Type 0 where
  pub places : List WordsPlace
  pub count : ℕ
  pub limit : ℕ

pub record Placing : Type 0 where
  pub types : Listing
  pub words : Listing
  pub files : List FileEntry
  pub segments : List SegmentFront

abbrev pub listing_of : TextPlaces → Listing
listing_of t = record { places = t.places.items; count = t.count; limit = t.limit }

abbrev pub placing_of : Opening → Placing
placing_of o = record {
  types = listing_of o.types;
  words = listing_of o.words;
  files = o.files.items;
  segments = o.segments.items;
}

abbrev pub no_listing : ℕ → Listing
no_listing limit = record { places = []; count = 0; limit = limit }

abbrev pub listing : Which → Placing → Listing
listing which.Types p = p.types
listing which.Words p = p.words

abbrev pub kind_of : Which → ℕ
kind_of which.Types = TYPES_KIND
kind_of which.Words = WORDS_KIND

-- the places are these, of so many texts as these are, with this limit
pub record IsListing (l : Listing) (places : List WordsPlace) (texts : List (List ℕ)) (limit : ℕ) : Type 0 where
  pub stand : l.places ≡ places
  pub many : l.count ≡ length texts
  pub most : l.limit ≡ limit

-- that of entries which hold this
pub record IsPlaced (p : Placing) (h : Header) (es : List JournalEntry) (held : Held) : Type 0 where
  pub types : IsListing p.types (types_places_of es) held.types h.types_limit
  pub words : IsListing p.words (words_places_of es) held.words h.words_limit
  pub files : p.files ≡ files_of held
  pub segments : p.segments ≡ map front_of_place (places_of es)

abbrev pub PlacesOf : Placing → Header → List JournalEntry → Type 0
PlacesOf p h es = (held : Held) → Run h nothing_held es held → IsPlaced p h es held

-- the numbers of each record go on where those of the one before end, from a number up to another
abbrev pub RunOn : ℕ → List WordsPlace → ℕ → Type 0
RunOn from [] to = from ≡ to
RunOn from (p ∷ places) to = (p.first ≡ from) × RunOn (from + p.count) places to

abbrev pub IsInRun : Listing → Type 0
IsInRun l = RunOn 0 l.places l.count

abbrev pub AreInRun : Placing → Type 0
AreInRun p = IsInRun p.types × IsInRun p.words

-- so many more are too many
abbrev pub IsOver : Listing → ℕ → Type 0
IsOver l count = l.limit < l.count + count

-- ---- a record more

abbrev pub with_names : List (List ℕ) → Placing → Placing
with_names names p = record p { files = p.files ++ map new_file names }

-- the place of so many texts, from a number on
abbrev pub place_by : RecordPlace → ℕ → ℕ → WordsPlace
place_by r first count = record { payload = r.payload; length = r.length; first = first; count = count }

abbrev pub with_place : WordsPlace → Listing → Listing
with_place place l = record l { places = l.places ++ place ∷ []; count = l.count + place.count }

abbrev pub with_texts : Which → WordsPlace → Placing → Placing
with_texts which.Types place p = record p { types = with_place place p.types }
with_texts which.Words place p = record p { words = with_place place p.words }

-- the segment's first message is the next, the file has no last segment, and its messages do not become too many
pub record GoesOnBy (file : FileEntry) (front : SegmentFront) : Type 0 where
  pub whole : file.whole ≡ false
  pub first : front.first ≡ file.messages
  pub most : front.first + front.rows ≤ MAX_MESSAGES

abbrev pub file_by : FileEntry → SegmentFront → FileEntry
file_by file front = record file { messages = file.messages + front.rows; whole = front.last; ended = front.ended }

abbrev pub with_segment : SegmentFront → Placing → Placing
with_segment front p = record p {
  files = set p.files front.file (file_by (get_or p.files front.file no_file) front);
  segments = p.segments ++ front ∷ [];
}
