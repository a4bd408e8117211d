-- Which text the bytes of a disk have of a file of an archive.
use Rattle.std.specs.Prelude.{◌≡◌, ◌&&◌, ℕ, List, [], ◌∷◌, ◌++◌, Bool, false, not, Option, None, Some, slice_get}
use Rattle.std.specs.List.{AllZip, filter}
use Rattle.column_store.specs.declared.row.Row.{Row}
use Rattle.record_format.specs.declared.header.Header.{Header}
use Rattle.row_codec.specs.Means.{IsSpelling}
use Rattle.segment_pages.specs.Paged.{HoldsSegment}
use Rattle.archive_meaning.specs.declared.entry.JournalEntry.{JournalEntry}
use Rattle.archive_meaning.specs.Held.{File, content_of, file_text, text_from}
use Rattle.archive_meaning.specs.Stands.{StandsFor}
use Rattle.archive_open.specs.Shown.{Shown}
use Rattle.archive_open.specs.declared.files.FileEntry.{FileEntry}
use Rattle.archive_open.specs.declared.segments.SegmentPlace.{SegmentPlace}
use Rattle.archive_open.specs.OfFile.{is_of}

-- what a file is written from: the texts that its rows name, the places of its segments in order, and whether its last line
-- had no newline
pub record FileParts : Type 0 where
  pub types : List (List ℕ)
  pub words : List (List ℕ)
  pub places : List SegmentPlace
  pub open_end : Bool

abbrev pub file_parts : List (List ℕ) → List (List ℕ) → List SegmentPlace → Bool → FileParts
file_parts types words places open_end = record { types = types; words = words; places = places; open_end = open_end }

-- the segments of the file of a number, in order
abbrev pub segments_of : ℕ → Shown → List SegmentPlace
segments_of number a = filter (is_of number) a.segments

-- whether the last line of the file had no newline: a part has one behind each message
abbrev pub ends_open : Option FileEntry → Bool
ends_open None = false
ends_open (Some file) = file.whole && not file.ended

-- the file of a number in an archive
abbrev pub parts_of : Shown → ℕ → FileParts
parts_of a number = file_parts a.kept.types a.kept.words (segments_of number a) (ends_open (slice_get a.files number))

-- the rows are written as the messages, in order
abbrev pub AreWritten : List (List ℕ) → List (List ℕ) → List Row → List (List ℕ) → Type 0
AreWritten types words rows messages = AllZip (λ row message. IsSpelling row types words message) rows messages

-- the bytes hold a segment at a place, whose rows are written as the messages
pub record HoldsWritten (types words : List (List ℕ)) (place : SegmentPlace) (bytes : List ℕ)
    (messages : List (List ℕ)) : Type 0 where
  pub rows : List Row
  pub holds : HoldsSegment place.payload place.length place.head bytes rows
  pub written : AreWritten types words rows messages

-- they hold segments one after the other
abbrev pub HoldAllWritten : List (List ℕ) → List (List ℕ) → List SegmentPlace → List ℕ → List (List ℕ) → Type 0
HoldAllWritten types words [] bytes messages = messages ≡ []
HoldAllWritten types words (place ∷ places) bytes messages =
    (first : List (List ℕ)) × (rest : List (List ℕ)) × (messages ≡ first ++ rest)
    × HoldsWritten types words place bytes first × HoldAllWritten types words places bytes rest

-- The bytes hold the file's segments, whose rows are written as the messages of which this is the text.
pub record IsText (f : FileParts) (bytes text : List ℕ) : Type 0 where
  pub messages : List (List ℕ)
  pub hold : HoldAllWritten f.types f.words f.places bytes messages
  pub is : text ≡ text_from f.open_end messages

-- Where the bytes are told, this is what they have of the file: its text, or nothing where they hold no such segments.
abbrev pub Tells : FileParts → Option (List ℕ) → Option (List ℕ) → Type 0
Tells f seen (Some text) = (bytes : List ℕ) × (seen ≡ Some bytes) × IsText f bytes text
Tells f seen None = (bytes text : List ℕ) → seen ≡ Some bytes → ¬ IsText f bytes text

-- What is told of it, as a value: there is one, so a ghost field may hold it.
abbrev pub HasText : FileParts → Option (List ℕ) → Type 0
HasText f seen = (told : Option (List ℕ)) × ∥ Tells f seen told ∥₁

-- Where the bytes are told and stand for a journal, these are the bytes of the file of a number in it; where they are not
-- told, nothing is.
abbrev pub TellsFile : ℕ → Option (List ℕ) → Option (List ℕ) → Type 0
TellsFile number None left = left ≡ None
TellsFile number (Some bytes) left =
    (h : Header) (es : List JournalEntry) (stood : StandsFor bytes h es) (file : File)
    → slice_get (content_of stood.legal.held) number ≡ Some file → left ≡ Some (file_text file)

-- What a source over a disk is named by: the borrow of the disk, its bytes where they are told, and its count of faults.
abbrev pub disk_name : ℕ → Option (List ℕ) → ℕ → List ℕ
disk_name name None faults = name ∷ faults ∷ []
disk_name name (Some bytes) faults = name ∷ faults ∷ 0 ∷ bytes
