-- What an archive that is opened by places shows of its journal.
use Rattle.std.specs.Prelude.{◌≡◌, ◌-◌, ℕ, List, length, map, Option, Some, None}
use Rattle.std.specs.List.Sorted.{IsPermutation, IsNonDecreasingBy}
use Rattle.record_format.specs.declared.header.Header.{Header}
use Rattle.archive_meaning.specs.declared.entry.JournalEntry.{JournalEntry}
use Rattle.archive_meaning.specs.Held.{Held}
use Rattle.archive_meaning.specs.Spelled.{end_of}
use Rattle.archive_meaning.specs.Stands.{StandsFor}
use Rattle.archive_open.specs.declared.segments.SegmentPlace.{SegmentPlace}
use Rattle.archive_open.specs.Shown.{IsLastGate, files_of, order_of, places_of}
use Rattle.word_places.specs.Places.{AreInOrder}
use Rattle.archive_places.specs.declared.places.Places.{Places}
use Rattle.archive_places.specs.Fronts.{front_of_place}
use Rattle.archive_places.specs.Words.{types_places_of, words_places_of}

-- The places are those of a journal with this header and these entries, which hold this. The segments are sorted by file and
-- first message.
pub record ArePlacesOf (a : Places) (h : Header) (es : List JournalEntry) (held : Held) : Type 0 where
  pub header : a.header ≡ h
  pub types : a.types ≡ types_places_of es
  pub types_count : a.types_count ≡ length held.types
  pub words : a.words ≡ words_places_of es
  pub files : a.files ≡ files_of held
  pub ordered : List SegmentPlace
  pub are : IsPermutation (places_of es) ordered
  pub sorted : IsNonDecreasingBy order_of ordered
  pub segments : a.segments ≡ map front_of_place ordered
  pub entries : a.entries ≡ length es
  pub end : a.end ≡ end_of h es

-- the numbers of each record go on where those of the one before end, and none has more than 32 bits
abbrev pub ArePlacesOrdered : Places → Type 0
ArePlacesOrdered a = AreInOrder 0 a.types × AreInOrder 0 a.words

-- where the bytes are told and stand for a journal, the places are that journal's
abbrev pub OpensPlaces : Option (List ℕ) → Places → Type 0
OpensPlaces None a = Unit {0}
OpensPlaces (Some bytes) a =
    (h : Header) (es : List JournalEntry) (stood : StandsFor bytes h es) → ArePlacesOf a h es stood.legal.held

-- where the bytes are told, the last byte of the archive is a gate that the first damage is not behind
abbrev pub EndsAtGate : Option (List ℕ) → Places → Type 0
EndsAtGate None a = Unit {0}
EndsAtGate (Some bytes) a = IsLastGate (a.end - 1) bytes
