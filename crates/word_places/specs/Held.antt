-- Words of which some records are held in memory.
use Rattle.std.specs.Prelude.{◌≡◌, ◌<◌, ◌≤◌, ◌^◌, ℕ, ◌+◌, Bool, List, [], ◌∷◌, ◌++◌, length, map, replicate, Option, Some, None, IfSome, All, Contains, slice_get}
use Rattle.std.specs.List.{AllZip}
use Rattle.word_places.specs.declared.place.WordsPlace.{WordsPlace}
use Rattle.word_places.specs.declared.held.HeldRecord.{HeldRecord}
use Rattle.word_places.specs.Places.{Spells, payload_in}
use Rattle.word_places.specs.Kept.{KeptTypes}

-- names whose log types are these, some of which may have been left out, and whose words are those of records
pub record HeldNames : Type 0 where
  pub types : List (List ℕ)
  pub left_out : Bool
  pub type_places : List WordsPlace
  pub version : ℕ
  pub records : List HeldRecord

-- the log types of the names, as they were kept
abbrev pub kept_of : HeldNames → KeptTypes
kept_of names = record { texts = names.types; left_out = names.left_out; places = names.type_places }

-- all but the records stays
pub record KeepsTypes (old new : HeldNames) : Type 0 where
  pub types : new.types ≡ old.types
  pub left_out : new.left_out ≡ old.left_out
  pub type_places : new.type_places ≡ old.type_places
  pub version : new.version ≡ old.version

-- a record that was not read
abbrev pub unread : WordsPlace → HeldRecord
unread place = record { place = place; words = None }

abbrev pub place_of : HeldRecord → WordsPlace
place_of r = r.place

abbrev pub places_of : List HeldRecord → List WordsPlace
places_of records = map place_of records

-- so many empty texts where a record was not read
abbrev pub words_or : ℕ → Option (List (List ℕ)) → List (List ℕ)
words_or count None = replicate count []
words_or count (Some words) = words

-- the words of a record that was read, and as many empty texts of one that was not
abbrev pub lent : HeldRecord → List (List ℕ)
lent r = words_or r.place.count r.words

-- those of all records, which stand for the words of the archive
abbrev pub lends : List HeldRecord → List (List ℕ)
lends [] = []
lends (r ∷ records) = lent r ++ lends records

-- each record has as many words as it should, under numbers that go on from a number
abbrev pub AreNumbered : ℕ → List HeldRecord → Type 0
AreNumbered from [] = from ≤ 2 ^ 32
AreNumbered from (r ∷ records) =
    (r.place.first ≡ from) × (length (lent r) ≡ r.place.count) × AreNumbered (from + r.place.count) records

-- the record has the number
pub record HasNumber (r : HeldRecord) (number : ℕ) : Type 0 where
  pub low : r.place.first ≤ number
  pub high : number < r.place.first + r.place.count

-- the record that has the number was read
pub record IsHeld (records : List HeldRecord) (number : ℕ) : Type 0 where
  pub at : ℕ
  pub place : WordsPlace
  pub words : List (List ℕ)
  pub stands : slice_get records at ≡ Some (record { place = place; words = Some words })
  pub has : HasNumber (record { place = place; words = Some words }) number

-- each of the numbers that is some word's is held
abbrev pub AreHeld : List HeldRecord → List ℕ → Type 0
AreHeld records numbers = (n : ℕ) → Contains numbers n → n < length (lends records) → IsHeld records n

-- the same record, and what was read stays
pub record Grows (old new : HeldRecord) : Type 0 where
  pub place : new.place ≡ old.place
  pub words : (words : List (List ℕ)) → old.words ≡ Some words → new.words ≡ Some words

-- the same records, and what was read stays
abbrev pub Grow : List HeldRecord → List HeldRecord → Type 0
Grow old new = AllZip Grows old new

-- a record that was read is that of the bytes
abbrev pub IsRight : List ℕ → HeldRecord → Type 0
IsRight bytes r = (words : List (List ℕ)) → r.words ≡ Some words → Spells r.place (payload_in r.place bytes) words

-- each record that was read is that of the disk's bytes, where they are told
abbrev pub RightTold : Option (List ℕ) → List HeldRecord → Type 0
RightTold told records = IfSome told (λ bytes. All (IsRight bytes) records)
