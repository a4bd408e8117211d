-- Steps on the way to words that are held.
use Rattle.std.specs.Prelude.{◌≡◌, ◌⊎◌, ◌<◌, ◌≤◌, ℕ, Bool, false, true, List, [], ◌∷◌, length, set, is_some, Option, Some, None, slice_get, slice_index_or}
use Rattle.logtype_text.specs.declared.symbols.Kind.{Kind}
use Rattle.row_codec.specs.Numbers.{kinds_from}
use Rattle.word_places.specs.declared.gaps.Gap.{Gap}
use Rattle.word_places.specs.declared.held.HeldRecord.{HeldRecord}
use Rattle.word_places.specs.Held.{IsHeld, lends}

-- the record at a place begins with a number that is not above this
abbrev pub StartsBy : List HeldRecord → ℕ → ℕ → Type 0
StartsBy records at number = (r : HeldRecord) → slice_get records at ≡ Some r → r.place.first ≤ number

-- with one that is above it, if there is a record at this place
abbrev pub StartsPast : List HeldRecord → ℕ → ℕ → Type 0
StartsPast records at number = (r : HeldRecord) → slice_get records at ≡ Some r → number < r.place.first

-- this tells whether the record at a place was read
abbrev pub TellsRead : List HeldRecord → ℕ → Bool → Type 0
TellsRead records at read = (r : HeldRecord) → slice_get records at ≡ Some r → read ≡ is_some r.words

-- so many records at the front were read
abbrev pub AreReadTo : ℕ → List HeldRecord → Type 0
AreReadTo count records = (at : ℕ) (r : HeldRecord) → at < count → slice_get records at ≡ Some r → is_some r.words ≡ true

-- a number is held, if it is some word's
abbrev pub HasHeld : List HeldRecord → ℕ → Type 0
HasHeld records number = number < length (lends records) → IsHeld records number

-- a number is none of a gap
abbrev pub IsBeside : Gap → ℕ → Type 0
IsBeside gap number = (number < gap.first) ⊎ (gap.end ≤ number)

-- the record at a place got these words
abbrev pub Puts : List HeldRecord → ℕ → List (List ℕ) → List HeldRecord → Type 0
Puts old at words new =
    (r : HeldRecord) → slice_get old at ≡ Some r → new ≡ set old at (record { place = r.place; words = Some words })

-- these have the slots of the first log types
abbrev pub HaveSlots : List (List ℕ) → List (List ℕ) → Type 0
HaveSlots types slots =
    (number : ℕ) → number < length slots → kinds_from false (slice_index_or slots number []) ≡ kinds_from false (slice_index_or types number [])

-- the kinds, behind this one if there is one
abbrev pub with_kind : Option Kind → List Kind → List Kind
with_kind None kinds = kinds
with_kind (Some kind) kinds = kind ∷ kinds
