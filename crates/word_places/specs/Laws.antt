-- What follows of words that are held, of the numbers that a pass finds, and of words that stand at places.
use Rattle.std.specs.Prelude.{◌≡◌, ℕ, ◌+◌, List, All, Contains, Some, slice_get}
use Rattle.word_places.specs.declared.held.HeldRecord.{HeldRecord}
use Rattle.word_places.specs.declared.needle.Fit.{Fit}
use Rattle.word_places.specs.declared.place.WordsPlace.{WordsPlace}
use Rattle.word_places.specs.Places.{AreWords}
use Rattle.word_places.specs.Held.{AreNumbered, Grow, IsHeld, IsRight, lends, places_of}
use Rattle.word_places.specs.Holders.{HasNeedle, Holders}

-- a number that is held has the word of the bytes, where each record that was read is theirs
abbrev pub HeldAgree : Type 0
HeldAgree =
    (bytes : List ℕ) (records : List HeldRecord) (words : List (List ℕ)) (number : ℕ)
    → AreNumbered 0 records → All (IsRight bytes) records → AreWords 0 (places_of records) bytes words → IsHeld records number
    → slice_get words number ≡ slice_get (lends records) number

-- a number that is held stays held, with its word
abbrev pub HeldStay : Type 0
HeldStay =
    (old new : List HeldRecord) (number : ℕ) → AreNumbered 0 old → AreNumbered 0 new → Grow old new → IsHeld old number
    → IsHeld new number × (slice_get (lends new) number ≡ slice_get (lends old) number)

-- the number of each text that has the needle was found
abbrev pub HoldersHave : Type 0
HoldersHave =
    (fit : Fit) (needle text : List ℕ) (first at : ℕ) (texts : List (List ℕ)) (numbers : List ℕ)
    → Holders fit needle first texts numbers → slice_get texts at ≡ Some text → HasNeedle fit needle text
    → Contains numbers (first + at)

-- words that stand at the same places of the same bytes are the same
abbrev pub WordsAreOne : Type 0
WordsAreOne =
    (from : ℕ) (places : List WordsPlace) (bytes : List ℕ) (a b : List (List ℕ))
    → AreWords from places bytes a → AreWords from places bytes b → a ≡ b
