-- What the places of records of words mean.
use Rattle.std.specs.Prelude.{◌≡◌, ◌<◌, ◌≤◌, ◌^◌, ℕ, ◌+◌, List, [], ◌∷◌, ◌++◌, length, take, drop, Option, Some, None, IfSome}
use Rattle.record_format.specs.Lists.{AreTexts, texts_payload}
use Rattle.word_places.specs.declared.place.WordsPlace.{WordsPlace}

-- The bytes of a payload spell these texts, as many as the place says, under its number of the first. A payload that is
-- shorter may spell texts too, so its length is told.
pub record Spells (p : WordsPlace) (payload : List ℕ) (texts : List (List ℕ)) : Type 0 where
  pub size : length payload ≡ p.length
  pub are : AreTexts texts
  pub first : p.first < 2 ^ 32
  pub count : length texts ≡ p.count
  pub spelled : payload ≡ texts_payload p.first texts

-- the payload, where these are the bytes of the disk
abbrev pub payload_in : WordsPlace → List ℕ → List ℕ
payload_in p bytes = take p.length (drop p.payload bytes)

-- the words of the records at these places, one record behind the other, where the first word has this number
abbrev pub AreWords : ℕ → List WordsPlace → List ℕ → List (List ℕ) → Type 0
AreWords from [] bytes words = words ≡ []
AreWords from (p ∷ places) bytes words =
    (texts : List (List ℕ)) × (others : List (List ℕ)) × (p.first ≡ from) × Spells p (payload_in p bytes) texts
    × AreWords (from + p.count) places bytes others × (words ≡ texts ++ others)

-- P holds of the words at these places, whatever they are, where the disk tells its bytes
abbrev pub OfWords : Option (List ℕ) → List WordsPlace → (List (List ℕ) → Type 0) → Type 0
OfWords None places P = Unit {0}
OfWords (Some bytes) places P = (words : List (List ℕ)) → AreWords 0 places bytes words → P words

-- there are words that stand at these places, where the disk tells its bytes, and P holds of them
abbrev pub SomeWords : Option (List ℕ) → List WordsPlace → (List (List ℕ) → Type 0) → Type 0
SomeWords told places P = (words : List (List ℕ)) × IfSome told (λ bytes. AreWords 0 places bytes words) × P words

-- P holds of the texts of one record, whatever they are
abbrev pub OfTexts : Option (List ℕ) → WordsPlace → (List (List ℕ) → Type 0) → Type 0
OfTexts None p P = Unit {0}
OfTexts (Some bytes) p P = (texts : List (List ℕ)) → Spells p (payload_in p bytes) texts → P texts

-- there are texts of one record, and P holds of them
abbrev pub SomeTexts : Option (List ℕ) → WordsPlace → (List (List ℕ) → Type 0) → Type 0
SomeTexts told p P =
    (texts : List (List ℕ)) × IfSome told (λ bytes. Spells p (payload_in p bytes) texts) × P texts

-- The numbers of each record go on where those of the one before end, from a number on, and none has more than 32 bits.
abbrev pub AreInOrder : ℕ → List WordsPlace → Type 0
AreInOrder from [] = from ≤ 2 ^ 32
AreInOrder from (p ∷ places) = (p.first ≡ from) × AreInOrder (from + p.count) places
