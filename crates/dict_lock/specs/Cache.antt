-- What a cache holds: texts, each with the number that it was given.
use Rattle.std.specs.Prelude.{◌≡◌, ◌⊎◌, ℕ, ◌+◌, ◌<◌, List, [], ◌∷◌, ◌++◌, length, Some, slice_get}
use Rattle.plain_list.specs.Texts.{IsNew}

pub record CacheState : Type 0 where
  pub texts : List (List ℕ)
  pub numbers : List ℕ

-- each text has a number
abbrev pub IsEven : CacheState → Type 0
IsEven cache = length cache.numbers ≡ length cache.texts

-- the cache holds the text with this number
pub record Remembers (cache : CacheState) (text : List ℕ) (number : ℕ) : Type 0 where
  pub place : ℕ
  pub text_is : slice_get cache.texts place ≡ Some text
  pub number_is : slice_get cache.numbers place ≡ Some number

-- the cache holds each of these texts
abbrev pub HoldsAll : CacheState → List (List ℕ) → Type 0
HoldsAll cache texts =
    (k : ℕ) (text : List ℕ) → slice_get texts k ≡ Some text → (number : ℕ) × Remembers cache text number

-- the cache holds the first of these texts, so many of them
abbrev pub HoldsFront : CacheState → List (List ℕ) → ℕ → Type 0
HoldsFront cache texts count = (k : ℕ) (text : List ℕ) → k < count → slice_get texts k ≡ Some text
    → (number : ℕ) × Remembers cache text number

-- what was held is held with the same number
abbrev pub Keeps : CacheState → CacheState → Type 0
Keeps old new = (text : List ℕ) (number : ℕ) → Remembers old text number → Remembers new text number

-- nothing changes, or the text is held last, which was not held
abbrev pub GrowsBy : CacheState → CacheState → List ℕ → Type 0
GrowsBy old new text = (new ≡ old)
    ⊎ (IsNew old.texts text × (new.texts ≡ old.texts ++ text ∷ []) × (length new.numbers ≡ length old.numbers + 1))

-- each text that is held was seen at its number
abbrev pub IsSeen : CacheState → List (List ℕ) → Type 0
IsSeen cache seen = (text : List ℕ) (number : ℕ) → Remembers cache text number → slice_get seen number ≡ Some text

-- that stays so, where this text too was seen at its number
abbrev pub StaysSeen : CacheState → CacheState → List ℕ → ℕ → Type 0
StaysSeen old new text number =
    (seen : List (List ℕ)) → IsSeen old seen → slice_get seen number ≡ Some text → IsSeen new seen
