-- Which ranges of a disk are read for words.
use Rattle.std.specs.Prelude.{◌≡◌, ◌⊎◌, ◌≤◌, ℕ, ◌+◌, List, ◌++◌, option_map, All, Contains}
use Rattle.log_seams.specs.Disk.{DiskState, ReadsOnly}
use Rattle.word_places.specs.declared.place.WordsPlace.{WordsPlace}

-- one range at most was read, which lies in the payload of one of the records
abbrev pub ReadsOneOf : List WordsPlace → DiskState → DiskState → Type 0
ReadsOneOf places old new =
    (new.ranges ≡ old.ranges) ⊎ ((p : WordsPlace) × Contains places p × ReadsOnly p.payload p.length old new)

-- a range lies in the payload of one of the records
pub record IsOfWords (places : List WordsPlace) (at n : ℕ) : Type 0 where
  pub place : WordsPlace
  pub one : Contains places place
  pub low : place.payload ≤ at
  pub high : at + n ≤ place.payload + place.length

-- each range that was read since does
pub record ReadsWords (places : List WordsPlace) (old new : DiskState) : Type 0 where
  pub more : List (ℕ × ℕ)
  pub added : new.ranges ≡ option_map (λ ranges. ranges ++ more) old.ranges
  pub within : All (λ r. IsOfWords places r.0 r.1) more
