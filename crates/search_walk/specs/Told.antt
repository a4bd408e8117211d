-- What the words of an archive tell a search before its segments are read.
use Rattle.std.specs.Prelude.{◌≡◌, ◌<◌, ℕ, List, [], ◌++◌, length, map, Option, None, slice_index_or}
use Rattle.word_places.specs.declared.needle.Needle.{Needle}
use Rattle.word_places.specs.declared.needle.Fit.TheVariants.{Within, Whole}
use Rattle.word_places.specs.Holders.{FoundEach, Holders}
use Rattle.subquery_filter.specs.Found.{IsNumber}

abbrev pub within_needle : List ℕ → Needle
within_needle text = record { fit = Within; finder = text }

abbrev pub whole_needle : List ℕ → Needle
whole_needle text = record { fit = Whole; finder = text }

-- the needles of one pass: texts that are looked for in words, and then whole words
abbrev pub needles_for : List (List ℕ) → List (List ℕ) → List Needle
needles_for within whole = map within_needle within ++ map whole_needle whole

-- the lists have the numbers of the words that have these needles
abbrev pub AreFound : List (List ℕ) → List (List ℕ) → List (List ℕ) → List (List ℕ) → Type 0
AreFound within whole words lists = FoundEach (needles_for within whole) words lists

-- the numbers are those that lists of holders of whole words tell
pub record AreReadOff (lists : List (List ℕ)) (found : List (Option ℕ)) : Type 0 where
  pub long : length found ≡ length lists
  pub each :
      (k : ℕ) (needle : List ℕ) (words : List (List ℕ)) → k < length lists
      → Holders Whole needle 0 words (slice_index_or lists k [])
      → IsNumber words needle (slice_index_or found k None)
