-- What a walk holds of an archive before it goes over the segments.
use Rattle.std.specs.Prelude.{◌≡◌, ◌⊎◌, ℕ, List, ◌++◌, Option, map}
use Rattle.log_seams.specs.Disk.{DiskState}
use Rattle.archive_places.specs.declared.places.Places.{Places}
use Rattle.word_places.specs.Held.{kept_of, unread}
use Rattle.word_places.specs.Kept.{AreKeptOf}
use Rattle.word_places.specs.Places.{OfWords, SomeWords}
use Rattle.word_places.specs.Reads.{ReadsWords}
use Rattle.search_meaning.specs.Scan.{Asked}
use Rattle.search_walk.specs.Held.{named}
use Rattle.search_walk.specs.StepsScope.{IsScope}
use Rattle.search_walk.specs.declared.prepared.Prepared.{Prepared}

-- only records of log types and of words were read
abbrev pub ReadsTexts : Places → DiskState → DiskState → Type 0
ReadsTexts a old new = ReadsWords (a.types ++ a.words) old new

-- a disk that tells its bytes has no log types or no words at their places
abbrev pub LacksTexts : Option (List ℕ) → Places → Type 0
LacksTexts told a = OfWords told a.types (λ _. ⊥) ⊎ OfWords told a.words (λ _. ⊥)

-- The files and the segments are those of an archive, and so are the records of log types, and those of words, none of which is
-- held. The log types stand there, and are held but for those that were left out.
pub record KeepsPlaces (told : Option (List ℕ)) (a : Places) (p : Prepared) : Type 0 where
  pub types : SomeWords told a.types (λ texts. AreKeptOf texts (kept_of p.held))
  pub type_places : p.held.type_places ≡ a.types
  pub version : p.held.version ≡ a.header.version
  pub records : p.held.records ≡ map unread a.words
  pub files : p.archive.files ≡ a.files
  pub segments : p.archive.segments ≡ a.segments

-- what is asked can be looked for over these words and log types, on a disk that tells this
abbrev pub IsReadyFor : Option (List ℕ) → Asked → Prepared → Type 0
IsReadyFor told q p = IsScope (named told p.held) q p.archive.layouts p.archive.asked p.archive.found.items
