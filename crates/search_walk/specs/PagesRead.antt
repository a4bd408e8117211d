-- What is read of a disk for a page: columns of its segment, and words that its rows name.
use Rattle.std.specs.Prelude.{◌⊎◌, ◌≤◌, ◌+◌, ℕ}
use Rattle.log_seams.specs.Disk.{DiskState}
pub use Rattle.log_seams.specs.Disk.{ReadsSuch}
use Rattle.segment_pages.specs.Paged.{Paged, columns_size}
use Rattle.word_places.specs.Reads.{IsOfWords}
use Rattle.search_walk.specs.Held.{Named}

-- a range lies in the columns of the segment, or in a record of words
abbrev pub IsOfPage : Named → Paged → ℕ × ℕ → Type 0
IsOfPage n p r = ((p.at + p.pages.start ≤ r.0) × (r.0 + r.1 ≤ p.at + p.pages.start + columns_size p.pages)) ⊎ IsOfWords
    n.places r.0 r.1

abbrev pub ReadsPage : Named → Paged → DiskState → DiskState → Type 0
ReadsPage n p old new = ReadsSuch (IsOfPage n p) old new
