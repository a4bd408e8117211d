-- What a check has found of the bytes of a disk.
use Rattle.std.specs.Prelude.{◌≡◌, ℕ, List, length}
use Rattle.std.specs.Prelude.{Option, None, Some}
use Rattle.record_format.specs.declared.header.Header.{Header}
use Rattle.archive_meaning.specs.declared.entry.JournalEntry.{JournalEntry}
use Rattle.archive_meaning.specs.Spelled.{front_of}
use Rattle.archive_meaning.specs.Stands.{Begins}
use Rattle.archive_meaning.specs.Sums.{AreSums, Sums}

-- The bytes begin with so many entries of a legal journal, up to this place, and these are their sums.
pub record HasChecked (head : Header) (place count : ℕ) (sums : Sums) (bytes : List ℕ) : Type 0 where
  pub es : List JournalEntry
  pub begins : Begins bytes head es
  pub at : place ≡ length (front_of head es)
  pub counted : count ≡ length es
  pub sums_are : AreSums sums es
  pub same : sums.header ≡ head

-- over a disk that does not tell its bytes this says nothing
abbrev pub Checked : Header → ℕ → ℕ → Sums → Option (List ℕ) → Type 0
Checked head place count sums None = Unit {0}
Checked head place count sums (Some bytes) = HasChecked head place count sums bytes
