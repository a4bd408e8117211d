-- What the check of an archive counts, and where its bytes are damaged.
use Rattle.std.specs.Prelude.{◌≡◌, ℕ, List, length}
use Rattle.std.specs.List.{sum_by}
use Rattle.record_format.specs.declared.header.Header.{Header}
use Rattle.archive_meaning.specs.declared.entry.JournalEntry.{JournalEntry}
use Rattle.archive_meaning.specs.Held.{File, content_of}
use Rattle.archive_meaning.specs.Stands.{IsFirstDamage, StandsFor}
use Rattle.check_meaning.specs.declared.summary.Summary.{Summary}

-- The bytes stand for a journal of so many entries, with so many files and messages.
pub record Stood (summary : Summary) (bytes : List ℕ) : Type 0 where
  pub h : Header
  pub es : List JournalEntry
  pub stands : StandsFor bytes h es
  pub entries : summary.entries ≡ length es
  pub files : summary.files ≡ length (content_of stands.legal.held)
  pub messages : summary.messages ≡ sum_by (λ (f : File). length f.messages) (content_of stands.legal.held)

-- the bytes are damaged first at this place
abbrev pub DamagedAt : ℕ → List ℕ → Type 0
DamagedAt at bytes = IsFirstDamage bytes at
