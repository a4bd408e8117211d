-- A look at the gate behind the entries that were handled.
use Rattle.std.specs.Prelude.{◌≡◌, ◌+◌, ◌<◌, ◌^◌, ℕ, List, length}
use Rattle.log_seams.specs.Disk.{DiskState}
use Rattle.record_format.specs.declared.header.Header.{Header}
use Rattle.archive_meaning.specs.declared.entry.JournalEntry.{JournalEntry}
use Rattle.turn_lock.specs.Words.{seen}
use Rattle.disk_seal.specs.declared.found.Found.{Found}
use Rattle.disk_seal.specs.Fixed.{KeeperPass}
use Rattle.disk_seal.specs.Found.{IsGateBehind}
use Rattle.disk_seal.specs.Looked.{HasNext, WhereTold, journal_length}

-- the journal's first entries, so many, stand before the gate at this place
abbrev pub IsGateOfCount : ℕ → ℕ → Header → List JournalEntry → Type 0
IsGateOfCount at count h journal = (es : List JournalEntry) × IsGateBehind h journal es at × (length es ≡ count)

module _ {D : Type 0} where
  -- nothing is told
  abbrev pub NothingTold : (D → DiskState) → KeeperPass D → Type 0
  NothingTold state q = WhereTold state q (λ _ _. ⊥)

  -- the record behind that gate was found, and the pass has seen more entries than so many, whose count fits
  pub record FindsMore (state : D → DiskState) (at count : ℕ) (f : Found) (q : KeeperPass D) : Type 0 where
    pub next : HasNext state at f q
    pub more : count < journal_length (seen q)
    pub small : count + 1 < 2 ^ 64
