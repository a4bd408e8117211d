-- Which bytes stand for a legal journal, and where bytes that stand for none are damaged first.
use Rattle.std.specs.Prelude.{◌≡◌, ◌≢◌, ◌⊎◌, ℕ, ◌≤◌, List, [], ◌∷◌, ◌++◌, length, take}
use Rattle.record_format.specs.declared.header.Header.{Header}
use Rattle.record_format.specs.Header.{IsHeader, header_bytes}
use Rattle.disk_journal.specs.Record.{Stands, body}
use Rattle.archive_meaning.specs.declared.entry.JournalEntry.{JournalEntry}
use Rattle.archive_meaning.specs.Held.{Held, nothing_held}
use Rattle.archive_meaning.specs.Legal.{Run, AreNamed}
use Rattle.archive_meaning.specs.Spelled.{record_of, records_of, types_of, front_of, end_of}

-- the entries make a legal archive with this header: they run from nothing, names and lengths are within the limits
pub record IsLegal (h : Header) (es : List JournalEntry) : Type 0 where
  pub held : Held
  pub run : Run h nothing_held es held
  pub named : AreNamed 0 es
  pub short : end_of h es ≤ h.length_limit

-- the bytes are an archive: header, entries, a closed gate, and then anything
pub record StandsFor (bytes : List ℕ) (h : Header) (es : List JournalEntry) : Type 0 where
  pub header : IsHeader h
  pub legal : IsLegal h es
  pub stands : Stands (header_bytes h) (records_of es) bytes

-- the bytes begin as an archive with these entries does, up to the gate behind them
pub record Begins (bytes : List ℕ) (h : Header) (es : List JournalEntry) : Type 0 where
  pub header : IsHeader h
  pub legal : IsLegal h es
  pub rest : List ℕ
  pub spells : bytes ≡ front_of h es ++ rest

-- Behind these entries the gate is missing, or it is open and no record follows it that goes on with a legal journal.
abbrev pub IsBadBehind : Header → List JournalEntry → List ℕ → Type 0
IsBadBehind h es [] = Unit {0}
IsBadBehind h es (gate ∷ rest) =
    (gate ≡ 1)
    × ((e : JournalEntry) (more : List ℕ) → IsLegal h (es ++ e ∷ []) → rest ≢ body (record_of (types_of es) e) ++ more)

-- the first 32 bytes are a header
pub record HasHeader (bytes : List ℕ) : Type 0 where
  pub h : Header
  pub header : IsHeader h
  pub spells : take 32 bytes ≡ header_bytes h

-- The damage that comes first: the missing header, told as 0, or the first gate that is missing or bad.
pub record IsDamagedAt (bytes : List ℕ) (at : ℕ) : Type 0 where
  pub h : Header
  pub es : List JournalEntry
  pub begins : Begins bytes h es
  pub gate : at ≡ length (front_of h es)
  pub bad : IsBadBehind h es begins.rest

abbrev pub IsFirstDamage : List ℕ → ℕ → Type 0
IsFirstDamage bytes at = ((at ≡ 0) × ¬ HasHeader bytes) ⊎ IsDamagedAt bytes at
