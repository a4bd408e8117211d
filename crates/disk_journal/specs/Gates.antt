-- The gates of a journal at its end: one before each record, and the closed one. Over a disk that does not tell its bytes
-- each of these words says nothing.
use Rattle.std.specs.Prelude.{◌≡◌, ◌<◌, ◌≤◌, ℕ, ◌+◌, ◌^◌, List, ◌∷◌, ◌++◌, length, take, drop, Option, Some, None, IsNone}
use Rattle.record_format.specs.Header.{header_bytes}
use Rattle.record_format.specs.declared.header.TheConstants.{HEADER_LEN}
use Rattle.disk_journal.specs.Record.{spelled, records}
use Rattle.disk_journal.specs.Place.{ClosedAt, OpenAt}
use Rattle.disk_journal.specs.State.{JournalState}
use Rattle.disk_journal.specs.declared.record.TheConstants.{FRONT_LEN}
use Rattle.disk_journal.specs.declared.walk.RecordPlace.{RecordPlace}

-- the gate behind the first k records stands at this place
pub record HasGate (head : List ℕ) (count k at : ℕ) (bytes : List ℕ) : Type 0 where
  pub within : k ≤ count
  pub place : at ≡ length (head ++ spelled (take k (records count (drop HEADER_LEN bytes))))

abbrev pub GateIn : List ℕ → ℕ → ℕ → ℕ → Option (List ℕ) → Type 0
GateIn head count k at None = Unit {0}
GateIn head count k at (Some bytes) = HasGate head count k at bytes

-- the same of a journal
abbrev pub IsGate : ℕ → ℕ → JournalState → Type 0
IsGate k at j = GateIn (header_bytes j.header) j.count k at j.disk.seen

-- the record that stands there is the next behind the first k, and the gate behind it is the one behind the first k + 1
pub record IsRecord (head : List ℕ) (count k : ℕ) (p : RecordPlace) (bytes : List ℕ) : Type 0 where
  pub below : k < count
  pub these : drop k (records count (drop HEADER_LEN bytes))
      ≡ (record { kind = p.kind; payload = take p.length (drop p.payload bytes) })
      ∷ drop (k + 1) (records count (drop HEADER_LEN bytes))
  pub next : HasGate head count (k + 1) (p.payload + p.length) bytes

abbrev pub RecordIn : List ℕ → ℕ → ℕ → RecordPlace → Option (List ℕ) → Type 0
RecordIn head count at p None = Unit {0}
RecordIn head count at p (Some bytes) = (k : ℕ) → HasGate head count k at bytes → IsRecord head count k p bytes

-- a record stands whole behind the gate at this place, and is the journal's record there
pub record HasFound (at : ℕ) (p : RecordPlace) (j : JournalState) : Type 0 where
  pub here : p.at ≡ at
  pub payload : p.payload ≡ p.at + FRONT_LEN
  pub fits : p.payload + p.length < 2 ^ 64
  pub found : OpenAt at p.kind p.length j.disk.seen
  pub record_is : RecordIn (header_bytes j.header) j.count at p j.disk.seen

abbrev pub AllBefore : List ℕ → ℕ → ℕ → Option (List ℕ) → Type 0
AllBefore head count at None = Unit {0}
AllBefore head count at (Some bytes) = (k : ℕ) → HasGate head count k at bytes → k ≡ count

-- the gate at this place is closed, and all of the journal's records stand before it
pub record IsLast (at : ℕ) (j : JournalState) : Type 0 where
  pub gate : ClosedAt at j.disk.seen
  pub all : AllBefore (header_bytes j.header) j.count at j.disk.seen

-- no gate with a whole record was found at this place, over a disk that does not tell its bytes
pub record HasNoGate (place at : ℕ) (j : JournalState) : Type 0 where
  pub here : place ≡ at
  pub untold : IsNone j.disk.seen
