-- A walk along the records of a journal: what of a record is read and kept, and where the walk ends.
use Rattle.std.specs.Prelude.{◌≡◌, ◌≤◌, ℕ, ◌+◌, List, [], ◌∷◌, ◌++◌, length, take, drop}
use Rattle.std.specs.Prelude.{true, Option, Some, None, option_map, All}
use Rattle.log_seams.specs.Disk.{IsSynced}
use Rattle.record_format.specs.declared.header.Header.{Header}
use Rattle.record_format.specs.Header.{IsHeader}
use Rattle.segment_format.specs.Layout.{head_bytes}
use Rattle.disk_journal.specs.Place.{OpenAt}
use Rattle.disk_journal.specs.State.{IsAtEnd, JournalState}
use Rattle.disk_journal.specs.declared.walk.RecordPlace.{RecordPlace}
use Rattle.archive_meaning.specs.declared.entry.JournalEntry.{JournalEntry}
use Rattle.archive_meaning.specs.declared.entry.JournalEntry.TheVariants.{Files, Types, Words, Segment}
use Rattle.archive_meaning.specs.Spelled.{front_of, record_of, types_of}
use Rattle.archive_meaning.specs.Stands.{IsLegal, StandsFor}
use Rattle.archive_open.specs.Shown.{IsLastGate, head_in}

-- ---- a record

-- the record is whole
pub record StandsWhole (p : RecordPlace) (seen : Option (List ℕ)) : Type 0 where
  pub payload : p.payload ≡ p.at + 10
  pub found : OpenAt p.at p.kind p.length seen

abbrev pub payload_in : RecordPlace → List ℕ → List ℕ
payload_in p bytes = take p.length (drop p.payload bytes)

-- the record at this place is that of an entry which goes on with a legal journal
pub record IsNext (at kind : ℕ) (payload : List ℕ) (h : Header) (es : List JournalEntry) (e : JournalEntry) : Type 0 where
  pub header : IsHeader h
  pub legal : IsLegal h (es ++ e ∷ [])
  pub gate : at ≡ length (front_of h es)
  pub saved : record_of (types_of es) e ≡ record { kind = kind; payload = payload }

-- ---- what of it is read

-- each range that was read since is within these n bytes
pub record ReadsWithin (at n : ℕ) (old new : Option (List (ℕ × ℕ))) : Type 0 where
  pub more : List (ℕ × ℕ)
  pub added : new ≡ option_map (λ ranges. ranges ++ more) old
  pub within : All (λ r. (at ≤ r.0) × (r.0 + r.1 ≤ at + n)) more

-- of a segment its head, of other entries the payload
abbrev pub shown_len : List (List ℕ) → JournalEntry → ℕ
shown_len types (Files names) = length (record_of types (Files names)).payload
shown_len types (Types first texts) = length (record_of types (Types first texts)).payload
shown_len types (Words first texts) = length (record_of types (Words first texts)).payload
shown_len types (Segment s) = length (head_bytes (head_in types s))

abbrev pub ReadsOf : RecordPlace → Option (List ℕ) → Option (List (ℕ × ℕ)) → Option (List (ℕ × ℕ)) → Type 0
ReadsOf p None old new = Unit {0}
ReadsOf p (Some bytes) old new =
    (h : Header) (es : List JournalEntry) (e : JournalEntry) → IsNext p.at p.kind (payload_in p bytes) h es e
    → ReadsWithin p.payload (shown_len (types_of es) e) old new

-- ---- what is kept

-- what was kept of records, by the journals that it would be kept of
abbrev pub Keeping : Type 1
Keeping = Header → List JournalEntry → Type 0

-- whatever entry the record is of, it is kept
abbrev pub KeepsNext : ℕ → ℕ → List ℕ → Keeping → Keeping → Type 0
KeepsNext at kind payload old new =
    (h : Header) (es : List JournalEntry) (e : JournalEntry)
    → IsNext at kind payload h es e
    → old h es
    → new h (es ++ e ∷ [])

-- the record is of no entry that may follow
abbrev pub NoneNext : ℕ → ℕ → List ℕ → Keeping → Type 0
NoneNext at kind payload old =
    (h : Header) (es : List JournalEntry) (e : JournalEntry)
    → IsNext at kind payload h es e → old h es → ⊥

-- the same of a record whose payload stands on the disk, where its bytes are told
abbrev pub KeepsTold : RecordPlace → Option (List ℕ) → Keeping → Keeping → Type 0
KeepsTold p None old new = Unit {0}
KeepsTold p (Some bytes) old new = KeepsNext p.at p.kind (payload_in p bytes) old new

abbrev pub NoneTold : RecordPlace → Option (List ℕ) → Keeping → Type 0
NoneTold p None old = Unit {0}
NoneTold p (Some bytes) old = NoneNext p.at p.kind (payload_in p bytes) old

-- ---- the end

-- the walk has come to the closed gate of a journal that it has passed whole
pub record IsWhole (keeping : Keeping) (header : Header) (place count : ℕ) (h : Header) (es : List JournalEntry) : Type 0 where
  pub one : h ≡ header
  pub all : count ≡ length es
  pub gate : place ≡ length (front_of h es)
  pub kept : keeping h es

abbrev pub AreWhole : Keeping → Header → ℕ → ℕ → Option (List ℕ) → Type 0
AreWhole keeping header place count None = Unit {0}
AreWhole keeping header place count (Some bytes) =
    (h : Header) (es : List JournalEntry)
    → StandsFor bytes h es → IsWhole keeping header place count h es

-- where the bytes are told, this is their last gate
abbrev pub LastGateTold : ℕ → Option (List ℕ) → Type 0
LastGateTold at None = Unit {0}
LastGateTold at (Some bytes) = IsLastGate at bytes

pub record EndsWith (keeping : Keeping) (j : JournalState) : Type 0 where
  pub closed : j.closed ≡ true
  pub ends : IsSynced j.disk → IsAtEnd j
  pub last : LastGateTold j.place j.disk.seen
  pub whole : AreWhole keeping j.header j.place j.count j.disk.seen
