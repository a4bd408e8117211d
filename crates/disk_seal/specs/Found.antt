-- What is found at the gates of a store's journal, and what a look there leaves of the store.
use Rattle.std.specs.Prelude.{◌≡◌, ◌≢◌, ℕ, ◌+◌, ◌<◌, ◌^◌, List, [], ◌∷◌, ◌++◌, length, None, false}
use mathlib.Core.List.{IsPrefix}
use Rattle.log_seams.specs.Disk.{DiskState, Rests}
use Rattle.record_format.specs.declared.header.Header.{Header}
use Rattle.disk_journal.specs.declared.record.TheConstants.{FRONT_LEN}
use Rattle.archive_meaning.specs.declared.entry.JournalEntry.{JournalEntry}
use Rattle.archive_meaning.specs.Spelled.{front_of, record_of, types_of}
use Rattle.archive_meaning.specs.Stands.{IsLegal}
use Rattle.disk_seal.specs.declared.entry.StoreEntry.TheVariants.{Stopped}
use Rattle.disk_seal.specs.declared.faults.DiskFault.{DiskFault}
use Rattle.disk_seal.specs.declared.found.Found.{Found}
use Rattle.disk_seal.specs.Told.{IfTold}
use Rattle.disk_seal.specs.View.{StoreView, StoreState, state_by, tells, journal_of, store_entries}
use Rattle.disk_seal.specs.Sealing.{HasFault}

-- the journal begins with these entries, and the gate behind them stands at this place
pub record IsGateBehind (h : Header) (journal es : List JournalEntry) (at : ℕ) : Type 0 where
  pub front : IsPrefix es journal
  pub place : at ≡ length (front_of h es)

abbrev pub IsSomeGate : Header → List JournalEntry → ℕ → Type 0
IsSomeGate h journal at = (es : List JournalEntry) × IsGateBehind h journal es at

-- behind these entries the journal goes on with the one whose record was found, and its next gate stands behind that record
pub record IsRecordBehind (h : Header) (journal es : List JournalEntry) (f : Found) : Type 0 where
  pub entry : JournalEntry
  pub front : IsPrefix (es ++ entry ∷ []) journal
  pub legal : IsLegal h (es ++ entry ∷ [])
  pub saved : record_of (types_of es) entry ≡ record { kind = f.place.kind; payload = f.payload }
  pub next : f.place.payload + f.place.length ≡ length (front_of h (es ++ entry ∷ []))

-- the same, whichever entries the gate at this place is behind
abbrev pub IsNextIn : Header → List JournalEntry → ℕ → Found → Type 0
IsNextIn h journal at f = (es : List JournalEntry) → IsGateBehind h journal es at → IsRecordBehind h journal es f

-- the gate at this place is behind all of the journal
abbrev pub IsEndIn : Header → List JournalEntry → ℕ → Type 0
IsEndIn h journal at = (es : List JournalEntry) → IsGateBehind h journal es at → es ≡ journal

-- a record behind the gate at this place, with all of its payload
pub record IsWholeAt (at : ℕ) (f : Found) : Type 0 where
  pub here : f.place.at ≡ at
  pub payload : f.place.payload ≡ at + FRONT_LEN
  pub fits : f.place.payload + f.place.length < 2 ^ 64
  pub size : length f.payload ≡ f.place.length

-- of a store: where entries are told, the place is that of a gate
abbrev pub IsGateOf : ℕ → StoreState → Type 0
IsGateOf at s = IfTold (tells s) (IsSomeGate s.header (journal_of s) at)

pub record FindsNext (at : ℕ) (f : Found) (s : StoreState) : Type 0 where
  pub whole : IsWholeAt at f
  pub next : IfTold (tells s) (IsNextIn s.header (journal_of s) at f)

abbrev pub IsLastOf : ℕ → StoreState → Type 0
IsLastOf at s = IfTold (tells s) (IsEndIn s.header (journal_of s) at)

-- no whole record was found there, over a disk that does not tell its bytes
pub record IsUntold (place at : ℕ) (s : StoreState) : Type 0 where
  pub here : place ≡ at
  pub untold : tells s ≡ false

module _ {D : Type 0} where
  -- its journal stands where it stood, and of its disk it only read
  pub record HasLooked (state : D → DiskState) (v w : StoreView D) : Type 0 where
    pub rests : Rests (state v.disk) (state w.disk)
    pub place : w.place ≡ v.place
    pub count : w.count ≡ v.count
    pub closed : w.closed ≡ v.closed
    pub types_saved : w.types_saved ≡ v.types_saved
    pub words_saved : w.words_saved ≡ v.words_saved

  -- it ran and runs, with the same list
  pub record RunsOn (state : D → DiskState) (v w : StoreView D) : Type 0 where
    pub ran : v.stopped ≡ None
    pub runs : w.stopped ≡ None
    pub entries : store_entries (state_by state w) ≡ store_entries (state_by state v)

  -- a fault has stopped it now, or before, and then it is as it was
  pub record HasFailed (state : D → DiskState) (f : DiskFault) (v w : StoreView D) : Type 0 where
    pub fault : HasFault f (state_by state w)
    pub rests : v.stopped ≢ None → w ≡ v
    pub halts : v.stopped ≡ None
        → store_entries (state_by state w) ≡ store_entries (state_by state v) ++ Stopped f.now ∷ []
