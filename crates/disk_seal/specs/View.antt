-- A store, and what it keeps.
use Rattle.std.specs.Prelude.{◌≡◌, ℕ, ◌≤◌, Bool, List, [], ◌++◌, length, take, drop, All, Option, Some, None, is_some, IsTrue}
use mathlib.Core.List.{IsPrefix}
use Rattle.logtype_text.specs.Fair.{IsFairType, IsFairWord}
use Rattle.log_seams.specs.Disk.{DiskState, LeavesOnly}
use Rattle.log_seams.specs.Outside.{Rose}
use Rattle.turn_lock.specs.declared.board.About.{About}
use Rattle.turn_lock.specs.Words.{seen, own_list, about, number_of, IsReady}
use Rattle.dict_core.specs.declared.grows.TheConstants.{WORDS_FIRST}
use Rattle.dict_lock.specs.Shared.{BookPass}
use Rattle.record_format.specs.declared.header.Header.{Header}
use Rattle.record_format.specs.Header.{IsHeader, header_bytes}
use Rattle.disk_journal.specs.Record.{Stands}
use Rattle.disk_journal.specs.Place.{entries, AtEnd}
use Rattle.disk_journal.specs.State.{JournalState}
use Rattle.archive_meaning.specs.declared.entry.JournalEntry.{JournalEntry}
use Rattle.archive_meaning.specs.Spelled.{records_of, types_of}
use Rattle.archive_meaning.specs.Stands.{IsLegal}
use Rattle.disk_seal.specs.declared.entry.StoreEntry.{StoreEntry}
use Rattle.disk_seal.specs.Told.{IfTold, journal_in, recorded, mark}
use Rattle.ingest_meaning.specs.WordsIn.{words_of}

-- The disk and the name of its borrow; the disk at the opening, and its count of faults then; the header; where the journal's
-- next gate stands, how many records it has, whether that gate is closed; how many records there were at the opening; the passes
-- of the two books, and how many of their texts are saved; and the count of faults at the fault that stopped the store
pub record StoreView (D : Type 0) : Type 0 where
  pub disk : D
  pub name : ℕ
  pub opened : D
  pub faults : ℕ
  pub header : Header
  pub place : ℕ
  pub count : ℕ
  pub closed : Bool
  pub first : ℕ
  pub types : BookPass
  pub words : BookPass
  pub types_saved : ℕ
  pub words_saved : ℕ
  pub stopped : Option ℕ

-- the same with what the disk tells in place of the disk
pub record StoreState : Type 1 where
  pub disk : DiskState
  pub name : ℕ
  pub opened : DiskState
  pub faults : ℕ
  pub header : Header
  pub place : ℕ
  pub count : ℕ
  pub closed : Bool
  pub first : ℕ
  pub types : BookPass
  pub words : BookPass
  pub types_saved : ℕ
  pub words_saved : ℕ
  pub stopped : Option ℕ

abbrev pub state_by : {D : Type 0} → (D → DiskState) → StoreView D → StoreState
state_by state v = record {
  disk = state v.disk;
  name = v.name;
  opened = state v.opened;
  faults = v.faults;
  header = v.header;
  place = v.place;
  count = v.count;
  closed = v.closed;
  first = v.first;
  types = v.types;
  words = v.words;
  types_saved = v.types_saved;
  words_saved = v.words_saved;
  stopped = v.stopped;
}

-- the journal of a store
abbrev pub journal_state : StoreState → JournalState
journal_state s = record { name = s.name; disk = s.disk; header = s.header; place = s.place; count = s.count; closed = s.closed }

-- its disk tells its bytes
abbrev pub tells : StoreState → Bool
tells s = is_some s.opened.seen

-- its entries so far, where they are told
abbrev pub journal_of : StoreState → List JournalEntry
journal_of s = journal_in s.disk.seen s.count

-- and those at the opening
abbrev pub journal_before : StoreState → List JournalEntry
journal_before s = journal_in s.opened.seen s.first

-- the list of a store under its lock
abbrev pub store_entries : StoreState → List StoreEntry
store_entries s = recorded s.disk.seen s.count ++ mark s.stopped

-- the bytes stand for so many of the entries, at least this many
pub record HasFirst (head : List ℕ) (least : ℕ) (es : List JournalEntry) (bytes : List ℕ) : Type 0 where
  pub k : ℕ
  pub enough : least ≤ k
  pub within : k ≤ length es
  pub stands : Stands head (take k (records_of es)) bytes

-- an image of the disk stands for at least so many of the entries
abbrev pub Image : StoreState → ℕ → List JournalEntry → List ℕ → Type 0
Image s least es bytes = IfTold (tells s) (HasFirst (header_bytes s.header) least es bytes)

-- What a store keeps of a pass over a book: it is between two turns, its lock is one that was made with this first number and
-- limit, it is the lock's first pass, it has seen the lock's opening and at least the saved texts, which are those of the
-- journal, all that it has seen past them is fair, and it has added nothing.
pub record KnowsBook (IsFair : List ℕ → Type 0) (first limit : ℕ) (told : Bool) (p : BookPass) (saved : ℕ) (texts : List (List ℕ))
    : Type 0 where
  pub ready : IsReady p
  pub known : About ℕ
  pub is : about p ≡ Some known
  pub starts : known.first ≡ first
  pub number : number_of p ≡ first
  pub within : IfTold told (known.fixed ≡ limit)
  pub from : known.start ≤ length (seen p)
  pub low : saved ≤ length (seen p)
  pub own : own_list p ≡ []
  pub fair : All IsFair (drop saved (seen p))
  pub front : IfTold told (take saved (seen p) ≡ texts)

abbrev pub KnowsTypes : Bool → Header → BookPass → ℕ → List JournalEntry → Type 0
KnowsTypes told h p saved es = KnowsBook IsFairType 0 h.types_limit told p saved (types_of es)

abbrev pub KnowsWords : Bool → Header → BookPass → ℕ → List JournalEntry → Type 0
KnowsWords told h p saved es = KnowsBook IsFairWord WORDS_FIRST h.words_limit told p saved (words_of es)

-- What a store keeps, stopped or not. `under` is the entry that was under way at a fault, if one was: each image of the disk
-- stands for the journal, or for the journal with it.
pub record Kept (s : StoreState) : Type 0 where
  -- the journal
  pub header : IsHeader s.header
  pub closed : IsTrue s.closed
  pub tells_still : is_some s.disk.seen ≡ tells s
  pub spelled : entries s.disk.seen s.count ≡ records_of (journal_of s)
  pub front : IsPrefix (journal_before s) (journal_of s)
  pub counts : s.first ≤ s.count
  pub under : List JournalEntry
  pub one : length under ≤ 1
  pub legal : IfTold (tells s) (IsLegal s.header (journal_of s ++ under))
  -- its images now, and since the opening
  pub now : (c : List ℕ) → s.disk.images c → Image s s.count (journal_of s ++ under) c
  pub past : LeavesOnly s.opened s.disk (Image s s.first (journal_of s ++ under))
  pub going : s.stopped ≡ None → (under ≡ []) × AtEnd (header_bytes s.header) s.place s.count s.disk.seen s.disk.images
  -- faults
  pub at_opening : s.faults ≡ s.opened.faults
  pub risen : s.opened.faults ≤ s.disk.faults
  pub fault : (now : ℕ) → s.stopped ≡ Some now → Rose s.opened.faults now × (now ≡ s.disk.faults)
  -- the books
  pub types : KnowsTypes (tells s) s.header s.types s.types_saved (journal_of s)
  pub words : KnowsWords (tells s) s.header s.words s.words_saved (journal_of s)
