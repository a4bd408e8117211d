-- How what was built of texts, files and segments goes on with a record, and how a walk goes on.
use Rattle.std.specs.Prelude.{◌≡◌, ◌≤◌, ℕ, ◌+◌, List, ◌++◌, length, take, false, Option, Some, None}
use Rattle.record_format.specs.declared.header.Header.{Header}
use Rattle.record_format.specs.Header.{IsHeader}
use Rattle.segment_format.specs.declared.head.Head.{Head}
use Rattle.segment_format.specs.Layout.{IsHead, head_bytes}
use Rattle.disk_journal.specs.State.{IsWalked, JournalState}
use Rattle.disk_journal.specs.declared.walk.RecordPlace.{RecordPlace}
use Rattle.archive_meaning.specs.declared.entry.JournalEntry.{JournalEntry}
use Rattle.archive_meaning.specs.Held.{Held, nothing_held}
use Rattle.archive_meaning.specs.Legal.{Run}
use Rattle.archive_meaning.specs.Spelled.{front_of}
use Rattle.archive_meaning.specs.Stands.{Begins, StandsFor}
use Rattle.archive_open.specs.declared.files.FileEntry.{FileEntry}
use Rattle.archive_open.specs.declared.segments.SegmentPlace.{SegmentPlace}
use Rattle.archive_open.specs.Kept.{Kept}
use Rattle.archive_open.specs.Shown.{files_of, kept_of, places_of}
use Rattle.archive_open.specs.Walk.{Keeping, KeepsNext, KeepsTold, ReadsWithin, payload_in}

-- a file without messages
abbrev pub new_file : List ℕ → FileEntry
new_file name = record { name = name; messages = 0; whole = false; ended = false }

pub record Built : Type 0 where
  pub kept : Kept
  pub files : List FileEntry
  pub segments : List SegmentPlace

-- that of entries which hold this
pub record IsBuilt (b : Built) (h : Header) (es : List JournalEntry) (held : Held) : Type 0 where
  pub kept : b.kept ≡ kept_of h held
  pub files : b.files ≡ files_of held
  pub segments : b.segments ≡ places_of es

abbrev pub Builds : Built → Header → List JournalEntry → Type 0
Builds b h es = (held : Held) → Run h nothing_held es held → IsBuilt b h es held

-- whatever entry the record is of, it is built
abbrev pub BuildsNext : ℕ → ℕ → List ℕ → Built → Built → Type 0
BuildsNext at kind payload old new = KeepsNext at kind payload (Builds old) (Builds new)

abbrev pub BuildsTold : RecordPlace → Option (List ℕ) → Built → Built → Type 0
BuildsTold p seen old new = KeepsTold p seen (Builds old) (Builds new)

-- ---- heads

-- the payload begins with this head
pub record HasHead (head : Head) (payload : List ℕ) : Type 0 where
  pub fits : IsHead head
  pub rest : List ℕ
  pub spells : payload ≡ head_bytes head ++ rest

abbrev pub HeadTold : Head → RecordPlace → Option (List ℕ) → Type 0
HeadTold head p None = Unit {0}
HeadTold head p (Some bytes) = HasHead head (payload_in p bytes)

abbrev pub NoHeadTold : RecordPlace → Option (List ℕ) → Type 0
NoHeadTold p None = Unit {0}
NoHeadTold p (Some bytes) = (head : Head) → ¬ HasHead head (payload_in p bytes)

-- of a payload that begins with a head, the head alone is read
abbrev pub ReadsHead : RecordPlace → Option (List ℕ) → Option (List (ℕ × ℕ)) → Option (List (ℕ × ℕ)) → Type 0
ReadsHead p None old new = Unit {0}
ReadsHead p (Some bytes) old new =
    (head : Head) → HasHead head (payload_in p bytes) → ReadsWithin p.payload (length (head_bytes head)) old new

-- ---- the walk

-- The walk has passed `count` records, and stands at this place behind them. Of each legal journal that the bytes begin
-- with and that has as many entries, these are kept; one that has fewer ends before.
pub record IsOpening (keeping : Keeping) (header : Header) (place count : ℕ) (bytes : List ℕ) : Type 0 where
  pub one : (h : Header) (es : List JournalEntry) → Begins bytes h es → h ≡ header
  pub past : 32 ≤ place
  pub stood : (h : Header) (es : List JournalEntry)
      → Begins bytes h es → count ≤ length es → place ≡ length (front_of h (take count es))
  pub kept : (h : Header) (es : List JournalEntry) → Begins bytes h es → count ≤ length es → keeping h (take count es)
  pub behind : (h : Header) (es : List JournalEntry) → Begins bytes h es → length es ≤ count → length (front_of h es) ≤ place
  pub far : (h : Header) (es : List JournalEntry) → StandsFor bytes h es → count ≤ length es

abbrev pub AreOpening : Keeping → Header → ℕ → ℕ → Option (List ℕ) → Type 0
AreOpening keeping header place count None = Unit {0}
AreOpening keeping header place count (Some bytes) = IsOpening keeping header place count bytes

-- of a journal and what was kept
pub record GoesWith (keeping : Keeping) (j : JournalState) : Type 0 where
  pub kept : AreOpening keeping j.header j.place j.count j.disk.seen
  pub walked : IsWalked j
  pub header : IsHeader j.header

-- the walk has gone on by one record
pub record GoesOnTo (old : JournalState) (keeping : Keeping) (new : JournalState) : Type 0 where
  pub goes : GoesWith keeping new
  pub count : new.count ≡ old.count + 1
  pub place : old.place + 10 ≤ new.place
