-- When a pass may prepare a draft, and what it then has.
use Rattle.std.specs.Prelude.{◌≡◌, ℕ, ◌+◌, ◌<◌, ◌≤◌, ◌++◌, List, length, min, is_some, All, None, Some}
use mathlib.Core.List.{IsPrefix}
use Rattle.log_seams.specs.Disk.{DiskState}
use Rattle.log_seams.specs.Outside.{Rose}
use Rattle.turn_lock.specs.declared.board.About.{About}
use Rattle.turn_lock.specs.declared.note.Note.{Note}
use Rattle.turn_lock.specs.Words.{seen, own_list, about, lock_of, lock_noted, noted, IsReady, IsStill}
use Rattle.dict_core.specs.Books.{BookState}
use Rattle.archive_meaning.specs.declared.entry.JournalEntry.{JournalEntry}
use Rattle.archive_meaning.specs.Spelled.{end_of, types_of}
use Rattle.disk_seal.specs.declared.draft.Draft.{Draft}
use Rattle.disk_seal.specs.declared.faults.DiskFault.{DiskFault}
use Rattle.disk_seal.specs.declared.fixed.StoreFixed.{StoreFixed}
use Rattle.disk_seal.specs.declared.pieces.Piece.{Piece}
use Rattle.disk_seal.specs.Told.{IfTold}
use Rattle.ingest_meaning.specs.Room.{needed_behind}
use Rattle.ingest_meaning.specs.WordsIn.{words_of}
use Rattle.disk_seal.specs.View.{StoreView, StoreState, state_by, tells, journal_of}
use Rattle.disk_seal.specs.Fixed.{KeeperPass}
use Rattle.disk_seal.specs.May.{MayAdd}
use Rattle.disk_seal.specs.Adding.{front_of}
use Rattle.disk_seal.specs.Pieces.{CanFollow, added_by}
use Rattle.disk_seal.specs.Sealing.{told_as, MayPut}
use Rattle.disk_seal.specs.Draft.{MayFollow, journal_seen}
use Rattle.disk_seal.specs.Planned.{segment_of, IsBehind, IsTextsThen, entries_with, needed}

-- a note of a book's pass
abbrev pub BookNote : Type 0
BookNote = Note BookState (List ℕ) ℕ

-- where the store runs and its entries are told, the draft may follow them, by these texts
abbrev pub MayFollowNow : Draft → List (List ℕ) → List (List ℕ) → StoreState → Type 0
MayFollowNow d types words s =
    s.stopped ≡ None → IfTold (tells s) (IsBehind s.header (journal_of s) (segment_of d) types words d.words)

-- the entries have the texts that the store's passes have seen, and no others
pub record HaveAllTexts (es : List JournalEntry) (s : StoreState) : Type 0 where
  pub types : types_of es ≡ seen s.types
  pub words : words_of es ≡ seen s.words

-- Where the store runs and its entries are told, the records are those of all texts that are not saved, each once and in their
-- order, and then the draft; behind them nothing is unsaved.
abbrev pub SavesAll : Draft → List Piece → StoreState → Type 0
SavesAll d ps s =
    s.stopped ≡ None → IfTold (tells s) ((added_by ps ≡ entries_with d s) × HaveAllTexts (journal_of s ++ added_by ps) s)

-- the records may be added to the store where it runs, and by the pass of the draft's file
pub record IsPlanned (d : Draft) (ps : List Piece) (s : StoreState) : Type 0 where
  pub can : s.stopped ≡ None → CanFollow ps (front_of s)
  pub may : All (MayAdd d.file) (told_as s (added_by ps))
  pub all : s.stopped ≡ None → IfTold (tells s) (added_by ps ≡ entries_with d s)

-- so many bytes more do not fit behind the store's end; the notes are of its passes, and have seen what they have seen
pub record IsTooLong (d : Draft) (end need : ℕ) (types words : BookNote) (s : StoreState) : Type 0 where
  pub runs : s.stopped ≡ None
  pub ends : end ≡ s.place + 1
  pub needs : need ≡ min (needed d s) 18446744073709551615
  pub past : s.header.length_limit < end + need
  pub types_lock : lock_noted types ≡ lock_of s.types
  pub words_lock : lock_noted words ≡ lock_of s.words
  pub types_seen : noted types ≡ seen s.types
  pub words_seen : noted words ≡ seen s.words

-- the bytes of the records of a draft and of all texts that these entries do not have
abbrev pub need_behind : Draft → List JournalEntry → List (List ℕ) → List (List ℕ) → ℕ
need_behind d es types words = needed_behind (segment_of d) d.words es types words

module _ {D : Type 0} where
  -- the pass has seen the lock's opening
  abbrev pub HasSeenOpening : KeeperPass D → Type 0
  HasSeenOpening p = (a : About (StoreFixed D)) → about p ≡ Some a → a.start ≤ length (seen p)

  -- the notes are of the locks that the store's passes are of
  abbrev pub AreNotesOf : KeeperPass D → BookNote → BookNote → Type 0
  AreNotesOf p types words =
      (a : About (StoreFixed D)) → about p ≡ Some a → (lock_noted types ≡ a.fixed.types) × (lock_noted words ≡ a.fixed.words)

  -- where the disk tells its bytes, the draft may follow the entries that the pass has seen, by these texts
  abbrev pub MayBeNext : (D → DiskState) → Draft → KeeperPass D → List (List ℕ) → List (List ℕ) → Type 0
  MayBeNext state d p types words =
      (a : About (StoreFixed D)) → about p ≡ Some a
      → IfTold (is_some (state a.fixed.opened).seen)
      (MayFollow a.fixed.header (journal_seen (seen p)) types words (segment_of d) d.words)

  -- the pass gave its turn back with nothing added
  pub record HasGivenBack (p q : KeeperPass D) : Type 0 where
    pub still : IsStill p q
    pub ready : IsReady q
    pub seen_on : IsPrefix (seen p) (seen q)
    pub own : own_list q ≡ own_list p

  -- The records of a draft do not fit: the archive ends there, and with so many bytes more goes past its limit of length. The
  -- notes are of the locks that the store's passes are of, and have seen these texts.
  pub record IsFullAt (state : D → DiskState) (d : Draft) (end need : ℕ) (note_t note_w : BookNote) (types words : List (List ℕ))
      (p q : KeeperPass D) : Type 0 where
    pub locks : AreNotesOf p note_t note_w
    pub types_on : IsPrefix types (noted note_t)
    pub words_on : IsPrefix words (noted note_w)
    pub past : (a : About (StoreFixed D)) → about p ≡ Some a → a.fixed.header.length_limit < end + need
    pub ends : (a : About (StoreFixed D)) → about p ≡ Some a
        → IfTold (is_some (state a.fixed.opened).seen) (end ≡ end_of a.fixed.header (journal_seen (seen q)))
    pub needs : (a : About (StoreFixed D)) → about p ≡ Some a
        → IfTold (is_some (state a.fixed.opened).seen)
        (need ≡ min (need_behind d (journal_seen (seen q)) (noted note_t) (noted note_w)) 18446744073709551615)

  -- the counts of faults are that of the disk at the opening, and a later one
  pub record IsFaultOf (state : D → DiskState) (f : DiskFault) (p : KeeperPass D) : Type 0 where
    pub opened : (a : About (StoreFixed D)) → about p ≡ Some a → f.opened ≡ (state a.fixed.opened).faults
    pub rose : Rose f.opened f.now

  -- The pass has the turn with the store, and may put the records into it. It has seen more, and added nothing.
  pub record IsPrepared (state : D → DiskState) (d : Draft) (p q : KeeperPass D) (v : StoreView D) (ps : List Piece)
      : Type 0 where
    pub may : MayPut state v ps q
    pub last : v.stopped ≡ None → IfTold (tells (state_by state v)) (IsTextsThen (segment_of d) (added_by ps))
    pub still : IsStill p q
    pub seen_on : IsPrefix (seen p) (seen q)
    pub own : own_list q ≡ own_list p
