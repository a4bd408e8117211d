-- What a worker's journal has of its file.
use Rattle.std.specs.Prelude.{◌≡◌, ℕ, ◌<◌, ◌≤◌, Bool, false, List, [], ◌∷◌, ◌++◌, length, is_some, Some, All}
use mathlib.Core.List.{IsPrefix}
use Rattle.log_seams.specs.Disk.{DiskState}
use Rattle.turn_lock.specs.declared.board.About.{About}
use Rattle.turn_lock.specs.Words.{seen, own_list, about, number_of, IsReady, IsStill}
use Rattle.record_format.specs.declared.header.Header.{Header}
use Rattle.archive_meaning.specs.declared.entry.SegmentEntry.{SegmentEntry}
use Rattle.archive_meaning.specs.declared.entry.JournalEntry.{JournalEntry}
use Rattle.archive_meaning.specs.declared.entry.JournalEntry.TheVariants.{Files, Types, Words, Segment}
use Rattle.archive_meaning.specs.Held.{Held, nothing_held, messages_of, is_whole, is_ended}
use Rattle.archive_meaning.specs.Legal.{Run}
use Rattle.disk_seal.specs.declared.entry.StoreEntry.{StoreEntry}
use Rattle.disk_seal.specs.declared.fixed.StoreFixed.{StoreFixed}
use Rattle.disk_seal.specs.Told.{IfTold}
use Rattle.disk_seal.specs.Fixed.{KeeperPass}
use Rattle.disk_seal.specs.Draft.{journal_seen}

-- the segments among entries
abbrev pub segments_in : List JournalEntry → List SegmentEntry
segments_in [] = []
segments_in (Files names ∷ es) = segments_in es
segments_in (Types first texts ∷ es) = segments_in es
segments_in (Words first texts ∷ es) = segments_in es
segments_in (Segment s ∷ es) = s ∷ segments_in es

-- the entries that have places in an own list
abbrev pub entries_at : List (ℕ × StoreEntry) → List StoreEntry
entries_at [] = []
entries_at (x ∷ xs) = x.1 ∷ entries_at xs

-- the segments among what a pass has added
abbrev pub sealed_by : List (ℕ × StoreEntry) → List SegmentEntry
sealed_by own = segments_in (journal_seen (entries_at own))

-- The entries are legal from nothing on and name the file. It has these messages, and is marked whole and ended, or not.
pub record Holds (h : Header) (es : List JournalEntry) (file : ℕ) (messages : List (List ℕ)) (whole ended : Bool) : Type 0 where
  pub held : Held
  pub run : Run h nothing_held es held
  pub named : file < length held.names
  pub messages_are : messages_of file held.pieces ≡ messages
  pub whole_is : is_whole file held.pieces ≡ whole
  pub ended_is : is_ended file held.pieces ≡ ended

-- a front of the entries does
pub record FrontHolds (h : Header) (es : List JournalEntry) (file : ℕ) (messages : List (List ℕ))
    (whole ended : Bool) : Type 0 where
  pub front : List JournalEntry
  pub begins : IsPrefix front es
  pub holds : Holds h front file messages whole ended

module _ {D : Type 0} where
  -- it is the same pass between two turns; it has seen what it had, and added these entries behind that
  pub record HasAdded (p q : KeeperPass D) (more : List (ℕ × StoreEntry)) : Type 0 where
    pub still : IsStill p q
    pub ready : IsReady q
    pub seen_on : IsPrefix (seen p) (seen q)
    pub own : own_list q ≡ own_list p ++ more
    pub behind : All (λ x. length (seen p) ≤ x.0) more

  -- what holds where the disk of the pass' store tells its bytes, by the archive's header
  abbrev pub WhereTold : (D → DiskState) → KeeperPass D → (Header → Type 0) → Type 0
  WhereTold state p P = (a : About (StoreFixed D)) → about p ≡ Some a
      → IfTold (is_some (state a.fixed.opened).seen) (P a.fixed.header)

  -- The file has a name in the journal that the pass has seen, and these messages there; it is not whole.
  abbrev pub HasSoFar : (D → DiskState) → KeeperPass D → List (List ℕ) → Type 0
  HasSoFar state p messages = WhereTold state p (λ h. Holds h (journal_seen (seen p)) (number_of p) messages false false)
