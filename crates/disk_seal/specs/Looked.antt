-- What one look at a gate, in a turn of a pass, tells and leaves.
use Rattle.std.specs.Prelude.{◌≡◌, ℕ, suc, ◌≤◌, List, [], ◌∷◌, ◌++◌, length, is_some, false, All, Some}
use mathlib.Core.List.{IsPrefix}
use Rattle.log_seams.specs.Disk.{DiskState}
use Rattle.turn_lock.specs.declared.board.About.{About}
use Rattle.turn_lock.specs.Words.{seen, own_list, about, IsReady, IsStill}
use Rattle.record_format.specs.declared.header.Header.{Header}
use Rattle.archive_meaning.specs.declared.entry.JournalEntry.{JournalEntry}
use Rattle.disk_seal.specs.declared.entry.StoreEntry.{StoreEntry}
use Rattle.disk_seal.specs.declared.entry.StoreEntry.TheVariants.{Entry, Blank, Stopped}
use Rattle.disk_seal.specs.declared.faults.DiskFault.{DiskFault}
use Rattle.disk_seal.specs.declared.fixed.StoreFixed.{StoreFixed}
use Rattle.disk_seal.specs.declared.found.Found.{Found}
use Rattle.disk_seal.specs.Told.{IfTold, IsMark}
use Rattle.disk_seal.specs.Fixed.{KeeperPass}
use Rattle.disk_seal.specs.Draft.{journal_seen}
use Rattle.disk_seal.specs.Prepare.{IsFaultOf}
use Rattle.disk_seal.specs.Found.{IsSomeGate, IsNextIn, IsEndIn, IsWholeAt}

-- how many entries of a journal a store's list has, also those that are not told: all but the mark
abbrev pub journal_length : List StoreEntry → ℕ
journal_length [] = 0
journal_length (Entry e ∷ es) = suc (journal_length es)
journal_length (Blank ∷ es) = suc (journal_length es)
journal_length (Stopped now ∷ es) = journal_length es

-- the list has the mark of a store that was stopped at this count of faults
abbrev pub IsMarkedBy : ℕ → List StoreEntry → Type 0
IsMarkedBy now es = (front : List StoreEntry) × IsPrefix (front ++ Stopped now ∷ []) es

-- the list has the mark of a store that is stopped
abbrev pub IsMarked : List StoreEntry → Type 0
IsMarked es = (now : ℕ) × IsMarkedBy now es

module _ {D : Type 0} where
  -- where the disk tells its bytes, P of the header and of the entries that the pass has seen
  abbrev pub WhereTold : (D → DiskState) → KeeperPass D → (Header → List JournalEntry → Type 0) → Type 0
  WhereTold state p P =
      (a : About (StoreFixed D)) → about p ≡ Some a
      → IfTold (is_some (state a.fixed.opened).seen) (P a.fixed.header (journal_seen (seen p)))

  -- the place is that of a gate
  abbrev pub MayLook : (D → DiskState) → ℕ → KeeperPass D → Type 0
  MayLook state at p = WhereTold state p (λ h es. IsSomeGate h es at)

  -- the pass took a turn and gave it back, with no entry more but the mark of a store that is stopped
  pub record HasTurned (p q : KeeperPass D) : Type 0 where
    pub still : IsStill p q
    pub ready : IsReady q
    pub seen_on : IsPrefix (seen p) (seen q)
    pub marks : List (ℕ × StoreEntry)
    pub own : own_list q ≡ own_list p ++ marks
    pub only : All (λ x. IsMark x.1) marks
    pub behind : All (λ x. length (seen p) ≤ x.0) marks

  -- a whole record stands behind the gate at this place, and is that of the next entry that the pass has seen
  pub record HasNext (state : D → DiskState) (at : ℕ) (f : Found) (q : KeeperPass D) : Type 0 where
    pub whole : IsWholeAt at f
    pub next : WhereTold state q (λ h es. IsNextIn h es at f)

  -- the gate at this place is behind all entries that the pass has seen
  abbrev pub HasNone : (D → DiskState) → ℕ → KeeperPass D → Type 0
  HasNone state at q = WhereTold state q (λ h es. IsEndIn h es at)

  -- the counts of a fault that has stopped the store, whose mark with its count the pass has seen
  pub record HasHalted (state : D → DiskState) (f : DiskFault) (q : KeeperPass D) : Type 0 where
    pub fault : IsFaultOf state f q
    pub marked : IsMarkedBy f.now (seen q)

  -- no whole record was read at the place, over a disk that does not tell its bytes
  pub record TellsNothing (state : D → DiskState) (place at : ℕ) (q : KeeperPass D) : Type 0 where
    pub here : place ≡ at
    pub untold : (a : About (StoreFixed D)) → about q ≡ Some a → is_some (state a.fixed.opened).seen ≡ false
