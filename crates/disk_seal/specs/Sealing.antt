-- What becomes of a store and of the pass that has its turn when records are added.
use Rattle.std.specs.Prelude.{◌≡◌, ◌≢◌, ◌⊎◌, ℕ, ◌<◌, List, [], ◌∷◌, ◌++◌, length, map, take, All, None, Some}
use Rattle.log_seams.specs.Disk.{DiskState}
use Rattle.log_seams.specs.Outside.{Rose}
use Rattle.turn_lock.specs.History.{places}
use Rattle.turn_lock.specs.Words.{seen, own_list, number_of, about, IsReady, HasTurn, IsStill, HasFixed}
use Rattle.archive_meaning.specs.declared.entry.JournalEntry.{JournalEntry}
use Rattle.archive_meaning.specs.Stands.{StandsFor}
use Rattle.disk_seal.specs.declared.entry.StoreEntry.{StoreEntry}
use Rattle.disk_seal.specs.declared.entry.StoreEntry.TheVariants.{Stopped}
use Rattle.disk_seal.specs.declared.faults.DiskFault.{DiskFault}
use Rattle.disk_seal.specs.declared.pieces.Piece.{Piece}
use Rattle.disk_seal.specs.Told.{IfTold, entry_for}
use Rattle.disk_seal.specs.View.{StoreView, StoreState, state_by, tells, journal_of, store_entries, Kept}
use Rattle.disk_seal.specs.Fixed.{fixed_of, KeeperPass}
use Rattle.disk_seal.specs.May.{MayAdd}
use Rattle.disk_seal.specs.Adding.{front_of, LeavesFirst, Stays}
use Rattle.disk_seal.specs.Pieces.{CanFollow, added_by, AddsSome}

-- what the store's list has of entries
abbrev pub told_as : StoreState → List JournalEntry → List StoreEntry
told_as s es = map (entry_for (tells s)) es

-- it was stopped before, and has the entries that it had; or some entries were added before a fault
abbrev pub IsHalted : List JournalEntry → StoreState → StoreState → Type 0
IsHalted es s t = ((s.stopped ≢ None) × (store_entries t ≡ store_entries s)) ⊎ ((s.stopped ≡ None) × AddsSome es s t)

-- the counts of faults at the opening and at the fault that stopped the store
pub record HasFault (f : DiskFault) (s : StoreState) : Type 0 where
  pub opened : f.opened ≡ s.opened.faults
  pub now : s.stopped ≡ Some f.now
  pub rose : Rose f.opened f.now

module _ {D : Type 0} where
  -- the store is in the hands of the pass, which has its turn
  pub record InHand (state : D → DiskState) (v : StoreView D) (p : KeeperPass D) : Type 0 where
    pub turn : HasTurn p
    pub entries : store_entries (state_by state v) ≡ seen p
    pub fixed : HasFixed fixed_of (about p) v

  -- the pass has added these entries
  pub record HasGrown (es : List StoreEntry) (p q : KeeperPass D) : Type 0 where
    pub still : IsStill p q
    pub ready : IsReady q
    pub seen_is : seen q ≡ seen p ++ es
    pub own_is : own_list q ≡ own_list p ++ places (length (seen p)) es

  -- it has added none to a store that was stopped at this count of faults; or the first of these entries, not all, and the mark
  -- with this count
  abbrev pub HasGrownSome : ℕ → List JournalEntry → StoreState → KeeperPass D → KeeperPass D → Type 0
  HasGrownSome now es s p q =
      ((s.stopped ≡ Some now) × HasGrown [] p q)
      ⊎ ((s.stopped ≡ None) × ((k : ℕ) × (k < length es) × HasGrown (told_as s (take k es) ++ Stopped now ∷ []) p q))

  -- The pieces may be added to the store by the pass.
  pub record MayPut (state : D → DiskState) (v : StoreView D) (ps : List Piece) (p : KeeperPass D) : Type 0 where
    pub hand : InHand state v p
    pub can : v.stopped ≡ None → CanFollow ps (front_of (state_by state v))
    pub may : All (MayAdd (number_of p)) (told_as (state_by state v) (added_by ps))

  -- a store may be the one in the lock: it keeps what a store keeps, has the lock's fixed part, and the list that the pass has seen
  pub record IsSeenBy (state : D → DiskState) (q : KeeperPass D) (w : StoreView D) : Type 0 where
    pub kept : Kept (state_by state w)
    pub fixed : HasFixed fixed_of (about q) w
    pub entries : store_entries (state_by state w) ≡ seen q

  -- The store that was put back is one of these, over the same disk and with the same passes: a crash at any moment since it was
  -- this one left its journal, with none, the first, .. or all of the entries. One that was stopped is as it was.
  pub record HasPutBack (state : D → DiskState) (v : StoreView D) (es : List JournalEntry) (q : KeeperPass D) : Type 0 where
    pub store : StoreView D
    pub in_lock : IsSeenBy state q store
    pub stays : Stays v store
    pub leaves : v.stopped ≡ None → LeavesFirst es (state_by state v) (state_by state store)
    pub rests : v.stopped ≢ None → store ≡ v

  -- Behind a receipt every image of a store with the list that the pass has seen is an archive with the journal of before and all
  -- of the entries.
  abbrev pub IsDurable : (D → DiskState) → StoreView D → List JournalEntry → KeeperPass D → Type 0
  IsDurable state v es q =
      (w : StoreView D) → IsSeenBy state q w → (c : List ℕ) → (state w.disk).images c
      → IfTold (tells (state_by state v)) (StandsFor c v.header (journal_of (state_by state v) ++ es))

  -- The fault is the one that stopped each store with the list that the pass has seen, and its count is that of the disk.
  abbrev pub IsFaultIn : (D → DiskState) → DiskFault → KeeperPass D → Type 0
  IsFaultIn state f q = (w : StoreView D) → IsSeenBy state q w → (w.stopped ≡ Some f.now) × (f.now ≡ (state w.disk).faults)
