-- A follower of the journal beside the workers of an ingest: when it may begin, and what became of it.
use Rattle.std.specs.Prelude.{◌≡◌, ◌+◌, ◌≤◌, Bool, false, true, List, length, is_some, Some}
use Rattle.log_seams.specs.declared.disk.Disk.{Ghosts as DiskGhosts}
use Rattle.log_seams.specs.Disk.{DiskState}
use Rattle.log_seams.specs.Outside.{Rose}
use Rattle.record_format.specs.declared.header.Header.{Header}
use Rattle.turn_lock.specs.declared.board.About.{About}
use Rattle.turn_lock.specs.declared.grows.Grows.{Ghosts}
use Rattle.turn_lock.specs.Words.{about_by, seen_by}
use Rattle.disk_journal.specs.declared.journal.Journal.{Journal}
use Rattle.disk_journal.specs.Journal.{state_of}
use Rattle.disk_seal.specs.declared.entry.StoreEntry.{StoreEntry}
use Rattle.disk_seal.specs.declared.fixed.StoreFixed.{StoreFixed}
use Rattle.disk_seal.specs.Told.{IfTold}
use Rattle.disk_seal.specs.View.{StoreView}
use Rattle.disk_seal.specs.Draft.{journal_seen}
use Rattle.disk_seal.specs.Looked.{journal_length, IsMarked}
use Rattle.disk_seal.specs.Beside.{Follower, StandsOn}
use Rattle.ingest_workers.specs.Locked.{KeeperMaker, list_of}
use Rattle.ingest_workers.specs.Ingested.{told_entries}

-- ---- over a store's list

module _ {F : Type 0} where
  -- It stands for the first of the entries in this list, where they are told, and does not refuse for a fault of the disk.
  pub record MayBeginOn (told : Bool) (h : Header) (f : Follower F) (list : List StoreEntry) : Type 0 where
    pub within : f.first + f.handled ≤ journal_length list
    pub stands : IfTold told (StandsOn f h (journal_seen list))
    pub running : f.halted ≡ false

  -- It has become the second one, which stands for the first of the entries in this list, where they are told. Where it refuses
  -- for a fault of the disk the list has the mark; where it does not refuse it has handled all of them.
  pub record WasBeside (told : Bool) (h : Header) (f g : Follower F) (list : List StoreEntry) : Type 0 where
    pub first : g.first ≡ f.first
    pub fixed : g.fixed ≡ f.fixed
    pub more : f.handled ≤ g.handled
    pub within : g.first + g.handled ≤ journal_length list
    pub stands : IfTold told (StandsOn g h (journal_seen list))
    pub marked : g.halted ≡ true → IsMarked list
    pub through : g.refused ≡ false → g.first + g.handled ≡ journal_length list

-- ---- under the keeper's lock

module _ {F D : Type 0} {G : Ghosts (StoreView D) StoreEntry (StoreFixed D)} (state : D → DiskState) where
  -- so by what the maker of the passes has seen
  pub record MayBeginBy (f : Follower F) (m : KeeperMaker D G) : Type 0 where
    pub known : About (StoreFixed D)
    pub is : about_by m ≡ Some known
    pub opening : known.start ≤ length (seen_by m)
    pub begins : MayBeginOn (is_some (state known.fixed.opened).seen) known.fixed.header f (seen_by m)

  abbrev pub WasBesideBy : Follower F → Follower F → KeeperMaker D G → KeeperMaker D G → Type 0
  WasBesideBy f g m end = (a : About (StoreFixed D)) → about_by m ≡ Some a
      → WasBeside (is_some (state a.fixed.opened).seen) a.fixed.header f g (seen_by end)

module _ {F D : Type 0} (state : D → DiskState) where
  -- so over the store
  abbrev pub MayBeginOver : Follower F → StoreView D → Type 0
  MayBeginOver f store = MayBeginOn (is_some (state store.opened).seen) store.header f (list_of state store)

  abbrev pub WasBesideOver : Follower F → Follower F → StoreView D → StoreView D → Type 0
  WasBesideOver f g before after = WasBeside (is_some (state before.opened).seen) before.header f g (list_of state after)

-- ---- over a journal

module _ {F D : Type 0} {d : DiskGhosts D} where
  -- It stands for the first entries of the journal, where they are told, and does not refuse for a fault of the disk.
  pub record MayBeginWith (f : Follower F) (j : Journal D d) : Type 0 where
    pub within : f.first + f.handled ≤ j.count
    pub stands : IfTold (is_some (state_of j).disk.seen) (StandsOn f j.header (told_entries (state_of j)))
    pub running : f.halted ≡ false

  -- It has become the second one, which stands for the first entries of the journal afterwards, where they are told. Where it
  -- refuses for a fault of the disk the disk's count of faults rose; where it does not refuse it has handled all entries.
  pub record WentBeside (f g : Follower F) (before after : Journal D d) : Type 0 where
    pub first : g.first ≡ f.first
    pub fixed : g.fixed ≡ f.fixed
    pub more : f.handled ≤ g.handled
    pub within : g.first + g.handled ≤ after.count
    pub stands : IfTold (is_some (state_of before).disk.seen) (StandsOn g before.header (told_entries (state_of after)))
    pub halted : g.halted ≡ true → Rose (state_of before).disk.faults (state_of after).disk.faults
    pub through : g.refused ≡ false → g.first + g.handled ≡ after.count
