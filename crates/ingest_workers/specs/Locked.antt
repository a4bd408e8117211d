-- Jobs that workers do under the keeper's lock, and the store that comes back.
use Rattle.std.specs.Prelude.{◌≡◌, ◌⊎◌, ℕ, ◌+◌, ◌≤◌, List, [], length, drop, Option, None, Some, slice_get, All}
use Rattle.std.specs.List.{filter_map}
use mathlib.Core.List.{IsPrefix}
use Rattle.log_seams.specs.Disk.{DiskState}
use Rattle.turn_lock.specs.declared.grows.Grows.{Ghosts}
use Rattle.turn_lock.specs.declared.maker.Maker.{Maker}
use Rattle.turn_lock.specs.History.{Has}
use Rattle.turn_lock.specs.Words.{seen, own_list, about, number_of, IsReady, HasFixed, HasJoinedAll, IsAllOwned}
use Rattle.turn_lock.specs.Words.{about_by, ended_by, own_by, seen_by}
use Rattle.ingest_fork.specs.Passes.{Fresh, HasEnded, IsOneOf}
use Rattle.ingest_fork.specs.Picked.{entries_in, AddedByOne}
use Rattle.ingest_fork.specs.Works.{AllFit, AllDone, AllWent}
use Rattle.archive_meaning.specs.declared.entry.SegmentEntry.{SegmentEntry}
use Rattle.disk_seal.specs.declared.entry.StoreEntry.{StoreEntry}
use Rattle.disk_seal.specs.declared.entry.StoreEntry.TheVariants.{Entry, Blank, Stopped}
use Rattle.disk_seal.specs.declared.fixed.StoreFixed.{StoreFixed}
use Rattle.disk_seal.specs.View.{StoreView, state_by, store_entries}
use Rattle.disk_seal.specs.Fixed.{fixed_of, KeeperPass}
use Rattle.disk_seal.specs.May.{MayAdd}
use Rattle.disk_seal.specs.Told.{IsMark}
use Rattle.ingest_workers.specs.declared.job.Job.{Job}
use Rattle.ingest_workers.specs.declared.worker.Worker.{Worker}
use Rattle.ingest_workers.specs.Worker.{IsIdle, MayDo, DidOnly, DidJob}
use Rattle.ingest_meaning.specs.Parts.{in_file}

abbrev pub KeeperMaker : (D : Type 0) → Ghosts (StoreView D) StoreEntry (StoreFixed D) → Type 0
KeeperMaker D G = Maker (StoreView D) StoreEntry (StoreFixed D) G

abbrev pub file_segment : ℕ → StoreEntry → Option SegmentEntry
file_segment n (Entry e) = in_file n e
file_segment n Blank = None
file_segment n (Stopped now) = None

module _ {D : Type 0} {G : Ghosts (StoreView D) StoreEntry (StoreFixed D)} where
  -- The maker joined every pass that it made: these, and others that added nothing but the mark of a store that is stopped.
  pub record HasEndedWith (m end : KeeperMaker D G) (ps : List (KeeperPass D)) : Type 0 where
    pub about_is : about_by end ≡ about_by m
    pub seen_on : IsPrefix (seen_by m) (seen_by end)
    pub each : (i : ℕ) (p : KeeperPass D) → slice_get ps i ≡ Some p → HasEnded end p
    pub only : (n : ℕ) → Has (ended_by end) n → IsOneOf ps 0 n ⊎ All (λ x. IsMark x.1) (own_by end n)
    pub all : HasJoinedAll end

module _ {S D : Type 0} {G : Ghosts (StoreView D) StoreEntry (StoreFixed D)} (state : D → DiskState) where
  -- each worker may do each job with the pass that the maker makes for it
  abbrev pub MayDoAll : KeeperMaker D G → List Worker → List (Job S) → Type 0
  MayDoAll m ws js = (m' : KeeperMaker D G) (ks : List (KeeperPass D)) → Fresh m m' ks (length js) → AllFit (MayDo state) ws js ks

  -- The maker made a pass for each job, the workers did the jobs with these, and the maker joined them and all others.
  pub record HasDoneAll (left name : S → Option (List ℕ)) (faults : S → ℕ) (m end : KeeperMaker D G) (ws ws' : List Worker)
      (js js' : List (Job S)) : Type 0 where
    pub middle : KeeperMaker D G
    pub passes : List (KeeperPass D)
    pub passes' : List (KeeperPass D)
    pub fresh : Fresh m middle passes (length js)
    pub went : AllWent IsIdle (DidOnly left) js js' ws ws'
    pub done : AllDone (DidOnly left) (DidJob state left name faults) ws ws' js js' passes passes'
    pub ended : HasEndedWith m end passes'

  -- all was done, and the lock closed
  pub record HasClosed (left name : S → Option (List ℕ)) (faults : S → ℕ) (m : KeeperMaker D G) (ws ws' : List Worker)
      (js js' : List (Job S)) (after : StoreView D) : Type 0 where
    pub end : KeeperMaker D G
    pub done : HasDoneAll left name faults m end ws ws' js js'
    pub entries : store_entries (state_by state after) ≡ seen_by end
    pub fixed : HasFixed fixed_of (about_by end) after
    pub owned : IsAllOwned MayAdd end

module _ {D : Type 0} {G : Ghosts (StoreView D) StoreEntry (StoreFixed D)} (state : D → DiskState) where
  -- nothing was done, and the lock closed
  pub record HasKept (m : KeeperMaker D G) (after : StoreView D) : Type 0 where
    pub entries : store_entries (state_by state after) ≡ seen_by m
    pub fixed : HasFixed fixed_of (about_by m) after

module _ {D : Type 0} (state : D → DiskState) where
  abbrev pub list_of : StoreView D → List StoreEntry
  list_of v = store_entries (state_by state v)

  -- what the store's list has behind that of the store before
  abbrev pub list_behind : StoreView D → StoreView D → List StoreEntry
  list_behind before after = drop (length (list_of before)) (list_of after)

  -- the pass of the i-th job, before it was done: it has seen the store and added nothing
  pub record IsPassOf (first : ℕ) (store : StoreView D) (i : ℕ) (p : KeeperPass D) : Type 0 where
    pub number : number_of p ≡ first + i
    pub about_is : about p ≡ Some (record { first = first; start = length (list_of store); fixed = fixed_of store })
    pub seen_is : seen p ≡ list_of store
    pub own_is : own_list p ≡ []

  -- nothing was added to the store
  pub record IsStillStore (before after : StoreView D) : Type 0 where
    pub fixed : fixed_of after ≡ fixed_of before
    pub entries : list_of after ≡ list_of before

module _ {S D : Type 0} (state : D → DiskState) where
  -- each worker may do each job with that job's pass over the store
  abbrev pub MayDoAt : ℕ → StoreView D → List Worker → List (Job S) → Type 0
  MayDoAt first store ws js = (ks : List (KeeperPass D)) → length ks ≡ length js
      → ((i : ℕ) (p : KeeperPass D) → slice_get ks i ≡ Some p → IsPassOf state first store i p × IsReady p)
      → AllFit (MayDo state) ws js ks

  -- The workers did the jobs with passes over the store. What they added stands behind the store's list: each entry but a mark
  -- was added by one of the passes, which may add it, and the segments of a pass' file are those that it added, in order.
  pub record HasWorked (left name : S → Option (List ℕ)) (faults : S → ℕ) (first : ℕ) (ws ws' : List Worker)
      (js js' : List (Job S)) (before after : StoreView D) : Type 0 where
    pub fixed : fixed_of after ≡ fixed_of before
    pub front : IsPrefix (list_of state before) (list_of state after)
    pub passes : List (KeeperPass D)
    pub passes' : List (KeeperPass D)
    pub counted : length passes ≡ length js
    pub opened : (i : ℕ) (p : KeeperPass D) → slice_get passes i ≡ Some p → IsPassOf state first before i p
    pub went : AllWent IsIdle (DidOnly left) js js' ws ws'
    pub done : AllDone (DidOnly left) (DidJob state left name faults) ws ws' js js' passes passes'
    pub files : (i : ℕ) (q : KeeperPass D) → slice_get passes' i ≡ Some q
        → filter_map (file_segment (number_of q)) (list_behind state before after) ≡ filter_map (file_segment (number_of q))
        (entries_in (own_list q))
    pub seen_on : (i : ℕ) (q : KeeperPass D) → slice_get passes' i ≡ Some q → IsPrefix (seen q) (list_of state after)
    pub added : (j : ℕ) (e : StoreEntry) → length (list_of state before) ≤ j → slice_get (list_of state after) j ≡ Some e
        → IsMark e ⊎ AddedByOne MayAdd passes' j e
