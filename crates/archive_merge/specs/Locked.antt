-- Files that are moved under the keeper's lock, and the store that comes back.
use Rattle.std.specs.Prelude.{◌≡◌, ℕ, ◌≤◌, List, [], ◌∷◌, length, Some, slice_get}
use Rattle.std.specs.List.{filter_map}
use mathlib.Core.List.{IsPrefix}
use Rattle.log_seams.specs.Disk.{DiskState}
use Rattle.log_seams.specs.declared.disk.Disk.{Ghosts as DiskGhosts}
use Rattle.row_codec.specs.declared.names.Names.{Ghosts as NamesGhosts}
use Rattle.turn_lock.specs.declared.grows.Grows.{Ghosts}
use Rattle.turn_lock.specs.Words.{HasFixed, IsAllOwned, IsReady, about_by, number_of, own_list, seen, seen_by}
use Rattle.ingest_fork.specs.Passes.{Fresh, Joined}
use Rattle.ingest_fork.specs.Picked.{AddedByOne, entries_in}
use Rattle.ingest_fork.specs.Works.{AllDone, AllFit}
use Rattle.disk_seal.specs.declared.entry.StoreEntry.{StoreEntry}
use Rattle.disk_seal.specs.declared.fixed.StoreFixed.{StoreFixed}
use Rattle.disk_seal.specs.View.{StoreView, state_by, store_entries}
use Rattle.disk_seal.specs.Fixed.{KeeperPass, fixed_of}
use Rattle.disk_seal.specs.May.{MayAdd}
use Rattle.ingest_workers.specs.Locked.{IsPassOf, KeeperMaker, file_segment, list_behind, list_of}
use Rattle.archive_merge.specs.declared.file.Merged.{Merged}
use Rattle.archive_merge.specs.declared.merger.Merger.{Merger}
use Rattle.archive_merge.specs.Merger.{DidFile, IsIdle, MayMoveFile, MovesOn}

module _ {M E D : Type 0} {N : NamesGhosts M} {H : DiskGhosts E} (types words : M → List (List ℕ)) (version : M → ℕ)
    (state : D → DiskState) where
  -- each file may be moved with the pass that the maker makes for it
  abbrev pub MayMoveAll : {G : Ghosts (StoreView D) StoreEntry (StoreFixed D)} → KeeperMaker D G → Merger M E N H → List Merged
      → Type 0
  MayMoveAll {G} m w js = (m' : KeeperMaker D G) (ks : List (KeeperPass D)) → Fresh m m' ks (length js)
      → AllFit (MayMoveFile types words version state) (w ∷ []) js ks

  -- with that file's pass over the store
  abbrev pub MayMoveAt : ℕ → StoreView D → Merger M E N H → List Merged → Type 0
  MayMoveAt first store w js = (ks : List (KeeperPass D)) → length ks ≡ length js
      → ((i : ℕ) (p : KeeperPass D) → slice_get ks i ≡ Some p → IsPassOf state first store i p × IsReady p)
      → AllFit (MayMoveFile types words version state) (w ∷ []) js ks

  module _ (state_second : E → DiskState) where
    -- the files were moved with these passes, one after the other
    pub record WereMoved (w w' : Merger M E N H) (js js' : List Merged) (passes passes' : List (KeeperPass D)) : Type 0 where
      pub ready : IsIdle types words version w'
      pub went : MovesOn types words version state_second js js' w w'
      pub done : AllDone (MovesOn types words version state_second) (DidFile types words version state state_second)
          (w ∷ []) (w' ∷ []) js js' passes passes'

    -- The maker made a pass for each file, these were moved with them, and the maker joined them.
    pub record HasMovedAll {G : Ghosts (StoreView D) StoreEntry (StoreFixed D)} (m end : KeeperMaker D G)
        (w w' : Merger M E N H) (js js' : List Merged) : Type 0 where
      pub middle : KeeperMaker D G
      pub passes : List (KeeperPass D)
      pub passes' : List (KeeperPass D)
      pub fresh : Fresh m middle passes (length js)
      pub moved : WereMoved w w' js js' passes passes'
      pub joined : Joined middle end passes' 0

    -- all was done, and the lock closed
    pub record HasClosed {G : Ghosts (StoreView D) StoreEntry (StoreFixed D)} (m : KeeperMaker D G)
        (w w' : Merger M E N H) (js js' : List Merged) (after : StoreView D) : Type 0 where
      pub end : KeeperMaker D G
      pub done : HasMovedAll m end w w' js js'
      pub entries : store_entries (state_by state after) ≡ seen_by end
      pub fixed : HasFixed fixed_of (about_by end) after
      pub owned : IsAllOwned MayAdd end

    -- The files were moved with passes over the store. What these added stands behind the store's list: each entry was added by
    -- one of the passes, which may add it, and the segments of a pass' file are those that it added, in order.
    pub record HasMovedOver (first : ℕ) (w w' : Merger M E N H) (js js' : List Merged) (before after : StoreView D) : Type 0 where
      pub fixed : fixed_of after ≡ fixed_of before
      pub front : IsPrefix (list_of state before) (list_of state after)
      pub passes : List (KeeperPass D)
      pub passes' : List (KeeperPass D)
      pub counted : length passes ≡ length js
      pub opened : (i : ℕ) (p : KeeperPass D) → slice_get passes i ≡ Some p → IsPassOf state first before i p
      pub moved : WereMoved w w' js js' passes passes'
      pub files : (i : ℕ) (q : KeeperPass D) → slice_get passes' i ≡ Some q
          → filter_map (file_segment (number_of q)) (list_behind state before after)
          ≡ filter_map (file_segment (number_of q)) (entries_in (own_list q))
      pub seen_on : (i : ℕ) (q : KeeperPass D) → slice_get passes' i ≡ Some q → IsPrefix (seen q) (list_of state after)
      pub added : (j : ℕ) (e : StoreEntry) → length (list_of state before) ≤ j → slice_get (list_of state after) j ≡ Some e
          → AddedByOne MayAdd passes' j e
