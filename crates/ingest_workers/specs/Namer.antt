-- The namer of a worker.
use Rattle.std.specs.Prelude.{◌≡◌, ℕ, List, Some}
use mathlib.Core.List.{IsPrefix}
use Rattle.log_seams.specs.Disk.{DiskState}
use Rattle.turn_lock.specs.declared.board.About.{About}
use Rattle.turn_lock.specs.Words.{seen, own_list, about, lock_of, number_of, noted}
use Rattle.dict_lock.specs.Shared.{BookPass, GoesOn}
use Rattle.dict_lock.specs.Cached.{pass_in}
use Rattle.disk_seal.specs.declared.namer.LockNamer.{LockNamer}
use Rattle.disk_seal.specs.declared.draft.Draft.{Draft}
use Rattle.disk_seal.specs.declared.fixed.StoreFixed.{StoreFixed}
use Rattle.disk_seal.specs.Fixed.{KeeperPass}
use Rattle.disk_seal.specs.Prepare.{BookNote, IsFullAt}

module _ {R A B C : Type 0} where
  -- the pass over the log types, and that over the words
  abbrev pub types_pass : LockNamer R A B C → BookPass
  types_pass n = pass_in n.types

  abbrev pub words_pass : LockNamer R A B C → BookPass
  words_pass n = pass_in n.words

  -- the texts that it has seen
  abbrev pub types_seen : LockNamer R A B C → List (List ℕ)
  types_seen n = seen (types_pass n)

  abbrev pub words_seen : LockNamer R A B C → List (List ℕ)
  words_seen n = seen (words_pass n)

  -- its passes are of the locks that the store's passes are of, and its version is the header's
  pub record IsNamerOf {D : Type 0} (p : KeeperPass D) (n : LockNamer R A B C) : Type 0 where
    pub types : (a : About (StoreFixed D)) → about p ≡ Some a → lock_of (types_pass n) ≡ a.fixed.types
    pub words : (a : About (StoreFixed D)) → about p ≡ Some a → lock_of (words_pass n) ≡ a.fixed.words
    pub version : (a : About (StoreFixed D)) → about p ≡ Some a → n.version ≡ a.fixed.header.version

  -- it knows what it knew, and has added no text
  pub record HasOnlySeen (m n : LockNamer R A B C) : Type 0 where
    pub version : n.version ≡ m.version
    pub types : GoesOn (types_pass m) (types_pass n)
    pub words : GoesOn (words_pass m) (words_pass n)
    pub own_types : own_list (types_pass n) ≡ own_list (types_pass m)
    pub own_words : own_list (words_pass n) ≡ own_list (words_pass m)

  -- The records of the draft do not fit behind the archive's end, where they need so many bytes, with the texts of both books
  -- that are not saved; the namer has then seen all of these.
  pub record HasNoRoom {D : Type 0} (state : D → DiskState) (d : Draft) (end need : ℕ) (p q : KeeperPass D)
      (m n : LockNamer R A B C) : Type 0 where
    pub types : BookNote
    pub words : BookNote
    pub full : IsFullAt state d end need types words (types_seen m) (words_seen m) p q
    pub types_on : IsPrefix (noted types) (types_seen n)
    pub words_on : IsPrefix (noted words) (words_seen n)

  -- its passes are what they were, whatever they have named
  pub record HasSamePasses (m n : LockNamer R A B C) : Type 0 where
    pub version : n.version ≡ m.version
    pub types_lock : lock_of (types_pass n) ≡ lock_of (types_pass m)
    pub words_lock : lock_of (words_pass n) ≡ lock_of (words_pass m)
    pub types_number : number_of (types_pass n) ≡ number_of (types_pass m)
    pub words_number : number_of (words_pass n) ≡ number_of (words_pass m)
