-- The part of a store that stays the same under its lock.
use Rattle.turn_lock.specs.Words.{lock_of}
use Rattle.turn_lock.specs.declared.pass.Pass.{Pass}
use Rattle.disk_seal.specs.declared.entry.StoreEntry.{StoreEntry}
use Rattle.disk_seal.specs.declared.fixed.StoreFixed.{StoreFixed}
use Rattle.disk_seal.specs.View.{StoreView}

abbrev pub fixed_of : {D : Type 0} → StoreView D → StoreFixed D
fixed_of v = record {
  name = v.name;
  opened = v.opened;
  header = v.header;
  first = v.first;
  types = lock_of v.types;
  words = lock_of v.words;
}

-- a pass over a store is plain data to a contract
abbrev pub KeeperPass : Type 0 → Type 0
KeeperPass D = Pass (StoreView D) StoreEntry (StoreFixed D)
