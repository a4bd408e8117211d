-- The journal that a store gives back at its end.
use Rattle.std.specs.Prelude.{◌≡◌}
use Rattle.log_seams.specs.declared.disk.Disk.{Ghosts}
use Rattle.disk_journal.specs.declared.journal.Journal.{Journal}
use Rattle.disk_seal.specs.View.{StoreView}

pub record IsJournalOf {D : Type 0} {d : Ghosts D} (store : StoreView D) (j : Journal D d) : Type 0 where
  pub name : j.disk.ghost_name ≡ store.name
  pub disk : j.disk.now ≡ store.disk
  pub header : j.header ≡ store.header
  pub place : j.place ≡ store.place
  pub count : j.count ≡ store.count
  pub closed : j.closed ≡ store.closed
