-- A journal over a disk, by where it has come to.
use Rattle.std.specs.Prelude.{◌≡◌, ℕ}
use Rattle.log_seams.specs.declared.disk.Disk.{Ghosts as DiskGhosts}
use Rattle.log_seams.specs.Disk.{DiskState}
use Rattle.disk_journal.specs.State.{JournalState}
use Rattle.disk_journal.specs.declared.journal.Journal.{Journal}
use Rattle.file_outcomes.specs.declared.journal_end.JournalEnd.{JournalEnd}

-- the journal that has come to this, over a disk that is lent under this name
abbrev pub state_at : ℕ → DiskState → JournalEnd → JournalState
state_at name d end = record {
  name = name;
  disk = d;
  header = end.header;
  place = end.place;
  count = end.count;
  closed = end.closed;
}

-- These are a journal's parts: its disk, and where it has come to.
pub record AreParts {D : Type 0} {d : DiskGhosts D} (j : Journal D d) (disk : D) (end : JournalEnd) : Type 0 where
  pub same : disk ≡ j.disk.now
  pub header : end.header ≡ j.header
  pub place : end.place ≡ j.place
  pub count : end.count ≡ j.count
  pub closed : end.closed ≡ j.closed
