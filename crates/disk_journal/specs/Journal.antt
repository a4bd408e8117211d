-- What the fields of a journal say.
use Rattle.log_seams.specs.declared.disk.Disk.{Ghosts}
use Rattle.disk_journal.specs.State.{JournalState}
use Rattle.disk_journal.specs.declared.journal.Journal.{Journal}

-- the name and the state of its disk, and its own fields
abbrev pub state_of : {D : Type 0} {d : Ghosts D} → Journal D d → JournalState
state_of {D} {d} j = record {
  name = j.disk.ghost_name;
  disk = d.state j.disk.now;
  header = j.header;
  place = j.place;
  count = j.count;
  closed = j.closed;
}
