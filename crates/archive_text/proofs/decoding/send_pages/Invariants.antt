use Rattle.std.proofs.Common.{◌≡◌, ◌≤◌, length}
use Rattle.log_seams.specs.Disk.{Rests}
use Rattle.archive_text.specs.Ahead.{ahead, work}
use Rattle.archive_text.specs.Sent.{Sends}
use Rattle.archive_text.proofs.decoding.send_pages.Given as goal

abbrev pub invariant-loop-walk : goal.invariant-loop-walk
invariant-loop-walk g l = record {
  rests : Rests (g.D.Disk.state l.fn.disk) (g.D.Disk.state l.disk);
  done : length l.walk.columns.rows ≤ l.walk.row;
  sends : Sends (g.D.Disk.state l.fn.disk).seen (g.N.Names.types l.names) (g.N.Names.words l.names) (g.K.Sink.written l.fn.out) (g.K.Sink.written l.out) l.fn.walk l.walk;
  faults : (g.D.Disk.state l.disk).faults ≡ (g.D.Disk.state l.fn.disk).faults;
  sink : g.K.Sink.faults l.out ≡ g.K.Sink.faults l.fn.out;
}

abbrev pub decreases-loop-walk : goal.decreases-loop-walk
decreases-loop-walk g l = work (ahead l.walk)
