use Rattle.std.proofs.Common.{◌≡◌, ◌*◌, ◌≤◌}
use Rattle.log_seams.specs.Disk.{Rests}
use Rattle.archive_check.specs.Checked.{Checked}
use Rattle.archive_check.proofs.checking.check_all.Given as goal

abbrev pub invariant-loop-passed : goal.invariant-loop-passed
invariant-loop-passed g l = record {
  name : l.journal.disk.ghost_name ≡ l.initial.journal.disk.ghost_name;
  rests : Rests (g.D.Disk.state l.initial.journal.disk.now) (g.D.Disk.state l.journal.disk.now);
  checked : Checked l.journal.header l.journal.place l.journal.count l.judge (g.D.Disk.state l.journal.disk.now).seen;
  steady : (g.D.Disk.state l.journal.disk.now).faults ≡ (g.D.Disk.state l.initial.journal.disk.now).faults;
  far : 10 * l._passed ≤ l.journal.place;
}
