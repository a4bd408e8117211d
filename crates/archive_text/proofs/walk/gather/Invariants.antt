use Rattle.std.proofs.Common.{◌≡◌, ◌≤◌, ◌⊎◌, length}
use Rattle.log_seams.specs.Disk.{Rests}
use Rattle.sink_pieces.specs.declared.pieces.TheConstants.{PIECE}
use Rattle.archive_text.specs.Ahead.{GoesTold, ahead, work}
use Rattle.archive_text.proofs.walk.gather.Given as goal

abbrev pub invariant-loop-disk : goal.invariant-loop-disk
invariant-loop-disk g l = record {
  rests : Rests (g.D.Disk.state l.fn.disk) (g.D.Disk.state l.disk);
  faults : (g.D.Disk.state l.disk).faults ≡ (g.D.Disk.state l.fn.disk).faults;
  goes : GoesTold (g.D.Disk.state l.fn.disk).seen (g.N.Names.types l.names) (g.N.Names.words l.names) (ahead l.fn.walk) (ahead l.walk) l.fn.walk.lines l.walk.lines;
  enough : (length l.walk.columns.rows ≤ l.walk.row) ⊎ (PIECE ≤ length l.walk.lines.gathered.items);
  sent : l.walk.lines.sent ≡ l.fn.walk.lines.sent;
  given : l.walk.lines.given ≡ l.fn.walk.lines.given;
  ended : l.walk.ended ≡ l.fn.walk.ended;
}

abbrev pub decreases-loop-disk : goal.decreases-loop-disk
decreases-loop-disk g l = work (ahead l.walk)
