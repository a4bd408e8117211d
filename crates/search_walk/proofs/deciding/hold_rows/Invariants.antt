use Rattle.std.proofs.Common.{◌≡◌, take}
use Rattle.std.specs.List.{AllZip}
use Rattle.log_seams.specs.Disk.{Rests}
use Rattle.word_places.specs.Held.{Grow}
use Rattle.word_places.specs.Reads.{ReadsWords}
use Rattle.search_walk.specs.Ready.{IsReady, Serves}
use Rattle.search_walk.proofs.deciding.hold_rows.Given as goal

abbrev pub invariant-loop-place : goal.invariant-loop-place
invariant-loop-place g l = record {
  rests : Rests (g.D.Disk.state l.fn.disk) (g.D.Disk.state l.disk);
  faults : (g.D.Disk.state l.disk).faults ≡ (g.D.Disk.state l.fn.disk).faults;
  reads : ReadsWords l.context.names.places (g.D.Disk.state l.fn.disk) (g.D.Disk.state l.disk);
  serves : Serves l.context.names l.held;
  grow : Grow l.fn.held.records l.held.records;
  ready : AllZip (IsReady l.context.names l.context.query l.held.records) (take l.place l.page.rows) (take l.place l.verdicts);
}
