use Rattle.std.proofs.Common.{◌≡◌}
use Rattle.log_seams.specs.Disk.{Rests}
use Rattle.archive_merge.specs.Needed.{IsNeeded}
use Rattle.archive_merge.specs.Runs.{IsReached}
use Rattle.archive_merge.specs.Sealing.{AddsTexts, IsMover}
use Rattle.archive_merge.specs.Taken.{texts_by}
use Rattle.archive_merge.proofs.FileLemmas.{FileUnderWay}
use Rattle.archive_merge.proofs.file.move_file.Given as goal

abbrev pub invariant-loop-place : goal.invariant-loop-place
invariant-loop-place g l = record {
  rests : Rests (g.E.Disk.state l.fn.disk) (g.E.Disk.state l.disk);
  mover : IsMover (g.M.Names.version l.names) (texts_by g.M.Names.types g.M.Names.words l.names) l.keeper l.namer l.taker;
  named : AddsTexts (IsNeeded (texts_by g.M.Names.types g.M.Names.words l.names) (g.E.Disk.state l.fn.disk).seen (IsReached (g.M.Names.version l.names) (texts_by g.M.Names.types g.M.Names.words l.names) l.places (g.E.Disk.state l.fn.disk).seen l.file.messages))
      l.fn.namer l.namer;
  way : FileUnderWay g.D.Disk.state (g.M.Names.version l.names) (texts_by g.M.Names.types g.M.Names.words l.names) l.places (g.E.Disk.state l.fn.disk).seen l.fn.keeper l.place-index l.keeper l.file l.hand;
  disk : (g.E.Disk.state l.disk).faults ≡ (g.E.Disk.state l.fn.disk).faults;
}
