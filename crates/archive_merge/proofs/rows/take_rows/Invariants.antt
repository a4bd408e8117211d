use Rattle.std.proofs.Common.{◌≡◌, take}
use Rattle.row_rename.specs.Paths.{HasNamedMore}
use Rattle.row_rename.specs.Tables.{HasNamedBoth}
use Rattle.archive_merge.specs.InHand.{SameMarks, TakesAll}
use Rattle.archive_merge.specs.Needed.{IsTextOfRows}
use Rattle.archive_merge.proofs.rows.take_rows.Given as goal

abbrev pub invariant-loop-place : goal.invariant-loop-place
invariant-loop-place g l = record {
  version : g.N.Namer.version l.namer ≡ g.N.Namer.version l.fn.namer;
  named : HasNamedBoth (IsTextOfRows (record { types = g.M.Names.types l.names; words = g.M.Names.words l.names }) l.page.rows) (g.M.Names.types l.names) (g.M.Names.words l.names) (g.N.Namer.types l.fn.namer) (g.N.Namer.types l.namer) (g.N.Namer.words l.fn.namer) (g.N.Namer.words l.namer) l.tables;
  path : HasNamedMore g.N.Namer.naming l.fn.namer l.namer;
  marks : SameMarks l.fn.hand l.hand;
  takes : TakesAll (record { types = g.M.Names.types l.names; words = g.M.Names.words l.names })
      (record { types = (g.N.Namer.types l.fn.namer).texts; words = (g.N.Namer.words l.fn.namer).texts })
      (record { types = (g.N.Namer.types l.namer).texts; words = (g.N.Namer.words l.namer).texts })
      (take l.place l.page.rows) l.fn.hand l.hand;
}
