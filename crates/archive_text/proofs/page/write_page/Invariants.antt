use Rattle.std.proofs.Common.{◌≡◌, drop}
use Rattle.row_codec.specs.Laid.{AreCut}
use Rattle.archive_text.specs.Ahead.{WritesRows}
use Rattle.archive_text.proofs.page.write_page.Given as goal

abbrev pub invariant-loop-place : goal.invariant-loop-place
invariant-loop-place g l = record {
  written : WritesRows (g.N.Names.types l.names) (g.N.Names.words l.names) (drop l.from l.columns.rows) (drop l.place l.columns.rows) l.fn.lines l.lines;
  types : AreCut l.writer (g.N.Names.types l.names);
  sent : l.lines.sent ≡ l.fn.lines.sent;
  given : l.lines.given ≡ l.fn.lines.given;
}
