use Rattle.std.proofs.Common.{◌≡◌, ◌-◌}
use Rattle.line_cut.specs.Length.{bytes_left}
use Rattle.line_cut.specs.StepsJoining.{Growing}
use Rattle.line_cut.proofs.join.join_lines.Given as goal

abbrev pub invariant-lines : goal.invariant-lines
invariant-lines g l = record {
  growing : Growing (g.T.Heads.starts l.heads) l.max_line l.window.held l.len l.lines;
  left : bytes_left l.window.held (g.S.Source.left l.source) ≡ bytes_left l.initial.window.held (g.S.Source.left l.initial.source);
  size : l.window.size ≡ l.initial.window.size;
  name : g.S.Source.name l.source ≡ g.S.Source.name l.initial.source;
  faults : g.S.Source.faults l.source ≡ g.S.Source.faults l.initial.source;
}

abbrev pub decreases-lines : goal.decreases-lines
decreases-lines g l = l.max_line - l.len
