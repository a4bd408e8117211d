use Rattle.std.proofs.Common.{◌≡◌, ◌+◌, ◌-◌, ◌≤◌, length, take, drop}
use Rattle.log_messages.specs.Messages.{IsLine}
use Rattle.line_cut.specs.Length.{bytes_left}
use Rattle.line_cut.proofs.find_end.find_end.Given as goal

abbrev pub invariant-reads : goal.invariant-reads
invariant-reads g l = record {
  front : take (length l.initial.window.held) l.window.held ≡ l.initial.window.held;
  more : length l.initial.window.held ≤ length l.window.held;
  within : l.from + l.searched ≤ length l.window.held;
  searched : IsLine (take l.searched (drop l.from l.window.held));
  short : l.searched ≤ l.max_line;
  left : bytes_left l.window.held (g.S.Source.left l.source) ≡ bytes_left l.initial.window.held (g.S.Source.left l.initial.source);
  size : l.window.size ≡ l.initial.window.size;
  name : g.S.Source.name l.source ≡ g.S.Source.name l.initial.source;
  faults : g.S.Source.faults l.source ≡ g.S.Source.faults l.initial.source;
}

abbrev pub decreases-reads : goal.decreases-reads
decreases-reads g l = l.from + l.max_line + 1 - length l.window.held
