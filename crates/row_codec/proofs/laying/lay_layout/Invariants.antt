use Rattle.std.proofs.Common.{◌≡◌, ◌≤◌, length, take}
use Rattle.row_codec.specs.StepsLayouts.{spelled}
use Rattle.row_codec.proofs.LayoutLemmas.{IsPutUpTo}
use Rattle.row_codec.proofs.laying.lay_layout.Given as goal

abbrev pub invariant-loop-piece : goal.invariant-loop-piece
invariant-loop-piece g l = record {
  puts : IsPutUpTo (g.N.Names.words l.names) (spelled l.fn.layout.bytes.now l.fn.layout.pieces.now) l.fn.words l.rest l.others l.left (take l.fn.at l.fn.out) (take l.end l.out);
  within : l.end ≤ 1024;
  long : length l.out ≡ 1024;
}

abbrev pub decreases-loop-piece : goal.decreases-loop-piece
decreases-loop-piece g l = length l.others
