use Rattle.std.proofs.Common.{length}
use Rattle.row_codec.specs.StepsLayouts.{spelled}
use Rattle.row_codec.proofs.LayoutLemmas.{IsPutUpTo}
use Rattle.row_codec.proofs.writer.put_layout.Given as goal

abbrev pub invariant-loop-piece : goal.invariant-loop-piece
invariant-loop-piece g l = IsPutUpTo (g.N.Names.words l.names) (spelled l.fn.layout.bytes.now l.fn.layout.pieces.now) l.fn.words l.rest l.others l.left l.fn.out.items l.out.items

abbrev pub decreases-loop-piece : goal.decreases-loop-piece
decreases-loop-piece g l = length l.others
