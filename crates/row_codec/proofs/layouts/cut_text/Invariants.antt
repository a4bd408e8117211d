use Rattle.std.proofs.Common.{length}
use Rattle.row_codec.specs.StepsLayouts.{IsCutUpTo}
use Rattle.row_codec.proofs.layouts.cut_text.Given as goal

abbrev pub invariant-loop-symbol : goal.invariant-loop-symbol
invariant-loop-symbol l = IsCutUpTo l.text l.rest l.start l.fn.bytes.items l.bytes.items l.fn.pieces.items l.pieces.items

abbrev pub decreases-loop-symbol : goal.decreases-loop-symbol
decreases-loop-symbol l = length l.rest
