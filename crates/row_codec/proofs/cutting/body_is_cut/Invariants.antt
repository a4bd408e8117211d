use Rattle.std.proofs.Common.{length}
use Rattle.std.specs.Prelude.{◌↔◌, None}
use Rattle.row_codec.specs.StepsCut.{IsCutAt, IsCutText}
use Rattle.row_codec.proofs.cutting.body_is_cut.Given as goal

abbrev pub invariant-loop-at : goal.invariant-loop-at
invariant-loop-at g l = IsCutText (g.N.Names.words l.names) None l.fn.text l.fn.words ↔ IsCutAt (g.N.Names.words l.names) l.at

abbrev pub decreases-loop-at : goal.decreases-loop-at
decreases-loop-at g l = length l.at.rest.now
