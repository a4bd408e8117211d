use Rattle.std.proofs.Common.{length}
use Rattle.std.specs.Prelude.{◌↔◌}
use Rattle.row_codec.specs.StepsBody.{HasBody}
use Rattle.row_codec.proofs.fitting.words_fit.Given as goal

abbrev pub invariant-loop-symbol : goal.invariant-loop-symbol
invariant-loop-symbol g l = HasBody (g.N.Names.words l.names) l.fn.text l.fn.words ↔ HasBody (g.N.Names.words l.names) l.rest l.left

abbrev pub decreases-loop-symbol : goal.decreases-loop-symbol
decreases-loop-symbol g l = length l.rest
