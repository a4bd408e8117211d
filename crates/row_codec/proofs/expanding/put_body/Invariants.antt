use Rattle.std.proofs.Common.{length}
use Rattle.row_codec.specs.StepsBody.{Puts}
use Rattle.row_codec.proofs.expanding.put_body.Given as goal

abbrev pub invariant-loop-symbol : goal.invariant-loop-symbol
invariant-loop-symbol g l = Puts (g.N.Names.words l.names) l.fn.text l.fn.words l.rest l.left l.fn.out.items l.out.items

abbrev pub decreases-loop-symbol : goal.decreases-loop-symbol
decreases-loop-symbol g l = length l.rest
