use Rattle.std.proofs.Common.{◌≡◌, ◌≤◌, length, take}
use Rattle.row_codec.specs.StepsBody.{HasBody}
use Rattle.row_codec.specs.StepsOpening.{Fills}
use Rattle.row_codec.proofs.opening.fill_body.Given as goal

abbrev pub invariant-loop-symbol : goal.invariant-loop-symbol
invariant-loop-symbol g l = record {
  fills : Fills (g.N.Names.words l.names) l.fn.text l.fn.words l.rest l.left (take l.fn.at l.fn.out) (take l.end l.out);
  has : HasBody (g.N.Names.words l.names) l.rest l.left;
  within : l.end ≤ 32;
  long : length l.out ≡ 32;
}

abbrev pub decreases-loop-symbol : goal.decreases-loop-symbol
decreases-loop-symbol g l = length l.rest
