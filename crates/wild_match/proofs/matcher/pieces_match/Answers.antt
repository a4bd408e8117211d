use Rattle.std.proofs.Common.{◌+◌, length, arith, length-drop}
use Rattle.std.proofs.lemmas.Bool.{false≢true}
use Rattle.std.proofs.lemmas.List.{take_rest}
use Rattle.wild_match.proofs.Matching.{piece_none, piece_some}
use Rattle.wild_match.proofs.matcher.pieces_match.Goals as goal

pub returns-in-None : goal.returns-in-None
returns-in-None c = (
  λ no. absurd (false≢true no),
  λ m. absurd (piece_none c.args.pieces.now c.args.tail.now c.loop-piece.left.now c.loop-piece.piece-index c.piece-item.result c.loop-piece-test.true c.piece-item.is c.in-None.ensures.fixed c.in-None.ensures.first (c.loop-piece.invariant.needed m)),
)

pub loop-piece-preserved : goal.loop-piece-preserved
loop-piece-preserved c =
    let i = c.loop-piece.piece-index in
    let k = c.in-Some.at in
    let both = piece_some c.args.pieces.now c.args.tail.now c.loop-piece.left.now i c.piece-item.result c.loop-piece-test.true c.piece-item.is c.in-Some.ensures.fixed k c.in-Some.ensures.first in
    rw (take_rest c.loop-piece.left.now (k + c.len.result), c.len.ensures)
    record {
      enough = λ m. c.loop-piece.invariant.enough (both.1 m);
      needed = λ m. both.0 (c.loop-piece.invariant.needed m);
      bytes = omega (arith, length-drop (k + length c.piece-item.result) c.loop-piece.left.now);
    }
