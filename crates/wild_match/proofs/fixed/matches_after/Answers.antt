use Rattle.std.proofs.Common.{◌<◌, ◌+◌, length, arith, length-drop}
use Rattle.std.proofs.lemmas.Bool.{false≢true}
use Rattle.std.proofs.lemmas.List.{take_rest}
use Rattle.wild_match.proofs.Matching.{after_none, after_some}
use Rattle.wild_match.proofs.fixed.matches_after.Goals as goal

pub returns-in-None : goal.returns-in-None
returns-in-None c =
    let n = c.fixed_len-end.result in
    let lt : n < length c.pieces.rest.now = omega arith in
    let none = c.in-None.ensures.first in (
      λ no. absurd (false≢true no),
      λ m. absurd (after_none c.pieces.rest.now c.pieces.left.now n c.fixed_len-end.ensures.within c.fixed_len-end.ensures.fixed (c.fixed_len-end.ensures.many lt) none (c.pieces.invariant.needed m)),
    )

pub pieces-preserved : goal.pieces-preserved
pieces-preserved c =
    let n = c.fixed_len-end.result in
    let k = c.in-Some.at in
    let lt : n < length c.pieces.rest.now = omega arith in
    let first = c.in-Some.ensures.first in
    let both = after_some c.pieces.rest.now c.pieces.left.now n c.fixed_len-end.ensures.within c.fixed_len-end.ensures.fixed (c.fixed_len-end.ensures.many lt) k first in
    rw (take_rest c.pieces.rest.now (n + 1), take_rest c.pieces.left.now (k + n))
    record {
      enough = λ m. c.pieces.invariant.enough (both.1 m);
      needed = λ m. both.0 (c.pieces.invariant.needed m);
      items = omega (arith, length-drop (n + 1) c.pieces.rest.now);
      bytes = omega (arith, length-drop (k + n) c.pieces.left.now);
    }
