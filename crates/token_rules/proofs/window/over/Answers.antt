use Rattle.std.proofs.Common.{arith}
use Rattle.std.proofs.lemmas.Simd.{get_or-chunk}
use Rattle.token_rules.proofs.window.over.Goals as goal

pub of-requires : goal.of-requires
of-requires c k l = get_or-chunk c.args.at 64 c.args.body.now k 0 l

pub of-requires-then-body-ge-SIZE : goal.of-requires-then-body-ge-SIZE
of-requires-then-body-ge-SIZE c k l = get_or-chunk _ 64 c.args.body.now k 0 l

pub moved-requires-clause-later : goal.moved-requires-clause-later
moved-requires-clause-later c =
    let left = c.if-left-ge-SIZE.false in
    let long = c.if-body-ge-SIZE.true in
    let at = c.of-then-body-ge-SIZE.ensures.at in
    (omega (arith, at, left, long, c.requires.inside), omega (arith, at, left, long, c.requires.later long))
