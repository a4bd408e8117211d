use Rattle.std.proofs.Common.{◌<◌, ◌+◌, ◌∷◌, ◌++◌, length, drop, arith, length-drop, sym, ap, ◌∙◌}
use Rattle.std.proofs.lemmas.List.{take_rest}
use Rattle.wild_match.specs.declared.pattern.Item.TheVariants.{Many}
use Rattle.wild_match.specs.Matches.{joined}
use Rattle.wild_match.proofs.Matching.{joined-more, split_at_many}
use Rattle.wild_match.proofs.matcher.cut.Goals as goal

pub pieces-preserved : goal.pieces-preserved
pieces-preserved c =
    let n = c.fixed_len-end.result in
    let rest = c.pieces.rest.now in
    let lt : n < length rest = omega arith in
    let behind = drop (n + 1) rest in
    let whole = split_at_many rest n (c.fixed_len-end.ensures.many lt) in
    rw (take_rest rest (n + 1), c.in_ok-push.ensures.items)
    record {
      told =
          joined-more c.pieces.pieces.items c.in_ok-piece.piece behind
          ∙ (ap (λ p. joined c.pieces.pieces.items (p ++ Many ∷ behind)) c.in_ok-piece.ensures ∙ (ap (joined c.pieces.pieces.items) (sym whole) ∙ c.pieces.invariant.told));
      short = omega (arith, length-drop (n + 1) rest);
    }
