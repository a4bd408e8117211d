use Rattle.std.proofs.Common.{ℕ, refl}
use Rattle.token_rules.specs.Tokens.{is_token_byte}
use Rattle.token_rules.proofs.LaneLemmas.{as_map, hit, lanes, splat, classified}
use Rattle.token_rules.proofs.lanes.tokens.Goals as goal

pub returns : goal.returns
unfolding is_token_byte
returns c =
    let v = c.args.bytes in
    let long = c.fits-bytes.0 in
    let digits = lanes _ _ _ v (lanes _ _ _ v (as_map v) (splat 0x30 v long)) (splat 10 v long) in
    let letters = lanes _ _ _ v (lanes _ _ _ v (lanes _ _ _ v (as_map v) (splat 0x20 v long)) (splat 0x61 v long)) (splat 26 v long) in
    let is = λ (y : ℕ). lanes hit _ _ v (as_map v) (splat y v long) in
    let marks = lanes _ _ _ v (lanes _ _ _ v (lanes _ _ _ v (lanes _ _ _ v (is 0x2B) (is 0x2D)) (is 0x2E)) (is 0x5C)) (is 0x5F) in
    classified _ is_token_byte v _ c.fits-bytes (lanes _ _ _ v (lanes _ _ _ v digits letters) marks) refl
