use Rattle.std.proofs.Common.{refl}
use Rattle.token_rules.specs.Tokens.{is_hexadecimal}
use Rattle.token_rules.proofs.LaneLemmas.{as_map, lanes, splat, classified}
use Rattle.token_rules.proofs.lanes.hexadecimals.Goals as goal

pub returns : goal.returns
returns c =
    let v = c.args.bytes in
    let long = c.fits-bytes.0 in
    let digits = lanes _ _ _ v (lanes _ _ _ v (as_map v) (splat 0x30 v long)) (splat 10 v long) in
    let letters = lanes _ _ _ v (lanes _ _ _ v (lanes _ _ _ v (as_map v) (splat 0x20 v long)) (splat 0x61 v long)) (splat 6 v long) in
    classified _ is_hexadecimal v _ c.fits-bytes (lanes _ _ _ v digits letters) refl
