use Rattle.std.proofs.Common.{ℕ, refl}
use Rattle.std.proofs.lemmas.Simd.{splat_is_map}
use Rattle.logtype_text.specs.TypeText.{is_escaped}
use Rattle.token_rules.proofs.LaneLemmas.{as_map, hit, lanes}
use Rattle.logtype_text.proofs.LaneLemmas.{classified}
use Rattle.logtype_text.proofs.plain.escaped.Goals as goal

pub returns : goal.returns
returns c =
    let v = c.args.bytes in
    let splat = λ (y : ℕ). splat_is_map v 16 y c.fits-bytes.0 in
    let placeholders = lanes _ _ _ v (lanes _ _ _ v (as_map v) (splat 0x11)) (splat 3) in
    let escapes = lanes hit _ _ v (as_map v) (splat 0x5C) in
    classified _ is_escaped v _ c.fits-bytes (lanes _ _ _ v placeholders escapes) refl
