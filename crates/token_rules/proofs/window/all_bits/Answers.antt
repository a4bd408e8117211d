use Rattle.std.proofs.Common.{◌∙◌, not, ap, arith}
use Rattle.token_rules.proofs.BitLemmas.{all_turned}
use Rattle.token_rules.proofs.window.all_bits.Goals as goal

pub returns : goal.returns
returns c = ap not c.any_bit.ensures ∙ all_turned c.args.bits c.args.from c.args.count c.ranges.bits.fits (omega (arith, c.requires))
