use Rattle.std.proofs.Common.{arith}
use Rattle.token_rules.proofs.BitLemmas.{any_tested}
use Rattle.token_rules.proofs.window.any_bit.Goals as goal

pub returns : goal.returns
returns c = any_tested c.args.bits c.args.from c.args.count (omega (arith, c.requires))
