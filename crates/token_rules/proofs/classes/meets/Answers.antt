use Rattle.std.proofs.Common.{rules}
use Rattle.token_rules.specs.Classes.{meets}
use Rattle.token_rules.proofs.classes.meets.Goals as goal

pub returns : goal.returns
unfolding meets
returns c = search rules
