use Rattle.token_rules.proofs.BitLemmas.{set_run}
use Rattle.token_rules.proofs.window.set_from.Goals as goal

pub returns-clause-bound : goal.returns-clause-bound
returns-clause-bound c = (set_run c.args.bits c.args.from c.ranges.bits.fits c.requires).0

pub returns-clause-set : goal.returns-clause-set
returns-clause-set c = (set_run c.args.bits c.args.from c.ranges.bits.fits c.requires).1

pub returns-clause-clear : goal.returns-clause-clear
returns-clause-clear c = (set_run c.args.bits c.args.from c.ranges.bits.fits c.requires).2
