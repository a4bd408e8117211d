use Rattle.std.proofs.Common.{◌∙◌}
use Rattle.token_rules.proofs.BitLemmas.{test-moved, test-above}
use Rattle.token_rules.proofs.window.moved_down.Goals as goal

pub returns-clause-kept : goal.returns-clause-kept
returns-clause-kept c k = test-moved c.args.bits c.args.by k

pub returns-clause-above : goal.returns-clause-above
returns-clause-above c k high = test-moved c.args.bits c.args.by k ∙ test-above c.args.bits _ c.ranges.bits.fits high
