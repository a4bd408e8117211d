use Rattle.std.proofs.Common.{arith, rules}
use Rattle.subquery_filter.proofs.StampLemmas.{within_all, within_first, within_step}
use Rattle.subquery_filter.proofs.stamps.bits_within.Goals as goal

pub loop-pattern-init : goal.loop-pattern-init
loop-pattern-init c = within_first c.patterns_print_whole_moments.ensures c.args.tokens.now c.args.stamps.now c.args.head.now 0

pub loop-pattern-preserved : goal.loop-pattern-preserved
loop-pattern-preserved c =
    within_step c.patterns_print_whole_moments.ensures c.args.tokens.now c.args.stamps.now c.args.head.now c.loop-pattern.pattern c.loop-pattern.bits c.pattern_within-bits.result c.mark_at-may.result (search rules)
    c.pattern_within-bits.ensures c.loop-pattern.invariant

pub returns : goal.returns
returns c = within_all c.patterns_print_whole_moments.ensures c.args.tokens.now c.args.stamps.now c.args.head.now c.loop-pattern.pattern c.loop-pattern.bits (omega arith) c.loop-pattern.invariant
