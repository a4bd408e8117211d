use Rattle.std.proofs.Common.{arith, refl, rules}
use Rattle.subquery_filter.proofs.StampLemmas.{stamps_end, stamps_first, stamps_step}
use Rattle.subquery_filter.proofs.stamps.mark_stamps.Goals as goal

pub loop-pattern-init : goal.loop-pattern-init
loop-pattern-init c = (omega arith, stamps_first c.args.tokens.now _ c.new-stamps.result.items c.push.new.self.items c.stamp_marks.result c.new-stamps.ensures.items c.in_ok-push.ensures.items refl c.stamp_marks.ensures)

pub loop-pattern-preserved : goal.loop-pattern-preserved
loop-pattern-preserved c = (
  omega (arith, c.loop-pattern.invariant.0),
  stamps_step c.args.tokens.now c.loop-pattern.pattern c.loop-pattern.stamps.items c.push-in-loop-pattern.new.self.items c.pattern_bits.result c.loop-pattern.invariant.0 c.in_ok-push-2.ensures.items c.pattern_bits.ensures c.loop-pattern.invariant.1,
)

pub returns : goal.returns
returns c = stamps_end c.patterns_print_whole_moments.ensures c.args.tokens.now c.loop-pattern.pattern c.loop-pattern.stamps.items (search rules) c.loop-pattern.invariant.1
