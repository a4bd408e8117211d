use Rattle.std.proofs.Common.{arith, rules}
use Rattle.subquery_filter.proofs.SlotLemmas.{summed_step}
use Rattle.subquery_filter.proofs.slots.sums_from.Goals as goal

pub loop-at-init : goal.loop-at-init
loop-at-init c = λ at slot from to there. absurd (omega (arith, from, to))

pub loop-at-preserved : goal.loop-at-preserved
loop-at-preserved c =
    let l = c.loop-at in
    summed_step c.args.slots.now c.args.first l.at l.sums c.with-sums.result c.slot_here.result c.slot_here.ensures c.with-sums.ensures.more c.with-sums.ensures.slot l.invariant

pub returns : goal.returns
returns c = λ at slot from to there. c.loop-at.invariant at slot from (search rules) there
