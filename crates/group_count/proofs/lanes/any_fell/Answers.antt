use Rattle.std.proofs.Common.{arith, rules, sym}
use Rattle.group_count.proofs.LaneLemmas.{stood_next}
use Rattle.group_count.proofs.lanes.any_fell.Goals as goal

pub loop-lane-init : goal.loop-lane-init
loop-lane-init g c = λ k lt d. absurd (omega (arith, lt))

pub loop-lane-preserved : goal.loop-lane-preserved
loop-lane-preserved g c = stood_next c.args.lanes.now c.loop-lane.lane-index _ (search rules) c.lane-item.is c.loop-lane.invariant (c.fell.ensures.no (search rules))

pub returns-then-fell-clause-yes : goal.returns-then-fell-clause-yes
returns-then-fell-clause-yes g c = λ _. (_, (c.loop-lane.lane-index, search rules, sym c.lane-item.is), c.fell.ensures.yes (search rules))

pub returns-clause-no : goal.returns-clause-no
returns-clause-no g c = λ _ k d lt. c.loop-lane.invariant k (search (rules, lt)) d
