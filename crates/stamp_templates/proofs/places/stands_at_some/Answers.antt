use Rattle.std.proofs.Common.{arith}
use Rattle.stamp_templates.proofs.SearchLemmas.{some_none}
use Rattle.stamp_templates.proofs.places.stands_at_some.Goals as goal

pub returns-clause-none : goal.returns-clause-none
returns-clause-none c = λ _.
    some_none c.matches_stand.ensures c.places_fit.ensures c.args.stamp.now c.args.text.now c.args.places.now c.loop-at.at-index (omega arith) c.loop-at.invariant
