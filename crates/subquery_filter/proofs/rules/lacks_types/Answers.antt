use Rattle.barren_segments.specs.Barren.{HasConstants}
use Rattle.subquery_filter.proofs.RuleLemmas.{none_more, tells_not, types_have, types_lack}
use Rattle.subquery_filter.proofs.rules.lacks_types.Goals as goal

pub returns-then-has_constants : goal.returns-then-has_constants
returns-then-has_constants g c =
    types_have c.args.plan.now (g.N.Names.types c.args.names.now) c.args.types.now c.loop-place.place c.loop-place-test.true (c.has_constants.ensures.0 c.if-has_constants.true)

pub loop-place-preserved : goal.loop-place-preserved
loop-place-preserved g c =
    none_more (HasConstants c.args.plan.now (g.N.Names.types c.args.names.now)) c.args.types.now c.loop-place.place
    (tells_not c.has_constants.result c.has_constants.ensures c.if-has_constants.false) c.loop-place.invariant

pub returns : goal.returns
returns g c = types_lack c.args.plan.now (g.N.Names.types c.args.names.now) c.args.types.now c.loop-place.place c.loop-place-test.false c.loop-place.invariant
