use Rattle.std.proofs.Common.{◌∙◌, rules, subst, sym}
use Rattle.search_walk.specs.Ready.{Serves}
use Rattle.search_walk.specs.Held.{named}
use Rattle.search_walk.specs.StepsScope.{IsScope}
use Rattle.search_engine.proofs.PartLemmas.{lends_on, lent_lanes, lent_none, lent_push}
use Rattle.search_engine.proofs.parts.lend_lanes.Goals as goal

pub loop-init : goal.loop-init
loop-init g c = lent_none g.D.Part.Disk.state (g.D.Disk.state c.args.disk.now) _ _ (search rules)

pub new-requires-clause-scope : goal.new-requires-clause-scope
new-requires-clause-scope g c =
    subst (λ x. IsScope (named x c.args.first.now) c.args.lane.query.now c.args.lane.layouts.now c.args.lane.asked.now c.args.lane.found.now) (sym (c.in-Some.ensures.part.seen ∙ c.loop.invariant.lends.rests.seen)) c.requires.scope

pub new-requires-clause-serves : goal.new-requires-clause-serves
new-requires-clause-serves g c =
    subst (λ h. Serves (named (g.D.Part.Disk.state c.in-Some.part).seen c.args.first.now) h) (sym (search rules))
    (subst (λ x. Serves (named x c.args.first.now) c.args.first.now) (sym (c.in-Some.ensures.part.seen ∙ c.loop.invariant.lends.rests.seen)) c.requires.serves)

pub loop-preserved : goal.loop-preserved
loop-preserved g c =
    lent_push g.D.Part.Disk.state (g.D.Disk.state c.args.disk.now) (g.D.Disk.state c.loop.disk) (g.D.Disk.state c.part.new.self) _ c.loop.lanes.items _ c.new.result c.part.ensures.lends (search rules) (search rules) (search rules) (search rules) c.loop.invariant

pub returns-in_default-clause-lanes : goal.returns-in_default-clause-lanes
returns-in_default-clause-lanes g c = λ fronts.
    lent_lanes g.D.Part.Disk.state (g.D.Disk.state c.args.disk.now) (g.D.Disk.state c.part.new.self) _ fronts c.loop.lanes.items
    (lends_on (g.D.Disk.state c.args.disk.now) (g.D.Disk.state c.loop.disk) (g.D.Disk.state c.part.new.self) c.loop.invariant.lends c.part.ensures.lends) (c.loop.invariant.are fronts)

pub returns-clause-lanes : goal.returns-clause-lanes
returns-clause-lanes g c = λ fronts. lent_lanes g.D.Part.Disk.state (g.D.Disk.state c.args.disk.now) (g.D.Disk.state c.loop.disk) _ fronts c.loop.lanes.items c.loop.invariant.lends (c.loop.invariant.are fronts)
