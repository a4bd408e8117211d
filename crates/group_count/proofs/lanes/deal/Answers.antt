use Rattle.std.proofs.Common.{◌∙◌, ap, rules, subst, sym}
use Rattle.search_walk.specs.Held.{named}
use Rattle.search_walk.specs.Ready.{Serves}
use Rattle.search_walk.specs.StepsScope.{IsScope, scope}
use Rattle.log_seams.specs.Parts.{IsPart}
use Rattle.group_count.specs.StepsCounted.{IsLike}
use Rattle.group_count.specs.StepsLanes.{scope_of}
use Rattle.group_count.proofs.LaneLemmas.{dealing_end, dealing_first, dealing_next, dealing_part, none_behind, split_both}
use Rattle.group_count.proofs.lanes.deal.Goals as goal

pub loop-part-init : goal.loop-part-init
loop-part-init g c = dealing_first g.D.Part.Disk.state g.T.RowTable.counted (g.D.Disk.state c.args.lender.now) _ c.args.table.now c.args.fronts.now _ c.args.parts.items (search rules) c.requires.parts

pub new-requires-clause-scope : goal.new-requires-clause-scope
new-requires-clause-scope g c =
    let part = dealing_part g.D.Part.Disk.state g.T.RowTable.counted (g.D.Disk.state c.args.lender.now) _ c.args.table.now _ c.args.fronts.now c.loop-part.lanes.items c.loop-part.parts.items c.pop.new.self.items c.in-Some.part c.loop-part.rest.now (search rules) c.loop-part.invariant in
    subst (λ x. IsScope (named x c.args.first.now) c.args.lane.query.now c.args.lane.layouts.now c.args.lane.asked.now c.args.lane.found.now) (sym part.seen) c.requires.scope

pub new-requires-clause-serves : goal.new-requires-clause-serves
new-requires-clause-serves g c =
    let part = dealing_part g.D.Part.Disk.state g.T.RowTable.counted (g.D.Disk.state c.args.lender.now) _ c.args.table.now _ c.args.fronts.now c.loop-part.lanes.items c.loop-part.parts.items c.pop.new.self.items c.in-Some.part c.loop-part.rest.now (search rules) c.loop-part.invariant in
    subst (λ x. Serves (named x c.args.first.now) c.args.first.now) (sym part.seen) c.requires.serves

pub loop-part-preserved : goal.loop-part-preserved
loop-part-preserved g c =
    let d = g.D.Disk.state c.args.lender.now in
    let part = dealing_part g.D.Part.Disk.state g.T.RowTable.counted d _ c.args.table.now _ c.args.fronts.now c.loop-part.lanes.items c.loop-part.parts.items c.pop.new.self.items c.in-Some.part c.loop-part.rest.now (search rules) c.loop-part.invariant in
    let lane = c.new.ensures in
    dealing_next g.D.Part.Disk.state g.T.RowTable.counted d _ c.args.table.now _ c.args.fronts.now c.loop-part.lanes.items _ c.loop-part.parts.items c.pop.new.self.items c.in-Some.part c.loop-part.rest.now c.split_at.result.0.now c.split_at.result.1.now c.new.result
    (search rules) (split_both c.loop-part.rest.now c.share_of.result _ _ c.split_at.ensures.front c.split_at.ensures.back)
    (λ none. none_behind c.loop-part.rest.now _ c.share_of.result c.split_at.ensures.back (c.share_of.ensures.last (search (rules, none))))
    (ap (λ l. l.fronts) lane) (search rules)
    (record {
      is = ap (scope_of g.D.Part.Disk.state) lane ∙ ap (λ x. scope (named x c.args.first.now) c.args.lane.query.now c.args.lane.files.now) part.seen;
      part = subst (λ l. IsPart d (g.D.Part.Disk.state l.part)) (sym lane) part;
      like = subst (λ l. IsLike g.T.RowTable.counted c.args.table.now l.like) (sym lane) c.like.ensures;
    })
    c.loop-part.invariant

pub returns-clause-lanes : goal.returns-clause-lanes
returns-clause-lanes g c = c.loop-part.invariant.lanes_are

pub returns-clause-fronts : goal.returns-clause-fronts
returns-clause-fronts g c = λ some.
    dealing_end g.D.Part.Disk.state g.T.RowTable.counted (g.D.Disk.state c.args.lender.now) _ c.args.table.now _ c.args.fronts.now c.loop-part.lanes.items c.loop-part.parts.items c.loop-part.rest.now (search rules) c.loop-part.invariant some
