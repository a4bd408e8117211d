use Rattle.std.proofs.Common.{rules, subst}
use Rattle.log_seams.specs.Parts.{TakesBack}
use Rattle.group_count.proofs.PartLemmas.{back_end, back_none, back_on}
use Rattle.group_count.proofs.lanes.take_back_all.Goals as goal

pub loop-lane-init : goal.loop-lane-init
loop-lane-init g c = back_none g.D.Part.Disk.state (g.D.Disk.state c.args.disk.now) c.args.lanes.items

pub loop-lane-preserved : goal.loop-lane-preserved
loop-lane-preserved g c =
    back_on g.D.Part.Disk.state (g.D.Disk.state c.args.disk.now) (g.D.Disk.state c.loop-lane.disk) (g.D.Disk.state c.take_back.new.self) c.args.lanes.items c.loop-lane.lanes.items c.pop.new.self.items c.in-Some.lane (search rules)
    (subst (λ p. TakesBack (g.D.Part.Disk.state p) (g.D.Disk.state c.loop-lane.disk) (g.D.Disk.state c.take_back.new.self)) c.into_part.ensures c.take_back.ensures) c.loop-lane.invariant

pub returns-clause-rests : goal.returns-clause-rests
returns-clause-rests g c = c.loop-lane.invariant.rests

pub returns-clause-reads : goal.returns-clause-reads
returns-clause-reads g c = λ s fronts are. (c.loop-lane.invariant.reads s fronts are).0

pub returns-clause-later : goal.returns-clause-later
returns-clause-later g c = c.loop-lane.invariant.later

pub returns-clause-steady : goal.returns-clause-steady
returns-clause-steady g c = λ none. (c.loop-lane.invariant.steady none).0

pub returns-clause-rose : goal.returns-clause-rose
returns-clause-rose g c = back_end g.D.Part.Disk.state (g.D.Disk.state c.args.disk.now) (g.D.Disk.state c.loop-lane.disk) c.args.lanes.items c.loop-lane.lanes.items (search rules) c.loop-lane.invariant
