use Rattle.std.proofs.Common.{rules}
use Rattle.group_count.proofs.PartLemmas.{lends_on, lent_none, lent_push}
use Rattle.group_count.proofs.lanes.lend_parts.Goals as goal

pub loop-init : goal.loop-init
loop-init g c = (lent_none g.D.Part.Disk.state (g.D.Disk.state c.args.disk.now) _ (search rules), search rules)

pub loop-preserved : goal.loop-preserved
loop-preserved g c = (
  lent_push g.D.Part.Disk.state (g.D.Disk.state c.args.disk.now) (g.D.Disk.state c.loop.disk) (g.D.Disk.state c.part.new.self) c.loop.parts.items _ c.in-Some.part c.part.ensures.lends c.in-Some.ensures.part (search rules) c.loop.invariant.0,
  search rules,
)

pub returns-in_default-clause-lends : goal.returns-in_default-clause-lends
returns-in_default-clause-lends g c = lends_on (g.D.Disk.state c.args.disk.now) (g.D.Disk.state c.loop.disk) (g.D.Disk.state c.part.new.self) c.loop.invariant.0.lends c.part.ensures.lends

pub returns-in_default-clause-parts : goal.returns-in_default-clause-parts
returns-in_default-clause-parts g c = c.loop.invariant.0.are

pub returns-clause-parts : goal.returns-clause-parts
returns-clause-parts g c = c.loop.invariant.0.are
