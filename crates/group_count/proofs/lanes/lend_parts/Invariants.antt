use Rattle.std.proofs.Common.{◌≤◌, length}
use Rattle.group_count.proofs.PartLemmas.{Lent}
use Rattle.group_count.proofs.lanes.lend_parts.Given as goal

abbrev pub invariant-loop : goal.invariant-loop
invariant-loop g l = Lent g.D.Part.Disk.state (g.D.Disk.state l.fn.disk) (g.D.Disk.state l.disk) l.parts.items × (length l.parts.items ≤ l.counter)
