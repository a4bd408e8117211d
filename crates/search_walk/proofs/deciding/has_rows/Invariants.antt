use Rattle.std.proofs.Common.{take}
use Rattle.search_walk.specs.Ready.{AreHeldFor}
use Rattle.search_walk.proofs.deciding.has_rows.Given as goal

abbrev pub invariant-loop-place : goal.invariant-loop-place
invariant-loop-place l = AreHeldFor l.held (take l.place l.page.rows) (take l.place l.verdicts)
