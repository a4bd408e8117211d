use Rattle.std.proofs.Common.{rules}
use Rattle.host_files.proofs.OffsetLemmas.{Filled-more, Filled-same}
use Rattle.host_files.proofs.offsets.read_full.Goals as goal
use Rattle.host_files.proofs.offsets.read_full.Goals.{in-Ok, in-Err}

pub loop-preserved : goal.loop-preserved
loop-preserved g c =
    elim c.match-read_some.branch [
      | in-Ok w ↦ (search rules, search rules, search rules, search rules, rw w.filled-is (Filled-more _ _ _ _ _ _ _ (search rules) (search rules) c.loop.invariant.4 (rw c.loop.invariant.2 at w.in-Ok.ensures.told)))
      | in-Err w ↦ (search rules, search rules, search rules, search rules, rw w.filled-is (Filled-same _ _ _ _ _ _ (search rules) c.loop.invariant.4))
    ]
