use Rattle.ingest_fork.proofs.WorkLemmas.{InTurn}
use Rattle.ingest_fork.proofs.works.in_turn.Given as goal

abbrev pub invariant-loop-i : goal.invariant-loop-i
invariant-loop-i g l =
    g.W.Works.ready l.worker × InTurn g.W.Works.went g.W.Works.did l.fn.worker l.fn.jobs l.fn.keepers l.worker l.jobs l.keepers l.i
