use Rattle.subquery_filter.proofs.AroundLemmas.{RunSoFar}
use Rattle.subquery_filter.proofs.beside.push_run.Given as goal

abbrev pub invariant-loop-place : goal.invariant-loop-place
invariant-loop-place l = RunSoFar l.pieces l.from l.place l.fn.text.items l.text.items
