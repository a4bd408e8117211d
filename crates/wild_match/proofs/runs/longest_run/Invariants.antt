use Rattle.wild_match.proofs.Literal.{Kept}
use Rattle.wild_match.proofs.runs.longest_run.Given as goal

abbrev pub invariant-loop-i : goal.invariant-loop-i
invariant-loop-i l = Kept l.items l.start l.best.start l.best.len l.i
