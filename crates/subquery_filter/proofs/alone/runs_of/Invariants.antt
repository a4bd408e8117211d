use Rattle.std.proofs.Common.{take}
use Rattle.subquery_filter.specs.Filter.{AreRuns}
use Rattle.subquery_filter.specs.StepsFilter.{EndsRun}
use Rattle.subquery_filter.proofs.alone.runs_of.Given as goal

abbrev pub invariant-loop-place : goal.invariant-loop-place
invariant-loop-place l = AreRuns l.pieces l.runs.items × EndsRun (take l.place l.pieces) l.front.items
