use Rattle.std.proofs.Common.{length}
use Rattle.std.specs.Prelude.{◌↔◌}
use Rattle.barren_segments.specs.Runs.{HoldsRun, HoldsRunFrom}
use Rattle.subquery_filter.proofs.runs.is_run.Given as goal

abbrev pub invariant-loop-rest : goal.invariant-loop-rest
invariant-loop-rest l = HoldsRun l.fn.text l.fn.word ↔ HoldsRunFrom l.may_begin l.rest l.fn.word

abbrev pub decreases-loop-rest : goal.decreases-loop-rest
decreases-loop-rest l = length l.rest
