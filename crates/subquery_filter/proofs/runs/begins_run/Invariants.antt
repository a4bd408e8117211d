use Rattle.std.proofs.Common.{length}
use Rattle.std.specs.Prelude.{◌↔◌}
use Rattle.barren_segments.specs.Runs.{BeginsRun}
use Rattle.subquery_filter.proofs.runs.begins_run.Given as goal

abbrev pub invariant-loop-first : goal.invariant-loop-first
invariant-loop-first l = BeginsRun l.fn.text l.fn.word ↔ BeginsRun l.rest l.left

abbrev pub decreases-loop-first : goal.decreases-loop-first
decreases-loop-first l = length l.left
