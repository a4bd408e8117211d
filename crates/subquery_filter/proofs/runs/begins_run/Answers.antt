use Rattle.std.proofs.Common.{rules}
use Rattle.subquery_filter.proofs.RunLemmas.{begins_end}
use Rattle.subquery_filter.proofs.runs.begins_run.Goals as goal

pub returns : goal.returns
returns c = begins_end c.loop-first.rest.now c.loop-first.left.now (search rules) c.is_run_end.ensures c.loop-first.invariant
