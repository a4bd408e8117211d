use Rattle.subquery_filter.proofs.AloneLemmas.{runs_bring, runs_none}
use Rattle.subquery_filter.proofs.filter.Filter.stamped_runs.Goals as goal

pub returns-then-not-head : goal.returns-then-not-head
returns-then-not-head c = runs_none c.args.self.now c.args.head.now 0 c.if-not-head.true

pub returns : goal.returns
returns c = runs_bring c.args.self.now c.args.head.now c.runs_within.result (rw c.as_slice.ensures.value at c.runs_within.ensures)
