use Rattle.subquery_filter.specs.Filter.{NoneCounts}
use Rattle.subquery_filter.proofs.filter.Filter.past.Given as goal

abbrev pub invariant-loop-step : goal.invariant-loop-step
invariant-loop-step l = NoneCounts l.self l.words l.from l.at
