use Rattle.std.proofs.Common.{◌≡◌, ◌+◌}
use Rattle.search_engine.proofs.gathering.tick_times.Given as goal

abbrev pub invariant-loop : goal.invariant-loop
invariant-loop g l = l.expanded ≡ l.fn.expanded + l.counter
