use Rattle.std.proofs.Common.{◌≡◌, ◌+◌}
use Rattle.group_count.proofs.joining.tick_times.Given as goal

abbrev pub invariant-loop : goal.invariant-loop
invariant-loop g l = l.steps ≡ l.fn.steps + l.counter
