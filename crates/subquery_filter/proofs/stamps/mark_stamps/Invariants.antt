use Rattle.std.proofs.Common.{◌≤◌}
use Rattle.subquery_filter.proofs.StampLemmas.{StampsBefore}
use Rattle.subquery_filter.proofs.stamps.mark_stamps.Given as goal

abbrev pub invariant-loop-pattern : goal.invariant-loop-pattern
invariant-loop-pattern l = (1 ≤ l.pattern) × StampsBefore l.tokens l.pattern l.stamps.items
