use Rattle.std.proofs.Common.{◌≡◌, length}
use Rattle.subquery_filter.specs.Filter.{AreSmall, IsLeast}
use Rattle.subquery_filter.proofs.small.mark_small.Given as goal

abbrev pub invariant-loop-word : goal.invariant-loop-word
invariant-loop-word l = (length l.small.items ≡ l.word) × (IsLeast l.tokens l.least → AreSmall l.tokens l.small.items)
