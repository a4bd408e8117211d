use Rattle.std.proofs.Common.{◌≡◌, length}
use Rattle.subquery_filter.specs.Filter.{AreNeeds}
use Rattle.subquery_filter.proofs.filter.Filter.type_needs.Given as goal

abbrev pub invariant-loop-place : goal.invariant-loop-place
invariant-loop-place l = (length l.needs.items ≡ l.place) × AreNeeds l.self l.verdicts l.needs.items
