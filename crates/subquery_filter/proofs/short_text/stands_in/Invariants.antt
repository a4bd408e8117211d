use Rattle.std.proofs.Common.{ℕ, ◌<◌}
use Rattle.stamp_templates.specs.Laws.{StandsAt}
use Rattle.subquery_filter.proofs.short_text.stands_in.Given as goal

abbrev pub invariant-loop-at : goal.invariant-loop-at
invariant-loop-at l = (i : ℕ) → i < l.at → ¬ StandsAt l.token l.text i
