use Rattle.std.proofs.Common.{◌<◌, ◌≤◌, ℕ}
use Rattle.stamp_templates.specs.Laws.{StandsInNone}
use Rattle.stamp_templates.proofs.places.may_stand.Given as goal

abbrev pub invariant-loop-pattern : goal.invariant-loop-pattern
invariant-loop-pattern l = (k : ℕ) → 1 ≤ k → k < l.pattern → StandsInNone k l.text
