use Rattle.std.proofs.Common.{◌<◌, ℕ, slice_index}
use Rattle.stamp_templates.specs.Laws.{StandsAt}
use Rattle.stamp_templates.proofs.places.stands_at_some.Given as goal

abbrev pub invariant-loop-at : goal.invariant-loop-at
invariant-loop-at l = (i : ℕ) → i < l.at-index → ¬ StandsAt l.text l.stamp (slice_index l.places i)
