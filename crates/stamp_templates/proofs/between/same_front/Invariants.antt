use Rattle.std.proofs.Common.{◌≤◌, length}
use Rattle.stamp_templates.specs.StepsBetween.{AreSame}
use Rattle.stamp_templates.proofs.between.same_front.Given as goal

abbrev pub invariant-loop-place : goal.invariant-loop-place
invariant-loop-place l = (l.place ≤ length l.other) × AreSame l.one l.other l.place
