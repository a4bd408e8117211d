use Rattle.std.proofs.Common.{◌-◌, ◌≤◌, length, take}
use Rattle.logtype_text.specs.TypeText.{IsTypeText}
use Rattle.logtype_text.proofs.text.lone_escape.Given as goal

abbrev pub invariant-loop-at : goal.invariant-loop-at
invariant-loop-at l = record { in_range : l.at ≤ length l.text; spelled : IsTypeText (take l.at l.text) }

abbrev pub decreases-loop-at : goal.decreases-loop-at
decreases-loop-at l = length l.text - l.at
