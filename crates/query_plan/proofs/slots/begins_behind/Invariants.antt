use Rattle.std.proofs.Common.{ℕ, ◌-◌, ◌<◌, ◌≤◌, length}
use Rattle.query_plan.specs.StepsStanding.{IsMissedBehind}
use Rattle.query_plan.proofs.slots.begins_behind.Given as goal

abbrev pub decreases-loop-ahead : goal.decreases-loop-ahead
decreases-loop-ahead l = length l.log_type - l.from

-- the text may begin at no place before this one
abbrev pub invariant-loop-ahead : goal.invariant-loop-ahead
invariant-loop-ahead l =
    (l.from ≤ length l.log_type) × ((at : ℕ) → at < l.from → IsMissedBehind l.before l.byte l.text l.log_type at)
