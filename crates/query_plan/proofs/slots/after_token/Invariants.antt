use Rattle.std.proofs.Common.{◌≡◌, length}
use Rattle.query_plan.specs.Slots.{after_token}
use Rattle.query_plan.proofs.slots.after_token.Given as goal

abbrev pub decreases-loop-first : goal.decreases-loop-first
decreases-loop-first l = length l.rest

-- behind what is left the same is left
abbrev pub invariant-loop-first : goal.invariant-loop-first
invariant-loop-first l = after_token l.text ≡ after_token l.rest
