use Rattle.query_plan.proofs.slots.plain_delimiter.Given as goal

-- nothing is kept
abbrev pub invariant-loop-at : goal.invariant-loop-at
invariant-loop-at l = Unit {0}
