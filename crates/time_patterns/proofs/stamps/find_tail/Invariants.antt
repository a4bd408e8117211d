use Rattle.time_patterns.specs.Steps.{LackTails}
use Rattle.time_patterns.proofs.stamps.find_tail.Given as goal

-- no pattern so far has the shape and a tail there
abbrev pub invariant-loop-pattern : goal.invariant-loop-pattern
invariant-loop-pattern l = LackTails l.shape l.first l.pattern l.text
