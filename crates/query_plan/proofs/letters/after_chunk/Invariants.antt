use Rattle.std.proofs.Common.{length}
use Rattle.query_plan.specs.StepsOfMatching.{Front}
use Rattle.query_plan.proofs.letters.after_chunk.Given as goal

-- what was passed over matched
abbrev pub invariant-loop-first : goal.invariant-loop-first
invariant-loop-first g l = Front l.fn.items (g.T.Letters.rest l.fn.start) l.rest (g.T.Letters.rest l.text)

abbrev pub decreases-loop-first : goal.decreases-loop-first
decreases-loop-first g l = length l.rest
