use Rattle.std.proofs.Common.{take}
use Rattle.subquery_filter.specs.StepsFilter.{AreTokens, EndsRun}
use Rattle.subquery_filter.proofs.tokens.tokens_of.Given as goal

abbrev pub invariant-loop-place : goal.invariant-loop-place
invariant-loop-place l = AreTokens l.pieces l.tokens.items × EndsRun (take l.place l.pieces) l.front.items
