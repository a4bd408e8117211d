use Rattle.std.proofs.Common.{◌<◌, ℕ, get_or}
use Rattle.subquery_filter.specs.declared.token.Token.{Token}
use Rattle.subquery_filter.specs.StepsFilter.{NoneBelow}
use Rattle.subquery_filter.proofs.small.least_of.Given as goal

abbrev pub invariant-loop-token : goal.invariant-loop-token
invariant-loop-token l = (j : ℕ) (d : Token) → j < l.token-index → NoneBelow (get_or l.tokens j d) l.least
