use Rattle.std.proofs.Common.{◌<◌, ℕ, get_or}
use Rattle.std.specs.Prelude.{All}
use Rattle.subquery_filter.specs.declared.token.Token.{Token}
use Rattle.subquery_filter.specs.Filter.{IsNoCode}
use Rattle.subquery_filter.proofs.needing.are_stored.Given as goal

abbrev pub invariant-loop-token : goal.invariant-loop-token
invariant-loop-token l = (j : ℕ) (d : Token) → j < l.token-index → All (IsNoCode (get_or l.tokens j d)) l.block
