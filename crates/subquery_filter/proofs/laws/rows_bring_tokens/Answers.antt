use Rattle.subquery_filter.proofs.TokenLemmas.{rows_bring_tokens}
use Rattle.subquery_filter.proofs.laws.rows_bring_tokens.Goals as goal

pub returns : goal.returns
returns c = rows_bring_tokens c.tokens_are_brought.ensures.stand
