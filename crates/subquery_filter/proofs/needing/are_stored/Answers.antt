use Rattle.std.proofs.Common.{◌≤◌, arith, length, rules}
use Rattle.subquery_filter.proofs.needing.are_stored.Goals as goal

pub returns : goal.returns
returns c = λ none j d lt.
    let end : length c.args.tokens.now ≤ c.loop-token.token-index = search rules in
    c.loop-token.invariant j d (omega (arith, lt, end))
