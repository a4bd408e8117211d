use Rattle.std.proofs.Common.{rules}
use Rattle.std.specs.Prelude.{◌↔◌, IsTrue}
use Rattle.wild_match.specs.Matches.{Match}
use Rattle.subquery_filter.proofs.StoredLemmas.{token_stored}
use Rattle.subquery_filter.proofs.RuleLemmas.{tells_not}
use Rattle.subquery_filter.proofs.tokens.gift_of.Goals as goal

pub returns-else-matches : goal.returns-else-matches
returns-else-matches c = λ typed stands.
    let tells : IsTrue c.matches.result ↔ Match c.args.token.now.storing.items c.args.text.now = search rules in
    absurd (tells_not c.matches.result tells c.if-matches.false (token_stored c.args.token.now c.args.text.now typed stands))
