use Rattle.std.proofs.Common.{rules}
use Rattle.std.specs.Prelude.{◌↔◌, IsTrue}
use Rattle.wild_match.specs.Matches.{Match}
use Rattle.subquery_filter.proofs.StoredLemmas.{token_stored}
use Rattle.subquery_filter.proofs.RuleLemmas.{tells_not}
use Rattle.subquery_filter.proofs.rare.lacks_token.Goals as goal

pub returns-clause-lacks : goal.returns-clause-lacks
returns-clause-lacks c = λ yes typed stands.
    let tells : IsTrue c.matches.result ↔ Match c.args.token.now.storing.items c.args.text.now = search rules in
    tells_not c.matches.result tells (search rules) (token_stored c.args.token.now c.args.text.now typed stands)

pub returns-clause-others : goal.returns-clause-others
returns-clause-others c = λ yes. c.has.ensures.no (search rules)
