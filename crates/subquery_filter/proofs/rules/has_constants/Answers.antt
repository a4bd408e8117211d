use Rattle.subquery_filter.proofs.RuleLemmas.{no_type, one_type}
use Rattle.subquery_filter.proofs.rules.has_constants.Goals as goal

pub returns-in-Some : goal.returns-in-Some
returns-in-Some g c = one_type c.args.plan.now (g.N.Names.types c.args.names.now) c.args.number c.in-Some.text.now c.holds_constants.result c.in-Some.ensures c.holds_constants.ensures

pub returns-in-None : goal.returns-in-None
returns-in-None g c = (λ f. absurd (cc f), λ has. absurd (no_type c.args.plan.now (g.N.Names.types c.args.names.now) c.args.number c.in-None.ensures has))
