use Rattle.std.proofs.Common.{take}
use Rattle.subquery_filter.proofs.AskingLemmas.{first_taken}
use Rattle.subquery_filter.proofs.filter.Filter.ask.Goals as goal

pub returns-clause-asks : goal.returns-clause-asks
returns-clause-asks g c = λ a.
    let types = g.N.Names.types c.args.names.now in
    let (n, has) = c.in_ok-add_all.ensures c.args.plan.now c.args.self (c.in_ok-asking.ensures types a) in
    let are = c.in_ok-asked.ensures.asked c.args.plan.now c.args.self (take n types) has in
    are.asks types (first_taken n types) a

pub returns-clause-filter : goal.returns-clause-filter
returns-clause-filter g c = λ words is.
    let types = g.N.Names.types c.args.names.now in
    let (n, has) = c.in_ok-add_all.ensures c.args.plan.now c.args.self (c.in_ok-asking.ensures types is.asks) in
    let are = c.in_ok-asked.ensures.asked c.args.plan.now c.args.self (take n types) has in
    are.filter types words (first_taken n types) is
