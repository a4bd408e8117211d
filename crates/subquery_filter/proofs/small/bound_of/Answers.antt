use Rattle.std.proofs.Common.{rules}
use Rattle.subquery_filter.proofs.SmallLemmas.{bound_is, bound_none}
use Rattle.subquery_filter.proofs.small.bound_of.Goals as goal

pub returns-then-least-lt-LEAST_BOUND : goal.returns-then-least-lt-LEAST_BOUND
returns-then-least-lt-LEAST_BOUND c = λ least. bound_none c.args.tokens.now

pub returns : goal.returns
returns c = λ least. bound_is c.args.tokens.now c.args.least least (c.are_plain.ensures (search rules))
