use Rattle.std.proofs.Common.{rules}
use Rattle.subquery_filter.proofs.SmallLemmas.{not_digits, too_long}
use Rattle.subquery_filter.proofs.small.least_for.Goals as goal

pub returns-then-not-is_open_whole : goal.returns-then-not-is_open_whole
returns-then-not-is_open_whole c = not_digits c.args.token.now (λ free. search rules)

pub returns : goal.returns
returns c = too_long c.args.token.now c.least_with.result _ (search rules) c.least_with.ensures
