use Rattle.subquery_filter.proofs.VerdictLemmas.{certain_always, rejected_never}
use Rattle.subquery_filter.proofs.laws.verdicts_hold.Goals as goal

pub returns-clause-rejected : goal.returns-clause-rejected
returns-clause-rejected c = rejected_never c.needs_are_brought.ensures.skeleton c.stamp_texts_are_short.ensures

pub returns-clause-certain : goal.returns-clause-certain
returns-clause-certain c = certain_always c.constants_suffice.ensures
