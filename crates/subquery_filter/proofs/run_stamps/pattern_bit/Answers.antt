use Rattle.subquery_filter.proofs.AroundLemmas.{matched_by}
use Rattle.subquery_filter.proofs.run_stamps.pattern_bit.Goals as goal

pub returns-else-may_hold : goal.returns-else-may_hold
returns-else-may_hold c = λ moment s prints there. absurd (matched_by _ c.args.run.now.text s c.as_slice.ensures (c.may_hold.ensures.none c.if-may_hold.false moment s prints) there)
