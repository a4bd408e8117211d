use Rattle.subquery_filter.proofs.stamps.stamp_bit.Goals as goal

pub returns-else-may_lie : goal.returns-else-may_lie
returns-else-may_lie c = λ moment s prints lies. absurd (c.may_lie.ensures c.if-may_lie.false moment s prints lies)
