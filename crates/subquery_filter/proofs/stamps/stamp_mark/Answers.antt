use Rattle.subquery_filter.proofs.stamps.stamp_mark.Goals as goal

pub returns-else-lies_in : goal.returns-else-lies_in
returns-else-lies_in c = λ lies. absurd (c.lies_in.ensures c.if-lies_in.false lies)
