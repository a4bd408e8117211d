use Rattle.subquery_filter.proofs.AroundLemmas.{matched_by}
use Rattle.subquery_filter.proofs.run_stamps.run_mark.Goals as goal

pub returns-else-stands_in : goal.returns-else-stands_in
returns-else-stands_in c = λ there. absurd (matched_by _ c.args.run.now.text c.args.stamp.now c.as_slice.ensures (c.stands_in.ensures c.if-stands_in.false) there)
