use Rattle.subquery_filter.proofs.MarkLemmas.{found_tells}
use Rattle.subquery_filter.proofs.needles.occurs.Goals as goal

pub returns : goal.returns
returns c = found_tells c.args.finder.now c.args.text.now c.find.result c.is_some.result c.find.ensures c.is_some.ensures
