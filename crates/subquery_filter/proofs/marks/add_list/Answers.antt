use Rattle.subquery_filter.proofs.MarkLemmas.{keeps_self}
use Rattle.subquery_filter.proofs.marks.add_list.Goals as goal

pub returns-in_default-clause-keeps : goal.returns-in_default-clause-keeps
returns-in_default-clause-keeps c = keeps_self c.args.table.now.items
