use Rattle.group_count.proofs.ExpandedLemmas.{none_plain, others_tried}
use Rattle.group_count.proofs.laws.plain_expands_none.Goals as goal

pub returns-clause-plain : goal.returns-clause-plain
returns-clause-plain c = none_plain

pub returns-clause-others : goal.returns-clause-others
returns-clause-others c = others_tried
