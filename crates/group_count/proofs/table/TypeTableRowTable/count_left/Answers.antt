use Rattle.search_walk.proofs.AnswerLemmas.{on_ok_to}
use Rattle.group_count.proofs.TableLemmas.{types_left}
use Rattle.group_count.proofs.table.TypeTableRowTable.count_left.Goals as goal

pub returns-clause-counted : goal.returns-clause-counted
returns-clause-counted g c = on_ok_to c.count_types.result _ _ (types_left _ c.args.pages.now c.args.self.now c.count_types.new.table c.count_types.ensures.limit) c.count_types.ensures.counted
