use Rattle.column_store.specs.Row.{row_of}
use Rattle.search_walk.proofs.AnswerLemmas.{on_ok_to}
use Rattle.group_count.proofs.TableLemmas.{types_more}
use Rattle.group_count.proofs.table.TypeTableRowTable.count_row.Goals as goal

pub returns : goal.returns
returns c = on_ok_to c.count.result _ _ (λ more types before held. types_more c.args.self.now c.count.new.self types before (row_of c.args.row) c.count.ensures.limit more held) c.count.ensures.counted
