use Rattle.search_walk.proofs.AnswerLemmas.{on_ok_to}
use Rattle.group_count.proofs.TableLemmas.{types_both}
use Rattle.group_count.proofs.table.TypeTableRowTable.join.Goals as goal

pub returns : goal.returns
returns c =
    on_ok_to c.take_in.result _ _ (λ joined types before rows one two. types_both c.args.self.now c.args.other.now c.take_in.new.self types before rows c.take_in.ensures.limit joined one two)
    c.take_in.ensures.counted
