use Rattle.search_walk.proofs.AnswerLemmas.{on_ok_to}
use Rattle.group_count.proofs.TableLemmas.{minutes_both}
use Rattle.group_count.proofs.table.MinuteTableRowTable.join.Goals as goal

pub returns : goal.returns
returns c =
    on_ok_to c.take_in.result _ _ (λ joined version before rows one two. minutes_both c.args.self.now c.args.other.now c.take_in.new.self version before rows c.take_in.ensures.micro joined one two)
    c.take_in.ensures.counted
