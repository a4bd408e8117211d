use Rattle.search_walk.proofs.AnswerLemmas.{on_ok_to}
use Rattle.group_count.proofs.TableLemmas.{minutes_left}
use Rattle.group_count.proofs.table.MinuteTableRowTable.count_left.Goals as goal

pub returns-clause-counted : goal.returns-clause-counted
returns-clause-counted g c =
    on_ok_to c.count_minutes.result _ _ (minutes_left _ c.args.pages.now c.args.self.now c.count_minutes.new.table c.count_minutes.ensures.micro) c.count_minutes.ensures.counted
