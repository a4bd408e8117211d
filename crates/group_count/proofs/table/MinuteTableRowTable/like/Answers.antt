use Rattle.group_count.proofs.TableLemmas.{minutes_like}
use Rattle.group_count.proofs.table.MinuteTableRowTable.like.Goals as goal

pub returns : goal.returns
returns c = minutes_like c.args.self.now c.new.result c.is_micro.result c.is_micro.ensures c.new.ensures.micro c.new.ensures.nothing
