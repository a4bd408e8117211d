use Rattle.group_count.proofs.TableLemmas.{types_like}
use Rattle.group_count.proofs.table.TypeTableRowTable.like.Goals as goal

pub returns : goal.returns
returns c = types_like c.args.self.now c.new.result c.limit.result c.limit.ensures c.new.ensures
