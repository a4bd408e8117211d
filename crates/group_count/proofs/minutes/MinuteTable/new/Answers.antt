use Rattle.std.proofs.Common.{refl}
use Rattle.group_count.proofs.MinuteLemmas.{none_held}
use Rattle.group_count.proofs.minutes.MinuteTable.new.Goals as goal

pub returns-clause-nothing : goal.returns-clause-nothing
returns-clause-nothing c = none_held _ c.new.ensures.empty refl refl
