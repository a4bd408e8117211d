use Rattle.std.proofs.lemmas.Result.{IfErr-weaker}
use Rattle.upgrade_command.proofs.OldLemmas.{opened_refuses}
use Rattle.upgrade_command.proofs.old.open_old.Goals as goal

pub returns-in-Ok-clause-refused : goal.returns-in-Ok-clause-refused
returns-in-Ok-clause-refused g c = IfErr-weaker c.of_earlier.result _ _ (opened_refuses (g.D.Disk.state c.args.disk.now) (g.D.Disk.state c.open_headed.new.disk) _ c.in-Ok.ensures.opened c.in-Ok.ensures.last) c.of_earlier.ensures.refused
