use Rattle.std.proofs.Common.{refl}
use Rattle.upgrade_command.proofs.FillLemmas.{just_lent}
use Rattle.upgrade_command.proofs.taking.take_files.Goals as goal

pub take_lent-answer-requires-clause-read : goal.take_lent-answer-requires-clause-read
take_lent-answer-requires-clause-read g c κs within = just_lent g.D.Disk.state _ _ c.args.disk.now refl refl
