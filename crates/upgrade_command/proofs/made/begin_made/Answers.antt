use Rattle.std.proofs.Common.{refl}
use Rattle.upgrade_command.proofs.MadeLemmas.{new_journal}
use Rattle.upgrade_command.proofs.made.begin_made.Goals as goal

pub returns-clause-new : goal.returns-clause-new
returns-clause-new g c = new_journal _ c.requires.header c.requires.reads c.requires.synced refl refl refl
