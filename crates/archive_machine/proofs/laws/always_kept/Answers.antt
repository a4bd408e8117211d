use Rattle.archive_machine.proofs.KeptLemmas.{always_kept, steps_grow}
use Rattle.archive_machine.proofs.laws.always_kept.Goals as goal

pub returns-clause-kept : goal.returns-clause-kept
returns-clause-kept c = always_kept

pub returns-clause-grow : goal.returns-clause-grow
returns-clause-grow c = steps_grow
