use Rattle.log_commands.proofs.PrintedLemmas.{Printed-no_memory}
use Rattle.log_commands.proofs.log.print_log.Goals as goal

pub returns-in-Err-OutOfMemory-clause-printed : goal.returns-in-Err-OutOfMemory-clause-printed
returns-in-Err-OutOfMemory-clause-printed g c = Printed-no_memory _ _ _ _

pub returns-in-Err-clause-printed : goal.returns-in-Err-clause-printed
returns-in-Err-clause-printed g c = Printed-no_memory _ _ _ _
