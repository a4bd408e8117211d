use Rattle.std.proofs.Common.{rules}
use Rattle.log_commands.proofs.PrintedLemmas.{Printed-failed}
use Rattle.log_commands.proofs.log.print_source.Goals as goal

pub returns-clause-printed : goal.returns-clause-printed
returns-clause-printed g c = Printed-failed _ _ _ _ _ _ _ _ c.print_messages-outcome.ensures.reaches (search rules) c.in-Err.ensures.err
