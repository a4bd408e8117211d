use Rattle.std.proofs.Common.{take}
use Rattle.archive_machine.specs.Machine.{Runs, nothing_yet}
use Rattle.archive_machine.proofs.run.core_run.Given as goal

abbrev pub invariant-loop-event : goal.invariant-loop-event
invariant-loop-event l = Runs l.header nothing_yet (take l.event-index l.events) l.core
