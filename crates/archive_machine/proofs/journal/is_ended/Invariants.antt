use Rattle.std.proofs.Common.{◌≡◌, take}
use Rattle.std.specs.Prelude.{false}
use Rattle.archive_machine.specs.Machine.{is_closed}
use Rattle.archive_machine.proofs.journal.is_ended.Given as goal

abbrev pub invariant-loop-entry : goal.invariant-loop-entry
invariant-loop-entry l = is_closed l.file (take l.entry-index l.journal) ≡ false
