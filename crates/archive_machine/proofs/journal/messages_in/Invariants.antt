use Rattle.std.proofs.Common.{◌≡◌, take}
use Rattle.archive_machine.specs.Machine.{count_of}
use Rattle.archive_machine.proofs.journal.messages_in.Given as goal

abbrev pub invariant-loop-entry : goal.invariant-loop-entry
invariant-loop-entry l = l.count ≡ count_of l.file (take l.entry-index l.journal)
