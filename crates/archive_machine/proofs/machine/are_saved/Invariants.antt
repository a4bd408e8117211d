use Rattle.std.proofs.Common.{All, take}
use Rattle.archive_machine.specs.Machine.{IsSaved}
use Rattle.archive_machine.proofs.machine.are_saved.Given as goal

abbrev pub invariant-loop-row : goal.invariant-loop-row
invariant-loop-row l = All (IsSaved l.types l.saved_types l.saved_words) (take l.row-index l.rows)
