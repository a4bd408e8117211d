use Rattle.std.proofs.Common.{◌≡◌, take}
use Rattle.column_store.specs.Row.{variable_count}
use Rattle.archive_machine.proofs.hands.variables_in.Given as goal

abbrev pub invariant-loop-row : goal.invariant-loop-row
invariant-loop-row l = l.count ≡ variable_count (take l.row-index l.rows)
