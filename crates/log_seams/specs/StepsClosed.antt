-- The logs that a shelf has closed as a list.
use Rattle.std.specs.Prelude.{List, [], ◌∷◌, drop}
use Rattle.log_seams.specs.Memory.{ClosedState}
use Rattle.log_seams.specs.declared.closed_logs.Closed.{Closed}
use Rattle.log_seams.specs.declared.closed_logs.Closed.TheVariants.{Nothing, Log}

-- each with its name, the newest first
abbrev pub logs_of : Closed → List ClosedState
logs_of Nothing = []
logs_of (Log name bytes at faults older) = record { name = name; left = drop at bytes; faults = faults } ∷ older.value
