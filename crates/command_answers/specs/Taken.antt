-- What is told of a file that is not whole, the status of several, and the place of damage.
use Rattle.std.specs.Prelude.{ℕ, List, [], Option, Some, None, ◌==◌, ◌||◌, Bool, false, ◌∷◌, if◌then◌else◌}
use Rattle.log_seams.specs.Disk.{DiskState, KeepsBytes}
use Rattle.archive_open.specs.Shown.{RefusedAt}
use Rattle.command_refusals.specs.Outcome.{of_part}
use Rattle.command_refusals.specs.Refusal.{file_line_of, file_status_of}
use Rattle.command_refusals.specs.declared.outcome.PartCause.{PartCause}

-- the line on the error output for a file that is not whole, and its status
abbrev pub file_error : List ℕ → Option PartCause → List ℕ
file_error name None = []
file_error name (Some cause) = file_line_of name (of_part cause)

abbrev pub file_status : Option PartCause → ℕ
file_status None = 0
file_status (Some cause) = file_status_of (of_part cause)

-- whether a number is among these
abbrev pub has : ℕ → List ℕ → Bool
has n [] = false
has n (m ∷ ms) = (m == n) || has n ms

-- The gravest of statuses: that of a disk that failed before that of want of memory, and this before that of a log that is
-- not whole. It is 0 only where all files are whole.
abbrev pub gravest : List ℕ → ℕ
gravest statuses = if has 5 statuses then 5 else (if has 9 statuses then 9 else (if has 4 statuses then 4 else 0))

-- The same with the statuses of what the whole call met beside: that of a failed output goes before all others, and that of a
-- damaged archive behind that of a disk that failed.
abbrev pub gravest_of_call : List ℕ → ℕ
gravest_of_call statuses =
    if has 7 statuses then 7 else (if has 5 statuses then 5 else (if has 6 statuses then 6 else gravest statuses))

-- Damage is told at this place: where the bytes are told they are no archive, and the place is 0, for want of a header, or a gate
-- that is not before the first damage. They stay as they are.
abbrev pub IsDamagedAt : ℕ → DiskState → DiskState → Type 0
IsDamagedAt at old new = RefusedAt at old.seen × KeepsBytes old new
