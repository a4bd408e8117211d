-- What came of a job.
use Rattle.std.specs.Prelude.{ℕ, ◌+◌, false, Option, None, Some}
use Rattle.ingest_workers.specs.declared.outcome.Cause.{Cause}
use Rattle.ingest_workers.specs.declared.outcome.Cause.TheVariants.{ReadFault, LineTooLong, TooManyLines, Full}
use Rattle.ingest_workers.specs.declared.outcome.Outcome.{Outcome}

-- before any work
abbrev pub nothing_done : Outcome
nothing_done = record { messages = 0; whole = false; cause = None }

-- How many messages of a job may have been met that are not sealed. A log that cannot be read on leaves none, a full dictionary
-- the one that it stops, and a segment that was refused, or want of memory, those that were in the open segment.
abbrev pub unsealed_by : ℕ → Option Cause → ℕ
unsealed_by rows None = 0
unsealed_by rows (Some ReadFault) = 0
unsealed_by rows (Some (LineTooLong line)) = 0
unsealed_by rows (Some TooManyLines) = 0
unsealed_by rows (Some (Full book count)) = 1
unsealed_by rows (Some _) = rows

-- How many messages were met, at most: those that are sealed, which the outcome counts, and these.
abbrev pub met_by : ℕ → Outcome → ℕ
met_by rows o = o.messages + unsealed_by rows o.cause
