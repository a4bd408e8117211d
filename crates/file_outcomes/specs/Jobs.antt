-- What came of files, by the openings of their logs and by their jobs.
use Rattle.std.specs.Prelude.{◌≡◌, ◌⊎◌, ℕ, Bool, false, List, Option, Some, None, is_some, map, not, option_map, slice_get}
use Rattle.log_seams.specs.declared.disk.Disk.{Ghosts as DiskGhosts}
use Rattle.log_seams.specs.declared.refusals.OpenRefused.{OpenRefused}
use Rattle.disk_journal.specs.declared.journal.Journal.{Journal}
use Rattle.ingest_workers.specs.declared.job.Job.{Job}
use Rattle.ingest_workers.specs.declared.outcome.Cause.{Cause}
use Rattle.ingest_workers.specs.InTurn.{AreFullInTurn}
use Rattle.ingest_workers.specs.Ingested.{AreRefused, HasIngested, HaveCauses, IsAsItWas, plan_of}
use Rattle.command_refusals.specs.declared.outcome.PartCause.{PartCause}
use Rattle.file_outcomes.specs.declared.file_report.FileReport.{FileReport}

-- why a log was not opened, and why not all of it was taken in
abbrev pub of_opening : OpenRefused → PartCause
of_opening OpenRefused.Failed = PartCause.OpenFault
of_opening OpenRefused.OutOfMemory = PartCause.OutOfMemory

abbrev pub of_cause : Cause → PartCause
of_cause Cause.ReadFault = PartCause.ReadFault
of_cause (Cause.LineTooLong line) = PartCause.LineTooLong line
of_cause Cause.TooManyLines = PartCause.TooManyLines
of_cause (Cause.Full book count) = PartCause.Full book count
of_cause (Cause.DiskFault opened now) = PartCause.DiskFault
of_cause Cause.OutOfMemory = PartCause.OutOfMemory
of_cause (Cause.ArchiveFull end need) = PartCause.ArchiveFull end need

-- that a log could not be opened goes before what its job met
abbrev pub refusal_by : Option OpenRefused → Option Cause → Option PartCause
refusal_by (Some opening) cause = Some (of_opening opening)
refusal_by None cause = option_map of_cause cause

abbrev pub sources_of : {S : Type 0} → List (Job S) → List (Option S)
sources_of jobs = map (λ job. job.source) jobs

-- which of them are to be read
abbrev pub opens_of : {S : Type 0} → List (Job S) → List Bool
opens_of jobs = map (λ job. job.is_open) jobs

-- The file is told by its job when this was done, and by the opening of its log.
pub record IsToldBy {S : Type 0} (openings : List (Option OpenRefused)) (jobs : List (Job S)) (i : ℕ) (file : FileReport)
    : Type 0 where
  pub job : Job S
  pub at : slice_get jobs i ≡ Some job
  pub opening : Option OpenRefused
  pub opening_at : slice_get openings i ≡ Some opening
  pub opened : is_some opening ≡ not file.opened
  pub messages : file.messages ≡ job.outcome.messages
  pub whole : file.whole ≡ job.outcome.whole
  pub refusal : file.refusal ≡ refusal_by opening job.outcome.cause

-- there was no memory to begin with the file
pub record IsNotBegun (file : FileReport) : Type 0 where
  pub messages : file.messages ≡ 0
  pub whole : file.whole ≡ false
  pub refusal : file.refusal ≡ Some PartCause.OutOfMemory

-- ---- all jobs

module _ {S D : Type 0} {d : DiskGhosts D} where
  -- The jobs were done over the journal by so many workers, in segments of at most so many rows, each with its cause. With one
  -- worker a dictionary is full by the jobs up to the one that it stopped.
  pub record AreDone (left name : S → Option (List ℕ)) (faults : S → ℕ) (workers rows : ℕ) (before after : Journal D d)
      (js js' : List (Job S)) : Type 0 where
    pub ingested : HasIngested left (plan_of rows before) js js' before after
    pub causes : HaveCauses left name faults (plan_of rows before) before after js js'
    pub in_turn : workers ≡ 1 → AreFullInTurn left (plan_of rows before) before js js'

  -- there was no memory to begin with the jobs
  pub record AreNotBegun (before after : Journal D d) (js js' : List (Job S)) : Type 0 where
    pub journal : IsAsItWas before after
    pub jobs : AreRefused js js'

  -- what came of the jobs
  abbrev pub DidJobs : (S → Option (List ℕ)) → (S → Option (List ℕ)) → (S → ℕ) → ℕ → ℕ → Journal D d → Journal D d → List (Job S)
      → List (Job S) → Type 0
  DidJobs left name faults workers rows before after js js' = AreDone left name faults workers rows before after js js'
      ⊎ AreNotBegun before after js js'
