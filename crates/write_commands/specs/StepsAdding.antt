-- What the adding of logs to an archive asks, and what it answers.
use Rattle.std.specs.Prelude.{◌≡◌, ◌≤◌, ℕ, List, [], length, map, IfErr, IfOk, Option, None, Result, Vec, vec_capacity}
use Rattle.log_seams.specs.Disk.{DiskState}
use Rattle.log_sources.specs.Sources.{str_bytes}
use Rattle.ingest_fork.specs.declared.works.TheConstants.{MAX_WORKERS}
use Rattle.command_refusals.specs.Reading.{OverJournal}
use Rattle.command_refusals.specs.declared.outcome.AddRefusal.{AddRefusal}
use Rattle.command_answers.specs.Ingested.{FromArchive, HasCallCause, Logs, TakesIn, TakesNothing}
use Rattle.command_answers.specs.Names.{RefusesNames}
use Rattle.file_outcomes.specs.declared.file_report.FileReport.{FileReport}
use Rattle.write_commands.specs.declared.ingest.NewLogs.{NewLogs}
use Rattle.write_commands.specs.IngestPrints.{came_of, names_of}
use Rattle.file_outcomes.specs.StepsCauses.{HaveFileCauses}

-- ---- what is asked

abbrev pub names_asked : NewLogs → List (List ℕ)
names_asked asked = map str_bytes asked.files.now

-- So many workers may be asked for, and segments of at most so many rows.
pub record IsInLimits (asked : NewLogs) : Type 0 where
  -- the workers
  pub workers : (1 ≤ asked.workers) × (asked.workers ≤ MAX_WORKERS)
  -- the rows of a segment
  pub segment : (1 ≤ asked.segment) × (asked.segment ≤ 65536)

-- There are names, and none of them is refused by itself.
pub record AreAccepted (names : List (List ℕ)) : Type 0 where
  -- there are names
  pub some : 1 ≤ length names
  -- nothing is refused of them
  pub unrefused : RefusesNames names None

-- The logs that are asked for may be added.
pub record MayAdd (asked : NewLogs) : Type 0 where
  -- the workers and the rows
  pub limits : IsInLimits asked
  -- the names
  pub names : AreAccepted (names_asked asked)

-- There is room for a report of each log that is asked for.
pub record HasRoomFor {A : Type 0} (asked : NewLogs) (taken : Vec FileReport A) : Type 0 where
  -- nothing is reported yet
  pub none : taken.items ≡ []
  -- a report of each fits
  pub room : length asked.files.now ≤ vec_capacity taken

-- ---- what stays

-- What a shelf tells of its logs goes on.
pub record ShelfGoesOn {H : Type 0} (content : H → List ℕ → Option (List ℕ)) (open_faults read_faults : H → List ℕ → ℕ)
    (old new : H) : Type 0 where
  -- the bytes of each log are as they were
  pub bytes : (n : List ℕ) → content new n ≡ content old n
  -- no count of faults in opening one falls
  pub opens : (n : List ℕ) → open_faults old n ≤ open_faults new n
  -- nor does one of faults in reading it
  pub reads : (n : List ℕ) → read_faults old n ≤ read_faults new n

-- ---- the answers

-- The logs were added as new files, numbered on from `first`, and these are their reports.
pub record AddsNewLogs (content : List ℕ → Option (List ℕ)) (logs : Logs) (asked : NewLogs) (first : ℕ)
    (reports : List FileReport) (old new : DiskState) : Type 0 where
  -- each name has its report, in their order
  pub names : names_of reports ≡ names_asked asked
  -- the first number is how many files the archive had
  pub number : OverJournal old.seen (λ journal. first ≡ length journal.names)
  -- the archive has the names, and the files as they are reported
  pub taken : FromArchive old (λ h before bytes stood. TakesIn asked.segment h before stood (names_asked asked)
      (map (came_of content) reports) old new)
  -- each file that is not whole has its cause
  pub causes : HaveFileCauses logs asked.workers asked.segment old new (map (came_of content) reports)

-- The adding was refused, and nothing was taken in.
pub record RefusesNewLogs (asked : NewLogs) (old new : DiskState) (refusal : AddRefusal) : Type 0 where
  -- what the refusal rests on
  pub cause : HasCallCause (names_asked asked) old new refusal
  -- the journal is as it was
  pub nothing : FromArchive old (λ h before bytes stood. TakesNothing h before old new)

-- The logs were added, numbered on from the answer, or the adding was refused.
pub record AddsOrRefuses (content : List ℕ → Option (List ℕ)) (logs : Logs) (asked : NewLogs) (reports : List FileReport)
    (old new : DiskState) (answer : Result ℕ AddRefusal) : Type 0 where
  -- they were added
  pub added : IfOk answer (λ first. AddsNewLogs content logs asked first reports old new)
  -- or nothing was
  pub refused : IfErr answer (RefusesNewLogs asked old new)
