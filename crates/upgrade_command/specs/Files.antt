-- What came of the files of an archive, by their jobs.
use Rattle.std.specs.Prelude.{◌≡◌, ℕ, true, List, [], ◌∷◌, Option, None, option_map, Result, Ok, Err}
use Rattle.archive_open.specs.declared.files.FileEntry.{FileEntry}
use Rattle.archive_text.specs.State.{StoredState}
use Rattle.archive_text.specs.declared.cause.TextCause.{TextCause}
use Rattle.ingest_workers.specs.declared.job.Job.{Job}
use Rattle.ingest_workers.specs.JobDone.{in_source}
use Rattle.command_refusals.specs.declared.outcome.UpgradeRefusal.{UpgradeRefusal}
use Rattle.command_answers.specs.Ingested.{FileOutcome}
use Rattle.file_outcomes.specs.Jobs.{of_cause}
use Rattle.file_outcomes.specs.declared.file_report.FileReport.{FileReport}

-- what the text of a file tells of its bytes, of its name, and of reads of it that failed
abbrev pub text_left : {D : Type 0} → StoredState D → Option (List ℕ)
text_left t = t.left

abbrev pub text_name : {D : Type 0} → StoredState D → Option (List ℕ)
text_name t = None

abbrev pub text_faults : {D : Type 0} → StoredState D → ℕ
text_faults t = t.faults

-- what came of a file of an archive, by its job before and after it was done
abbrev pub outcome_by : {D : Type 0} → FileEntry → Job (StoredState D) → Job (StoredState D) → FileOutcome
outcome_by f old done = record {
  name = f.name;
  log = in_source text_left old.source;
  opened = true;
  messages = done.outcome.messages;
  whole = done.outcome.whole;
  refusal = option_map of_cause done.outcome.cause;
}

-- so of all files
abbrev pub came_by : {D : Type 0} → List FileEntry → List (Job (StoredState D)) → List (Job (StoredState D)) → List FileOutcome
came_by [] js ks = []
came_by (f ∷ fs) [] ks = []
came_by (f ∷ fs) (j ∷ js) [] = []
came_by (f ∷ fs) (j ∷ js) (k ∷ ks) = outcome_by f j k ∷ came_by fs js ks

-- the file is reported by what came of its job
pub record IsReportOf {S : Type 0} (done : Job S) (report : FileReport) (f : FileEntry) : Type 0 where
  pub name : report.name.now ≡ f.name
  pub messages : report.messages ≡ done.outcome.messages
  pub whole : report.whole ≡ done.outcome.whole
  pub refusal : report.refusal ≡ option_map of_cause done.outcome.cause

-- so are the first files, a job of each
abbrev pub AreReports : {S : Type 0} → List (Job S) → List FileReport → List FileEntry → Type 0
AreReports [] [] files = Unit {0}
AreReports (j ∷ js) (r ∷ rs) (f ∷ fs) = IsReportOf j r f × AreReports js rs fs
AreReports _ _ _ = ⊥

-- Why the texts could not be had to their end, where damage is told at a place. None is read that is not to be.
abbrev pub stop_by : ℕ → TextCause → UpgradeRefusal
stop_by last TextCause.DiskFault = UpgradeRefusal.DiskFault
stop_by last TextCause.Damaged = UpgradeRefusal.Damaged last
stop_by last TextCause.OutOfMemory = UpgradeRefusal.OutOfMemory
stop_by last TextCause.Refused = UpgradeRefusal.OutOfMemory

-- why a text could not be had, where texts were read
abbrev pub read_by : {A : Type 0} → Result (Option TextCause) A → Option TextCause
read_by (Ok cause) = cause
read_by (Err refusal) = None
