-- The steps of `bench` over an archive that is there.
use Rattle.std.specs.Prelude.{◌≡◌, ◌⊎◌, ℕ, List, map, All, Option}
use Rattle.log_seams.specs.Disk.{DiskState}
use Rattle.command_refusals.specs.Outside.{Outside}
use Rattle.command_answers.specs.Ingested.{FileOutcome, FromArchive, TakesIn, logs_of, RefusesIngest}
use Rattle.file_outcomes.specs.StepsCauses.{HaveFileCauses}
use Rattle.command_answers.specs.Benched.{SumsUp, IsSpared, segment_rows, with_logs, TellsParts, generated_names}

-- The names were added to the archive and the logs taken in, with the causes for which they are not whole, and it was told
-- what came of them.
pub record AddsLogs (content : List ℕ → Option (List ℕ)) (workers : ℕ) (names : List (List ℕ)) (seen : Outside)
    (old new : DiskState) (status : ℕ) : Type 0 where
  pub came : List FileOutcome
  pub names_are : map (λ c. c.name) came ≡ names
  pub logs : All (λ c. c.log ≡ content c.name) came
  pub disk : FromArchive old (λ h before bytes stood. TakesIn segment_rows h before stood names came old new)
  pub causes : HaveFileCauses (logs_of (with_logs content seen)) workers segment_rows old new came
  pub spared : All IsSpared came
  pub told : TellsParts came seen status ⊎ SumsUp came seen old new status

-- How it ends, on a disk that has an archive.
abbrev pub EndsLogs : (List ℕ → Option (List ℕ)) → ℕ → Outside → DiskState → DiskState → ℕ → Type 0
EndsLogs content workers seen old new status =
    RefusesIngest generated_names seen old new status ⊎ AddsLogs content workers generated_names seen old new status
