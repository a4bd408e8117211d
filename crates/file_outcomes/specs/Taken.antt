-- What came of the files that were to be taken into an archive, as it is printed.
use Rattle.std.specs.Prelude.{◌≡◌, ℕ, List, [], ◌∷◌, Option, map}
use Rattle.std.specs.List.{AllZip}
use Rattle.file_lines.specs.Directory.{FileLine}
use Rattle.command_refusals.specs.Outside.{Outside}
use Rattle.command_answers.specs.Ingested.{FileOutcome}
use Rattle.file_outcomes.specs.declared.file_report.FileReport.{FileReport}
use Rattle.command_answers.specs.Taken.{file_error, file_status, gravest}

abbrev pub line_of_taken : FileReport → FileLine
line_of_taken file = record { name = file.name.now; messages = file.messages; whole = file.whole }

abbrev pub error_of : FileReport → List ℕ
error_of file = file_error file.name.now file.refusal

abbrev pub graver : ℕ → ℕ → ℕ
graver one other = gravest (one ∷ other ∷ [])

abbrev pub status_of_taken : List FileReport → ℕ
status_of_taken files = gravest (map (λ file. file_status file.refusal) files)

-- what came of a file is told so
pub record IsToldAs (c : FileOutcome) (file : FileReport) : Type 0 where
  pub name : c.name ≡ file.name.now
  pub messages : c.messages ≡ file.messages
  pub whole : c.whole ≡ file.whole
  pub refusal : c.refusal ≡ file.refusal

-- so it is of each file
abbrev pub AreToldAs : List FileOutcome → List FileReport → Type 0
AreToldAs came files = AllZip IsToldAs came files

-- what two sinks tell around a call, whatever logs tell
abbrev pub OverSinks : {K : Type 0} → (K → Option (List ℕ)) → (K → ℕ) → K → K → K → K → (Outside → Type 0) → Type 0
OverSinks written faults out out_after err err_after P =
    (content unread : List ℕ → Option (List ℕ)) (opens reads : List ℕ → ℕ × ℕ)
    → P (record {
      content = content;
      unread = unread;
      opens = opens;
      reads = reads;
      out = (written out, written out_after);
      out_faults = (faults out, faults out_after);
      err = (written err, written err_after);
      err_faults = (faults err, faults err_after);
    })
