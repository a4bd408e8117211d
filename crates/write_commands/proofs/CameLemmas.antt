-- What `ingest` answers, from what it printed of the files that were taken in.
use Rattle.std.proofs.Common.{◌≡◌, refl, ap, ◌∙◌, inl, inr, ℕ, List, [], ◌∷◌, length, map}
use Rattle.std.specs.Prelude.{All, Option, is_some}
use Rattle.std.proofs.lemmas.List.Elements.{All-cons, All-nil}
use Rattle.std.specs.List.{flat_map}
use Rattle.log_seams.specs.Disk.{DiskState}
use Rattle.logtype_text.specs.Laws.{OneListOfParts}
use Rattle.command_refusals.specs.Outside.{Outside}
use Rattle.command_refusals.specs.Ending.{SaysIn, Stayed, TookNothing}
use Rattle.command_answers.specs.Ingested.{EndsIngest, FileOutcome, FromArchive, HasCallCause, IfRefused, PrintsCame, TakesFiles, TakesIn, TakesNothing, line_of_came, logs_of}
use Rattle.write_commands.specs.IngestPrints.{came_of, names_of}
use Rattle.file_outcomes.specs.StepsCauses.{HaveFileCauses}
use Rattle.command_refusals.specs.Reading.{OverJournal}
use Rattle.command_refusals.specs.Refusal.{line_of, status_of}
use Rattle.file_outcomes.specs.Taken.{AreToldAs, error_of, line_of_taken}
use Rattle.command_answers.specs.Taken.{file_error, file_status}
use Rattle.command_refusals.specs.declared.outcome.AddRefusal.{AddRefusal}
use Rattle.command_refusals.specs.Outcome.{of_add}
use Rattle.file_outcomes.specs.declared.file_report.FileReport.{FileReport}
use Rattle.file_outcomes.proofs.FittingLemmas.{all_fit}
use Rattle.file_outcomes.proofs.PrintLemmas.{errors_told, lines_told, statuses_told}
use Rattle.write_commands.proofs.WholeLemmas.{cut_short, file_causes, full_in_turn}

module _ (content : List ℕ → Option (List ℕ)) where
  pub names_came : (files : List FileReport) → map (λ (c : FileOutcome). c.name) (map (came_of content) files) ≡ names_of files
  names_came [] = refl
  names_came (file ∷ files) = ap (λ ns. file.name.now ∷ ns) (names_came files)

  -- each has the bytes that are told of its name
  pub logs_came : (files : List FileReport) → All (λ (c : FileOutcome). c.log ≡ content c.name) (map (came_of content) files)
  logs_came [] = All-nil (λ (c : FileOutcome). c.log ≡ content c.name)
  logs_came (file ∷ files) = All-cons (λ (c : FileOutcome). c.log ≡ content c.name) (came_of content file) (map (came_of content) files) refl (logs_came files)

  -- they are told so
  pub told_came : (files : List FileReport) → AreToldAs (map (came_of content) files) files
  told_came [] = tt
  told_came (file ∷ files) = (record { name = refl; messages = refl; whole = refl; refusal = refl }, told_came files)

  pub lines_came : (files : List FileReport) → map line_of_taken files ≡ map line_of_came (map (came_of content) files)
  lines_came files = lines_told (map (came_of content) files) files (told_came files)

  pub statuses_came : (files : List FileReport) → map (λ (file : FileReport). file_status file.refusal) files ≡ map (λ (c : FileOutcome). file_status c.refusal) (map (came_of content) files)
  statuses_came files = statuses_told (map (came_of content) files) files (told_came files)

  pub errors_came : (files : List FileReport) → flat_map error_of files ≡ flat_map (λ (c : FileOutcome). file_error c.name c.refusal) (map (came_of content) files)
  errors_came files = errors_told (map (came_of content) files) files (told_came files)

-- it ends so, and where it was refused this holds of the refusal
abbrev EndsSo : (AddRefusal → Type 0) → ℕ → ℕ → List (List ℕ) → Outside → DiskState → DiskState → ℕ → Type 0
EndsSo P workers rows names seen old new status = (ends : EndsIngest workers rows names seen old new status) × IfRefused P ends

-- the call was refused as a whole
pub refused_all : (P : AddRefusal → Type 0) (workers rows : ℕ) (names : List (List ℕ)) (seen : Outside) (old new : DiskState) (status : ℕ) (refusal : AddRefusal) → status ≡ status_of (of_add refusal) → SaysIn seen (line_of [] (of_add refusal)) → TookNothing seen.out → Stayed seen.out_faults
    → HasCallCause names old new refusal → FromArchive old (λ h before bytes stood. TakesNothing h before old new) → P refusal → EndsSo P workers rows names seen old new status
refused_all P workers rows names seen old new status refusal is said nothing sink cause disk holds =
    (inl (record { refusal = refusal; ends = record { status_is = is; said = said }; nothing = nothing; sink = sink; cause = cause; disk = disk }), holds)

module _ (one : OneListOfParts) (workers rows : ℕ) (names : List (List ℕ)) (seen : Outside) (old new : DiskState) (tells : is_some new.seen ≡ is_some old.seen) (first : ℕ) (files : List FileReport) (named : names_of files ≡ names)
    (numbered : OverJournal old.seen (λ journal. first ≡ length journal.names)) (disk : FromArchive old (λ h before bytes stood. TakesIn rows h before stood names (map (came_of seen.content) files) old new)) (caused : HaveFileCauses (logs_of seen) workers rows old new (map (came_of seen.content) files)) where
  -- the files were taken in
  takes_came : TakesFiles workers rows names seen old new
  takes_came = record {
    adds = record { came = map (came_of seen.content) files; first = first; names_are = names_came seen.content files ∙ named; logs = logs_came seen.content files; numbered = numbered; disk = disk };
    each = file_causes workers rows seen old new (map (came_of seen.content) files) caused;
    cut = cut_short workers rows seen old new (map (came_of seen.content) files) caused;
    in_turn = full_in_turn workers rows seen old new (map (came_of seen.content) files) caused;
    fits = all_fit rows one names (map (came_of seen.content) files) old new tells disk;
  }

  -- and this holds of what came of them, and of the first number
  pub takes_with : (P : List FileOutcome → ℕ → Type 0) → P (map (came_of seen.content) files) first → (t : TakesFiles workers rows names seen old new) × P t.adds.came t.adds.first
  unfolding takes_came
  takes_with P holds = (takes_came, holds)

  -- it is printed
  pub printed_came : (P : AddRefusal → Type 0) (status : ℕ) → PrintsCame (map (came_of seen.content) files) first seen status → EndsSo P workers rows names seen old new status
  printed_came P status printed = (inr (takes_with (λ came n. PrintsCame came n seen status) printed), tt)
