-- What is printed of files that were to be taken in.
use Rattle.std.proofs.Common.{◌≡◌, inl, inr, refl, sym, ap, ap₂, subst, ◌∙◌, ℕ, List, [], ◌∷◌, ◌++◌, map, Result, Err}
use Rattle.std.specs.List.{flat_map}
use Rattle.log_seams.specs.Outside.{CountsOf}
use Rattle.sink_pieces.specs.Output.{Grew, GrewByFront}
use Rattle.sink_pieces.specs.declared.refusal.PrintRefusal.{PrintRefusal}
use Rattle.file_lines.specs.Directory.{FileLine, directory_from}
use Rattle.command_refusals.specs.Ending.{SaysIn, Stayed}
use Rattle.command_refusals.specs.Outcome.{from_print, of_read}
use Rattle.command_refusals.specs.Outside.{Outside}
use Rattle.command_refusals.specs.Refusal.{line_of, status_of}
use Rattle.command_answers.specs.Ingested.{FileOutcome, PrintsCame, line_of_came}
use Rattle.command_answers.specs.Taken.{file_error, file_status, gravest}
use Rattle.file_outcomes.specs.Taken.{AreToldAs, error_of, line_of_taken, status_of_taken}
use Rattle.file_outcomes.specs.declared.file_report.FileReport.{FileReport}

-- ---- files that are told so

pub lines_told : (came : List FileOutcome) (files : List FileReport) → AreToldAs came files → map line_of_taken files ≡ map line_of_came came
lines_told [] [] told = refl
lines_told [] (file ∷ files) told = absurd told
lines_told (c ∷ came) [] told = absurd told
lines_told (c ∷ came) (file ∷ files) told =
    let line : line_of_taken file ≡ line_of_came c = λ i. record { name = sym told.0.name i; messages = sym told.0.messages i; whole = sym told.0.whole i } in
    ap₂ (λ (l : FileLine) (ls : List FileLine). l ∷ ls) line (lines_told came files told.1)

pub statuses_told : (came : List FileOutcome) (files : List FileReport) → AreToldAs came files → map (λ (file : FileReport). file_status file.refusal) files ≡ map (λ (c : FileOutcome). file_status c.refusal) came
statuses_told [] [] told = refl
statuses_told [] (file ∷ files) told = absurd told
statuses_told (c ∷ came) [] told = absurd told
statuses_told (c ∷ came) (file ∷ files) told = ap₂ (λ (n : ℕ) (ns : List ℕ). n ∷ ns) (ap file_status (sym told.0.refusal)) (statuses_told came files told.1)

pub errors_told : (came : List FileOutcome) (files : List FileReport) → AreToldAs came files → flat_map error_of files ≡ flat_map (λ (c : FileOutcome). file_error c.name c.refusal) came
errors_told [] [] told = refl
errors_told [] (file ∷ files) told = absurd told
errors_told (c ∷ came) [] told = absurd told
errors_told (c ∷ came) (file ∷ files) told = ap₂ (λ (a b : List ℕ). a ++ b) (λ i. file_error (sym told.0.name i) (sym told.0.refusal i)) (errors_told came files told.1)

-- ---- what is printed of them

module _ (seen : Outside) (status first : ℕ) (came : List FileOutcome) (files : List FileReport) (told : AreToldAs came files) where
  -- all lines
  pub printed_all : Grew seen.out.0 seen.out.1 (directory_from first (map line_of_taken files)) → status ≡ status_of_taken files → SaysIn seen (flat_map error_of files) → Stayed seen.out_faults → PrintsCame came first seen status
  printed_all grew is said stayed = inl (
    is ∙ ap gravest (statuses_told came files told),
    subst (λ (ls : List FileLine). Grew seen.out.0 seen.out.1 (directory_from first ls)) (lines_told came files told) grew,
    subst (λ text. SaysIn seen text) (errors_told came files told) said,
    stayed,
  )

  front_told : GrewByFront seen.out.0 seen.out.1 (directory_from first (map line_of_taken files)) → GrewByFront seen.out.0 seen.out.1 (directory_from first (map line_of_came came))
  front_told = subst (λ (ls : List FileLine). GrewByFront seen.out.0 seen.out.1 (directory_from first ls)) (lines_told came files told)

  -- or not all of them were taken
  pub printed_short : (result : Result Unit PrintRefusal) (refusal : PrintRefusal) → result ≡ Err refusal → CountsOf PrintRefusal.SinkFault seen.out_faults.0 seen.out_faults.1 result
      → GrewByFront seen.out.0 seen.out.1 (directory_from first (map line_of_taken files)) → status ≡ status_of (of_read (from_print refusal)) → SaysIn seen (line_of [] (of_read (from_print refusal))) → PrintsCame came first seen status
  printed_short result PrintRefusal.SinkFault is counts front status_is said = inr (inl (record { status_is = status_is; said = said }, front_told front, counts.failed is))
  printed_short result PrintRefusal.OutOfMemory is counts front status_is said = inr (inr (record { status_is = status_is; said = said }, front_told front, counts.spared PrintRefusal.OutOfMemory is (λ e. cc (e))))
