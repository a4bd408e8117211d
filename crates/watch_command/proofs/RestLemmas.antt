-- What is told of the new files behind a reader.
use Rattle.std.proofs.Common.{◌≡◌, ◌≢◌, ◌≤◌, ◌⊎◌, ⊎_elim, inl, inr, refl, ap, subst, ◌∙◌, ℕ, List, [], ◌∷◌, map, Option, None, Some}
use Rattle.std.specs.Prelude.{option_map}
use Rattle.std.specs.List.{flat_map}
use Rattle.sink_pieces.specs.Output.{Grew, GrewByFront}
use Rattle.sink_pieces.specs.declared.refusal.PrintRefusal.{PrintRefusal}
use Rattle.file_lines.specs.Directory.{FileLine, directory_from}
use Rattle.command_refusals.specs.Ending.{RoseIn, Stayed, TookNothing, error_line, exit_status}
use Rattle.command_refusals.specs.Outcome.{from_print, of_read}
use Rattle.command_refusals.specs.Outside.{Outside}
use Rattle.command_refusals.specs.Refusal.{Says, line_of, status_of}
use Rattle.command_refusals.specs.declared.outcome.ReadRefusal.{ReadRefusal}
use Rattle.command_refusals.proofs.RefusalLemmas.{Says-joined}
use Rattle.command_answers.specs.Ingested.{FileOutcome, line_of_came}
use Rattle.command_answers.specs.Taken.{file_error, file_status, gravest, gravest_of_call}
use Rattle.command_answers.specs.Watching.{TellsCut, TellsFiles, TellsFirst}
use Rattle.write_commands.specs.IngestPrints.{came_of}
use Rattle.file_outcomes.specs.Taken.{error_of, line_of_taken, status_of_taken}
use Rattle.file_outcomes.specs.declared.file_report.FileReport.{FileReport}
use Rattle.write_commands.proofs.CameLemmas.{errors_came, lines_came, statuses_came}
use Rattle.watch_command.specs.StepsWatched.{PrintsRest}

-- a write of the reader failed, or none did
pub is_sink : (reader : Option ReadRefusal) → (reader ≡ Some ReadRefusal.SinkFault) ⊎ (reader ≢ Some ReadRefusal.SinkFault)
is_sink None = inr (λ is. cc (is))
is_sink (Some ReadRefusal.DiskFault) = inr (λ is. cc (is))
is_sink (Some (ReadRefusal.Damaged at)) = inr (λ is. cc (is))
is_sink (Some ReadRefusal.SinkFault) = inl refl
is_sink (Some ReadRefusal.OutOfMemory) = inr (λ is. cc (is))

-- ---- the error output

-- the line of the reader, if it read no further, and the status for it
pub record TellsReader (reader : Option ReadRefusal) (one : ℕ) (old mid : Option (List ℕ)) (before between : ℕ) : Type 0 where
  pub status_is : one ≡ exit_status (option_map of_read reader)
  pub said : Says old mid before between (error_line [] (option_map of_read reader))
  pub later : before ≤ between

-- a text behind it, and the graver of both statuses
pub record TellsOther (one other status : ℕ) (mid new : Option (List ℕ)) (between after : ℕ) (text : List ℕ) : Type 0 where
  pub status_is : status ≡ gravest_of_call (one ∷ other ∷ [])
  pub said : Says mid new between after text
  pub later : between ≤ after

module _ (reader : Option ReadRefusal) (seen : Outside) (one other status between : ℕ) (mid : Option (List ℕ)) (first : TellsReader reader one seen.err.0 mid seen.err_faults.0 between) where
  tells_first : (text : List ℕ) → TellsOther one other status mid seen.err.1 between seen.err_faults.1 text → TellsFirst reader other text seen status
  tells_first text then = record {
    status_is = then.status_is ∙ ap (λ n. gravest_of_call (n ∷ other ∷ [])) first.status_is;
    said = Says-joined seen.err.0 mid seen.err.1 seen.err_faults.0 between seen.err_faults.1 (error_line [] (option_map of_read reader)) text first.later then.later first.said then.said;
  }

  -- a line for each file that is not whole
  pub tells_files : (logs : List ℕ → Option (List ℕ)) (files : List FileReport) → other ≡ status_of_taken files → TellsOther one other status mid seen.err.1 between seen.err_faults.1 (flat_map error_of files)
      → TellsFiles reader (map (came_of logs) files) seen status
  tells_files logs files is then =
      let same : other ≡ gravest (map (λ (c : FileOutcome). file_status c.refusal) (map (came_of logs) files)) = is ∙ ap gravest (statuses_came logs files) in
      subst (λ n. TellsFirst reader n (flat_map (λ (c : FileOutcome). file_error c.name c.refusal) (map (came_of logs) files)) seen status) same
      (subst (λ text. TellsFirst reader other text seen status) (errors_came logs files) (tells_first (flat_map error_of files) then))

  -- why not all lines were printed
  pub tells_cut : (refusal : PrintRefusal) → other ≡ status_of (of_read (from_print refusal)) → TellsOther one other status mid seen.err.1 between seen.err_faults.1 (line_of [] (of_read (from_print refusal)))
      → TellsCut reader (of_read (from_print refusal)) seen status
  tells_cut refusal is then =
      subst (λ n. TellsFirst reader n (line_of [] (of_read (from_print refusal))) seen status) is (tells_first (line_of [] (of_read (from_print refusal))) then)

-- ---- the lines of the files

module _ (logs : List ℕ → Option (List ℕ)) (reader : Option ReadRefusal) (files : List FileReport) (first : ℕ) (seen : Outside) (status : ℕ) where
  abbrev came : List FileOutcome
  came = map (came_of logs) files

  abbrev lines_taken : List FileLine
  lines_taken = map line_of_taken files

  -- they were printed, or the reader's write failed
  pub rest_told : TellsFiles reader came seen status → (reader ≡ Some ReadRefusal.SinkFault → TookNothing seen.out) → (reader ≢ Some ReadRefusal.SinkFault → Grew seen.out.0 seen.out.1 (directory_from first lines_taken))
      → Stayed seen.out_faults → PrintsRest reader came first seen status
  rest_told tells silent done stayed =
      ⊎_elim
      (λ (sink : reader ≡ Some ReadRefusal.SinkFault). inr (inl (tells, sink, silent sink, stayed)))
      (λ (spared : reader ≢ Some ReadRefusal.SinkFault). inl (tells, spared, subst (λ (ls : List FileLine). Grew seen.out.0 seen.out.1 (directory_from first ls)) (lines_came logs files) (done spared), stayed))
      (is_sink reader)

  front_came : GrewByFront seen.out.0 seen.out.1 (directory_from first lines_taken) → GrewByFront seen.out.0 seen.out.1 (directory_from first (map line_of_came came))
  front_came grew = subst (λ (ls : List FileLine). GrewByFront seen.out.0 seen.out.1 (directory_from first ls)) (lines_came logs files) grew

  -- they were cut short
  pub rest_cut : (refusal : PrintRefusal) → reader ≢ Some ReadRefusal.SinkFault → TellsCut reader (of_read (from_print refusal)) seen status → GrewByFront seen.out.0 seen.out.1 (directory_from first lines_taken)
      → (refusal ≡ PrintRefusal.SinkFault → RoseIn seen.out_faults) → (refusal ≢ PrintRefusal.SinkFault → Stayed seen.out_faults) → PrintsRest reader came first seen status
  rest_cut PrintRefusal.SinkFault spared tells grew rose stayed = inr (inr (inl (tells, spared, front_came grew, rose refl)))
  rest_cut PrintRefusal.OutOfMemory spared tells grew rose stayed = inr (inr (inr (tells, spared, front_came grew, stayed (λ is. cc (is)))))
