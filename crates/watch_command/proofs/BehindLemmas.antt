-- What `ingest --watch` answers, from what its reader printed and what is printed behind it.
use Rattle.std.proofs.Common.{◌≡◌, ◌≢◌, ◌≤◌, inl, inr, refl, sym, ap, subst, ◌∙◌, ℕ, List, [], ◌∷◌, ◌++◌, length, map, append_assoc, Option, None, Some, arith}
use Rattle.std.specs.Prelude.{IfSome, is_some, option_map}
use Rattle.log_seams.specs.Disk.{DiskState}
use Rattle.log_seams.specs.Outside.{Rose}
use Rattle.log_seams.proofs.MomentLemmas.{rose}
use Rattle.record_format.specs.declared.header.Header.{Header}
use Rattle.logtype_text.specs.Laws.{OneListOfParts}
use Rattle.wild_match.specs.declared.pattern.Item.{Item}
use Rattle.archive_meaning.specs.declared.entry.JournalEntry.{JournalEntry}
use Rattle.archive_meaning.specs.declared.entry.JournalEntry.TheVariants.{Files}
use Rattle.archive_meaning.specs.Stands.{StandsFor}
use Rattle.sink_pieces.specs.Output.{Grew, GrewByFront}
use Rattle.sink_pieces.proofs.OutputLemmas.{Grew-append}
use Rattle.file_lines.specs.Directory.{directory_from}
use Rattle.command_refusals.specs.Ending.{error_line}
use Rattle.command_refusals.specs.Outcome.{of_read}
use Rattle.command_refusals.specs.Outside.{Outside}
use Rattle.command_refusals.specs.Reading.{OverJournal}
use Rattle.command_refusals.specs.Refusal.{Says}
use Rattle.command_refusals.specs.declared.outcome.ReadRefusal.{ReadRefusal}
use Rattle.command_answers.specs.Ingested.{FileOutcome, FromArchive, TakesFiles, TakesIn, line_of_came, logs_of}
use Rattle.command_answers.specs.Watching.{HasReaderCause, PrintsBehind, TellsFirst, TellsLive, WatchesFiles}
use Rattle.write_commands.specs.IngestPrints.{came_of, names_of}
use Rattle.file_outcomes.specs.StepsCauses.{HaveFileCauses}
use Rattle.file_outcomes.specs.declared.file_report.FileReport.{FileReport}
use Rattle.write_commands.proofs.CameLemmas.{takes_with}
use Rattle.file_outcomes.proofs.LeavesLemmas.{from_archive}
use Rattle.watch_command.specs.Extended.{text_behind}
use Rattle.watch_command.specs.StepsWatched.{PrintsLive, PrintsRest, WasWatched}
use Rattle.watch_command.proofs.ExtendedLemmas.{text_is}

-- a front of a text behind another
grew_front : (old mid new : Option (List ℕ)) (a b : List ℕ) → Grew old mid a → GrewByFront mid new b → GrewByFront old new (a ++ b)
grew_front old mid new a b grew front =
    (a ++ front.0, front.1, ap (λ (l : List ℕ). a ++ l) front.2 ∙ sym (append_assoc a front.0 front.1), Grew-append old mid new a front.0 grew front.3)

-- The second tells of both outputs what was told at the end, of the error output what was told all along, and of the logs
-- whatever it tells.
pub record EndsAs (seen rest : Outside) : Type 0 where
  pub out : rest.out.1 ≡ seen.out.1
  pub faults : rest.out_faults.1 ≡ seen.out_faults.1
  pub err : rest.err ≡ seen.err
  pub err_faults : rest.err_faults ≡ seen.err_faults

-- ---- printed behind a reader

module _ (reader : Option ReadRefusal) (seen rest : Outside) (status : ℕ) (ends : EndsAs seen rest) where
  tells_on : (other : ℕ) (text : List ℕ) → TellsFirst reader other text rest status → TellsFirst reader other text seen status
  tells_on other text tells =
      let all : List ℕ = error_line [] (option_map of_read reader) ++ text in
      record {
        status_is = tells.status_is;
        said = subst (λ (e : Option (List ℕ) × Option (List ℕ)). Says e.0 e.1 seen.err_faults.0 seen.err_faults.1 all) ends.err
            (subst (λ (n : ℕ × ℕ). Says rest.err.0 rest.err.1 n.0 n.1 all) ends.err_faults tells.said);
      }

  pub prints_behind : (text : List ℕ) (came : List FileOutcome) (first : ℕ) → Grew seen.out.0 rest.out.0 text → seen.out_faults.0 ≤ rest.out_faults.0
      → (reader ≢ Some ReadRefusal.SinkFault → rest.out_faults.0 ≡ seen.out_faults.0) → (reader ≡ Some ReadRefusal.SinkFault → Rose seen.out_faults.0 rest.out_faults.0)
      → PrintsRest reader came first rest status → PrintsBehind reader text came first seen status
  prints_behind text came first grew later steady cause (inl all) =
      inl (
        tells_on _ _ all.0,
        all.1,
        subst (λ (o : Option (List ℕ)). Grew seen.out.0 o (text ++ directory_from first (map line_of_came came))) ends.out
            (Grew-append seen.out.0 rest.out.0 rest.out.1 text (directory_from first (map line_of_came came)) grew all.2),
        sym ends.faults ∙ (all.3 ∙ steady all.1),
      )
  prints_behind text came first grew later steady cause (inr (inl none)) =
      inr (inl (
        tells_on _ _ none.0,
        none.1,
        subst (λ (o : Option (List ℕ)). Grew seen.out.0 o text) (sym none.2 ∙ ends.out) grew,
        subst (λ n. Rose seen.out_faults.0 n) (sym none.3 ∙ ends.faults) (cause none.1),
      ))
  prints_behind text came first grew later steady cause (inr (inr (inl cut))) =
      inr (inr (inl (
        tells_on _ _ cut.0,
        cut.1,
        subst (λ (o : Option (List ℕ)). GrewByFront seen.out.0 o (text ++ directory_from first (map line_of_came came))) ends.out
            (grew_front seen.out.0 rest.out.0 rest.out.1 text (directory_from first (map line_of_came came)) grew cut.2),
        rose seen.out_faults.0 rest.out_faults.0 rest.out_faults.1 seen.out_faults.1 later cut.3 (omega (arith, ends.faults)),
      )))
  prints_behind text came first grew later steady cause (inr (inr (inr cut))) =
      inr (inr (inr (
        tells_on _ _ cut.0,
        cut.1,
        subst (λ (o : Option (List ℕ)). GrewByFront seen.out.0 o (text ++ directory_from first (map line_of_came came))) ends.out
            (grew_front seen.out.0 rest.out.0 rest.out.1 text (directory_from first (map line_of_came came)) grew cut.2),
        sym ends.faults ∙ (cut.3 ∙ steady cut.1),
      )))

-- ---- the whole answer

-- the cause of the reader's end still is one when the output failed later
cause_on : (reader : Option ReadRefusal) (first between last : ℕ) (old new : DiskState) → between ≤ last → HasReaderCause (first, between) old new reader → HasReaderCause (first, last) old new reader
cause_on None first between last old new later cause = tt
cause_on (Some ReadRefusal.DiskFault) first between last old new later cause = cause
cause_on (Some (ReadRefusal.Damaged at)) first between last old new later cause = cause
cause_on (Some ReadRefusal.SinkFault) first between last old new later cause = rose first first between last (omega arith) cause later
cause_on (Some ReadRefusal.OutOfMemory) first between last old new later cause = tt

-- a write of the reader failed
sink_rose : (reader : Option ReadRefusal) (counts : ℕ × ℕ) (old new : DiskState) → HasReaderCause counts old new reader → reader ≡ Some ReadRefusal.SinkFault → Rose counts.0 counts.1
sink_rose reader counts old new cause is = subst (HasReaderCause counts old new) is cause

-- where the output tells what it took, what the reader printed is told
told_live : {before : List JournalEntry} {bytes : List ℕ} (h : Header) (stood : StandsFor bytes h before) (items : List Item) (added : List JournalEntry) (reader : Option ReadRefusal) (out mid : Option (List ℕ))
    → PrintsLive h stood items added reader (out, mid) → IfSome out (λ _. TellsLive h stood items added reader (text_behind out mid))
told_live h stood items added reader None mid printed = tt
told_live h stood items added reader (Some had) mid printed = subst (λ (text : List ℕ). TellsLive h stood items added reader text) (text_is had mid printed.text printed.grew) printed.tells

watches : (workers rows : ℕ) (items : List Item) (names : List (List ℕ)) (seen rest : Outside) (old new : DiskState) (status : ℕ) (reader : Option ReadRefusal) (takes : TakesFiles workers rows names seen old new)
    → EndsAs seen rest → Grew seen.out.0 rest.out.0 (text_behind seen.out.0 rest.out.0) → seen.out_faults.0 ≤ rest.out_faults.0 → rest.out_faults.0 ≤ rest.out_faults.1
    → WasWatched rows items names takes.adds.came reader (seen.out.0, rest.out.0) (seen.out_faults.0, rest.out_faults.0) old new
    → PrintsRest reader takes.adds.came takes.adds.first rest status → WatchesFiles workers rows items names seen old new status
watches workers rows items names seen rest old new status reader takes ends grew later last was printed = record {
  takes = takes;
  reader = reader;
  cause = cause_on reader seen.out_faults.0 rest.out_faults.0 seen.out_faults.1 old new (omega (arith, last, ends.faults)) was.cause;
  text = text_behind seen.out.0 rest.out.0;
  printed = prints_behind reader seen rest status ends (text_behind seen.out.0 rest.out.0) takes.adds.came takes.adds.first grew later was.steady
      (sink_rose reader (seen.out_faults.0, rest.out_faults.0) old new was.cause) printed;
  live = from_archive old old
      (λ h before bytes stood. (t : TakesIn rows h before stood names takes.adds.came old new) × PrintsLive h stood items (Files names ∷ t.added) reader (seen.out.0, rest.out.0))
      (λ h before bytes stood. (t : TakesIn rows h before stood names takes.adds.came old new) × IfSome seen.out.0 (λ _. TellsLive h stood items (Files names ∷ t.added) reader (text_behind seen.out.0 rest.out.0)))
      refl (λ c image. image)
      (λ h before bytes stood only live. (live.0, told_live h stood items (Files names ∷ live.0.added) reader seen.out.0 rest.out.0 live.1)) was.live;
}

-- the same of files that are told with their reports
pub watches_came : (one : OneListOfParts) (workers rows : ℕ) (items : List Item) (names : List (List ℕ)) (seen rest : Outside) (old new : DiskState) (status : ℕ) (reader : Option ReadRefusal) → is_some new.seen ≡ is_some old.seen
    → (first : ℕ) (files : List FileReport) → names_of files ≡ names → OverJournal old.seen (λ journal. first ≡ length journal.names)
    → FromArchive old (λ h before bytes stood. TakesIn rows h before stood names (map (came_of seen.content) files) old new) → HaveFileCauses (logs_of seen) workers rows old new (map (came_of seen.content) files)
    → EndsAs seen rest → Grew seen.out.0 rest.out.0 (text_behind seen.out.0 rest.out.0) → seen.out_faults.0 ≤ rest.out_faults.0 → rest.out_faults.0 ≤ rest.out_faults.1
    → WasWatched rows items names (map (came_of seen.content) files) reader (seen.out.0, rest.out.0) (seen.out_faults.0, rest.out_faults.0) old new
    → PrintsRest reader (map (came_of seen.content) files) first rest status → WatchesFiles workers rows items names seen old new status
watches_came one workers rows items names seen rest old new status reader tells first files named numbered disk caused ends grew later last was printed =
    let both : (t : TakesFiles workers rows names seen old new) × (WasWatched rows items names t.adds.came reader (seen.out.0, rest.out.0) (seen.out_faults.0, rest.out_faults.0) old new × PrintsRest reader t.adds.came t.adds.first rest status) =
    takes_with one workers rows names seen old new tells first files named numbered disk caused
    (λ came n. WasWatched rows items names came reader (seen.out.0, rest.out.0) (seen.out_faults.0, rest.out_faults.0) old new × PrintsRest reader came n rest status) (was, printed) in
    watches workers rows items names seen rest old new status reader both.0 ends grew later last both.1.0 both.1.1
