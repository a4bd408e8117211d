-- What `bench` tells of the logs, and what it leaves.
use Rattle.std.proofs.Common.{◌≡◌, ◌⊎◌, ◌≤◌, inl, inr, ⊎_elim, refl, sym, ap, subst, ◌∙◌, ℕ, ◌+◌, List, [], ◌∷◌, Option, None, Some, Result, Err, option_map, map, arith}
use Rattle.std.specs.Prelude.{IfSome, is_ok}
use Rattle.std.specs.List.{All, flat_map, sum_by}
use Rattle.std.proofs.lemmas.List.Elements.{All-cons, All-head, All-map, All-nil, All-tail}
use Rattle.std.proofs.lemmas.List.Sums.{sum_by-cons}
use Rattle.log_seams.specs.Disk.{DiskState, IsLawful, KeepsBytes}
use Rattle.log_seams.specs.Outside.{CountsOf, Rose}
use Rattle.log_seams.proofs.MomentLemmas.{rose}
use Rattle.record_format.specs.declared.header.Header.{Header}
use Rattle.archive_meaning.specs.declared.entry.JournalEntry.{JournalEntry}
use Rattle.archive_open.specs.Shown.{RefusedAt}
use Rattle.command_refusals.specs.Outside.{Outside}
use Rattle.bench_command.specs.StepsBench.{AddsLogs, EndsLogs}
use Rattle.command_answers.specs.Benched.{IsSpared, IsTakenWhole, PrintsSummary, SumsUp, TellsParts, generated_names, segment_rows, with_logs}
use Rattle.command_refusals.specs.Ending.{EndsWith, SaysIn, Stayed, TookNothing}
use Rattle.command_refusals.specs.GoesOn.{DiskGoesOn}
use Rattle.write_commands.specs.IngestPrints.{came_of, names_of}
use Rattle.command_answers.specs.Ingested.{FileOutcome, FromArchive, HasCallCause, LeavesJournal, StandsForEither, TakesIn, TakesNothing, logs_of}
use Rattle.command_refusals.specs.Refusal.{line_of, status_of}
use Rattle.file_outcomes.specs.StepsCauses.{HaveFileCauses}
use Rattle.command_refusals.specs.declared.refusal.Refusal.{Refusal}
use Rattle.command_refusals.specs.declared.outcome.AddRefusal.{AddRefusal}
use Rattle.sink_pieces.specs.Output.{Grew}
use Rattle.sink_pieces.proofs.OutputLemmas.{Grew-nothing}
use Rattle.command_refusals.specs.Outcome.{answer_of, of_add, of_read}
use Rattle.file_outcomes.specs.Taken.{error_of, status_of_taken}
use Rattle.command_answers.specs.Taken.{gravest}
use Rattle.command_refusals.specs.declared.outcome.ReadRefusal.{ReadRefusal}
use Rattle.command_refusals.specs.declared.outcome.ReadRefusal.TheVariants.{Damaged, DiskFault, SinkFault}
use Rattle.file_outcomes.specs.declared.file_report.FileReport.{FileReport}
use Rattle.write_commands.proofs.CameLemmas.{errors_came, logs_came, names_came, statuses_came}
use Rattle.file_outcomes.proofs.LeavesLemmas.{from_archive}

-- ---- what came of the files

abbrev none_refused : FileReport → Type 0
none_refused file = file.refusal ≡ None

module _ (content : List ℕ → Option (List ℕ)) where
  messages_came : (files : List FileReport) → sum_by (λ (file : FileReport). file.messages) files ≡ sum_by (λ (c : FileOutcome). c.messages) (map (came_of content) files)
  messages_came [] = refl
  messages_came (file ∷ files) =
      sum_by-cons (λ (f : FileReport). f.messages) file files ∙ (ap (λ n. file.messages + n) (messages_came files) ∙ sym (sum_by-cons (λ (c : FileOutcome). c.messages) (came_of content file) (map (came_of content) files)))

  whole_back : (files : List FileReport) → All IsTakenWhole (map (came_of content) files) → All none_refused files
  whole_back [] all = All-nil none_refused
  whole_back (file ∷ files) all =
      All-cons none_refused file files (All-head IsTakenWhole (came_of content file) (map (came_of content) files) all) (whole_back files (All-tail IsTakenWhole (came_of content file) (map (came_of content) files) all))

  pub parts_told : (files : List FileReport) (seen : Outside) (status : ℕ) → ¬ All none_refused files → status ≡ status_of_taken files → SaysIn seen (flat_map error_of files) → TookNothing seen.out → Stayed seen.out_faults
      → TellsParts (map (came_of content) files) seen status
  parts_told files seen status part is said nothing sink = record {
    part = λ whole. part (whole_back files whole);
    status_is = is ∙ ap gravest (statuses_came content files);
    said = subst (λ text. SaysIn seen text) (errors_came content files) said;
    nothing = nothing;
    sink = sink;
  }

  pub summed_up : (files : List FileReport) (seen : Outside) (old new : DiskState) (status messages : ℕ) (answer : Result Unit ReadRefusal) → All none_refused files → messages ≡ sum_by (λ (file : FileReport). file.messages) files
      → EndsWith seen [] status (option_map of_read (answer_of answer)) → PrintsSummary (is_ok answer) messages old.seen seen.out.0 seen.out.1 → KeepsBytes old new → CountsOf DiskFault old.faults new.faults answer
      → CountsOf SinkFault seen.out_faults.0 seen.out_faults.1 answer → ((at : ℕ) → answer ≡ Err (Damaged at) → RefusedAt at old.seen) → SumsUp (map (came_of content) files) seen old new status
  summed_up files seen old new status messages answer whole is ends prints keeps disk sink damaged = record {
    whole = All-map IsTakenWhole (came_of content) files whole;
    answer = answer;
    ends = ends;
    prints = subst (λ n. PrintsSummary (is_ok answer) n new.seen seen.out.0 seen.out.1) (is ∙ messages_came files) (subst (λ s. PrintsSummary (is_ok answer) messages s seen.out.0 seen.out.1) (sym keeps.seen) prints);
    disk = disk.failed;
    sink = sink;
    damaged = λ at e. subst (RefusedAt at) (sym keeps.seen) (damaged at e);
  }

-- how it ends
pub ends_none : (seen : Outside) (told : Option Refusal) → told ≡ None → seen.err.1 ≡ seen.err.0 → EndsWith seen [] 0 told
ends_none seen told is same = subst (λ t. EndsWith seen [] 0 t) (sym is) (record { status_is = refl; said = inl (subst (λ e. Grew seen.err.0 e []) (sym same) (Grew-nothing seen.err.0)) })

pub ends_some : (seen : Outside) (told : Option Refusal) (refusal : Refusal) (status : ℕ) → told ≡ Some refusal → status ≡ status_of refusal → SaysIn seen (line_of [] refusal) → EndsWith seen [] status told
ends_some seen told refusal status is status_is said = subst (λ t. EndsWith seen [] status t) (sym is) (record { status_is = status_is; said = said })

pub refused_logs : (content : List ℕ → Option (List ℕ)) (workers : ℕ) (seen : Outside) (old new : DiskState) (status : ℕ) (refusal : AddRefusal) → status ≡ status_of (of_add refusal) → SaysIn seen (line_of [] (of_add refusal)) → TookNothing seen.out → Stayed seen.out_faults
    → HasCallCause generated_names old new refusal → FromArchive old (λ h before bytes stood. TakesNothing h before old new) → EndsLogs content workers seen old new status
refused_logs content workers seen old new status refusal is said nothing sink cause disk =
    inl (record { refusal = refusal; ends = record { status_is = is; said = said }; nothing = nothing; sink = sink; cause = cause; disk = disk })

-- ---- the disk, where nothing more is written

pub rose_on : (before mid now : ℕ) → mid ≤ now → Rose before mid → Rose before now
rose_on before mid now low (inl more) = inl (omega (arith, low, more))
rose_on before mid now low (inr full) = inr (omega (arith, low, full))

pub leaves_later : (h : Header) (before es : List JournalEntry) (old mid new : DiskState) → IsLawful mid → old.clock ≤ mid.clock → KeepsBytes mid new → mid.faults ≤ new.faults → LeavesJournal h before es old mid → LeavesJournal h before es old new
leaves_later h before es old mid new law later keeps counts leaves = record {
  tail = leaves.tail;
  one = leaves.one;
  none = λ steady. leaves.none (λ risen. steady (rose_on old.faults mid.faults new.faults counts risen));
  reads = subst (λ s. IfSome s (StandsForEither h es leaves.tail)) (sym keeps.seen) leaves.reads;
  now = λ c image. leaves.now c (keeps.no_more c image);
  since = λ c left. ⊎_elim (λ was. leaves.since c was) (λ image. leaves.since c (law.counts_now old.clock c later (keeps.no_more c image))) (keeps.time.nothing_else old.clock c later left);
}

pub takes_later : (rows : ℕ) (names : List (List ℕ)) (came : List FileOutcome) (old mid new : DiskState) → IsLawful mid → old.clock ≤ mid.clock → KeepsBytes mid new → mid.faults ≤ new.faults
    → FromArchive old (λ h before bytes stood. TakesIn rows h before stood names came old mid) → FromArchive old (λ h before bytes stood. TakesIn rows h before stood names came old new)
takes_later rows names came old mid new law later keeps counts =
    from_archive old old (λ h before bytes stood. TakesIn rows h before stood names came old mid) (λ h before bytes stood. TakesIn rows h before stood names came old new) refl (λ c image. image)
    (λ h before bytes stood only takes. record {
      added = takes.added;
      each = takes.each;
      leaves = leaves_later h before _ old mid new law later keeps counts takes.leaves;
      files = takes.files;
      content_is = takes.content_is;
      fronts = takes.fronts;
      cuts = takes.cuts;
    })

pub sums_sooner : (came : List FileOutcome) (seen : Outside) (old mid new : DiskState) (status : ℕ) → old.faults ≤ mid.faults → SumsUp came seen mid new status → SumsUp came seen old new status
sums_sooner came seen old mid new status low sums = record {
  whole = sums.whole;
  answer = sums.answer;
  ends = sums.ends;
  prints = sums.prints;
  disk = λ e. rose old.faults mid.faults new.faults new.faults low (sums.disk e) (omega arith);
  sink = sums.sink;
  damaged = sums.damaged;
}

pub logs_added : (content : List ℕ → Option (List ℕ)) (workers : ℕ) (names : List (List ℕ)) (files : List FileReport) (seen : Outside) (old mid new : DiskState) (status : ℕ) → names ≡ generated_names → names_of files ≡ names → IsLawful mid → DiskGoesOn old mid
    → KeepsBytes mid new → mid.faults ≤ new.faults → FromArchive old (λ h before bytes stood. TakesIn segment_rows h before stood names (map (came_of content) files) old mid)
    → HaveFileCauses (logs_of (with_logs content seen)) workers segment_rows old new (map (came_of content) files) → All IsSpared (map (came_of content) files) → TellsParts (map (came_of content) files) seen status ⊎ SumsUp (map (came_of content) files) seen mid new status
    → EndsLogs content workers seen old new status
logs_added content workers names files seen old mid new status four named law goes keeps counts takes causes spared told =
    let adds : AddsLogs content workers names seen old new status = record {
      came = map (came_of content) files;
      names_are = names_came content files ∙ named;
      logs = logs_came content files;
      disk = takes_later segment_rows names (map (came_of content) files) old mid new law goes.moments.later keeps counts takes;
      causes = causes;
      spared = spared;
      told = ⊎_elim (λ parts. inl parts) (λ sums. inr (sums_sooner (map (came_of content) files) seen old mid new status goes.counts sums)) told;
    } in
    inr (subst (λ ns. AddsLogs content workers ns seen old new status) four adds)
