-- What `bench` answers, on the archive that it made.
use Rattle.std.proofs.Common.{◌≡◌, ◌<◌, ◌≤◌, inl, inr, ⊎_elim, refl, sym, ap, subst, ◌∙◌, ℕ, ◌*◌, ◌+◌, map, List, [], ◌∷◌, ◌++◌, Option, None, Some, Result, Ok, Err, option_map, length, append-nil, arith}
use Rattle.std.specs.Prelude.{IfSome, is_some}
use Rattle.std.specs.List.{All, sum_by}
use Rattle.std.proofs.lemmas.List.{length-append}
use Rattle.std.proofs.lemmas.List.Concat.{length-flat_map}
use Rattle.std.proofs.lemmas.Option.{IfSome_then}
use Rattle.std.proofs.lemmas.List.Elements.{All-cons, All-head, All-nil, All-tail, All-weaker}
use Rattle.log_seams.specs.Disk.{DiskState, IsLawful, Only}
use Rattle.log_seams.specs.Outside.{CountsOf, Rose}
use Rattle.logtype_text.specs.Laws.{OneListOfParts}
use Rattle.record_format.specs.declared.header.Header.{Header}
use Rattle.record_format.specs.Header.{IsHeader, header_bytes}
use Rattle.record_format.specs.Lists.{four_bytes, text_bytes}
use Rattle.record_format.proofs.HeaderLemmas.{length-header_bytes}
use Rattle.record_format.proofs.ListLemmas.{length-four_bytes, length-list_bytes}
use Rattle.disk_journal.proofs.SpellingLemmas.{length-frame}
use Rattle.disk_journal.specs.Created.{CreateLeaves, MakesEmpty}
use Rattle.disk_journal.specs.declared.refusals.CreateRefusal.{CreateRefusal}
use Rattle.disk_journal.specs.declared.refusals.CreateRefusal.TheVariants.{DiskFault as CreateDiskFault}
use Rattle.disk_journal.specs.declared.record.TheConstants.{CLOSED_GATE}
use Rattle.ingest_meaning.specs.Room.{files_record, files_size}
use Rattle.row_codec.specs.declared.namer.Which.{Which}
use Rattle.archive_meaning.specs.declared.entry.JournalEntry.{JournalEntry}
use Rattle.archive_meaning.specs.Held.{Held, nothing_held}
use Rattle.archive_meaning.specs.Spelled.{end_of}
use Rattle.archive_meaning.specs.Stands.{StandsFor}
use Rattle.archive_meaning.proofs.RunLemmas.{one_held}
use Rattle.archive_open.specs.Shown.{StandsForNone}
use Rattle.command_refusals.specs.GoesOn.{DiskGoesOn}
use Rattle.command_refusals.specs.Outside.{Outside}
use Rattle.command_answers.specs.Answers.{AnswersBench}
use Rattle.bench_command.specs.StepsBench.{EndsLogs}
use Rattle.command_answers.specs.Benched.{FromEmpty, HasLogsCause, IsTakenWhole, RefusesLogs, RefusesMaking, TakesLogs, as_made, at_moment, default_header, generated_names, made_bytes, segment_rows, with_logs}
use Rattle.command_refusals.specs.Ending.{SaysIn, Stayed, TookNothing}
use Rattle.command_refusals.specs.Outcome.{answer_of, of_create}
use Rattle.command_refusals.specs.Reading.{IsArchive, OverJournal}
use Rattle.command_refusals.specs.Refusal.{line_of, status_of}
use Rattle.command_answers.specs.Ingested.{FileOutcome, FitIn, FromArchive, GoPast, HasCallCause, LeavesJournal, Logs, TakesIn, TakesNothing, logs_of}
use Rattle.command_answers.specs.Names.{IsFirstTooLong, IsShortName}
use Rattle.file_outcomes.specs.StepsCauses.{CameIn, HaveFileCauses, IsTarget}
use Rattle.command_refusals.specs.declared.refusal.Refusal.{Refusal}
use Rattle.command_refusals.specs.declared.outcome.AddRefusal.{AddRefusal}
use Rattle.command_refusals.specs.declared.outcome.AddRefusal.TheVariants.{NameTooLong, TooManyFiles, ArchiveFull, DiskFault, Damaged, OutOfMemory}
use Rattle.generated_logs.specs.Logs.{content_of as generated, name_of}
use Rattle.bench_command.proofs.BenchLemmas.{sums_sooner}
use Rattle.bench_command.proofs.BenchedLemmas.{bench_answers, making_answers}
use Rattle.file_outcomes.proofs.FittingLemmas.{all_fit}
use Rattle.bench_command.proofs.LogCauseLemmas.{all_counted}
use Rattle.write_commands.proofs.WholeLemmas.{came_on, file_causes, full_in_turn}

-- ---- the empty archive

default_is : IsHeader default_header
default_is = record { least_version = omega arith; most_version = omega arith; least_types = omega arith; most_types = omega arith; least_words = omega arith; most_words = omega arith; least_length = omega arith; most_length = omega arith }

empty_size : end_of default_header [] ≡ 33
empty_size = omega (arith, length-append (header_bytes default_header) [], length-header_bytes default_header)

empty_stands : StandsFor made_bytes default_header []
empty_stands = record {
  header = default_is;
  legal = record { held = nothing_held; run = refl; named = tt; short = omega (arith, empty_size) };
  stands = record { gate = CLOSED_GATE; rest = []; spells = ap (λ bytes. bytes ++ CLOSED_GATE ∷ []) (sym (append-nil (header_bytes default_header))); closed = λ e. absurd (cc (e)) };
}

-- the bytes that were made are an archive
pub made_archive : (told : Option (List ℕ)) → IfSome told (λ bytes. bytes ≡ header_bytes default_header ++ CLOSED_GATE ∷ []) → IfSome told IsArchive
made_archive None made = tt
made_archive (Some bytes) made = record { h = default_header; es = []; stands = subst (λ b. StandsFor b default_header []) (sym made) empty_stands }

-- the names of the four logs take few bytes
text_size : (text : List ℕ) → length (text_bytes text) ≡ 4 + length text
text_size text = omega (arith, length-append (four_bytes (length text)) text, length-four_bytes (length text))

names_size : files_size generated_names ≡ 46
names_size =
    omega (
      arith,
      length-frame (files_record generated_names),
      length-list_bytes generated_names,
      length-flat_map text_bytes generated_names,
      text_size (name_of 0),
      text_size (name_of 1),
      text_size (name_of 2),
      text_size (name_of 3),
    )

-- what holds of all holds of the later ones
All-back : {X : Type 0} (P : X → Type 0) (xs ys : List X) → All P (xs ++ ys) → All P ys
All-back P [] ys all = all
All-back P (x ∷ xs) ys all = All-back P xs ys (All-tail P x (xs ++ ys) all)

module _ (old mid : DiskState) (made : MakesEmpty default_header old mid) (tells : is_some mid.seen ≡ is_some old.seen) (later : old.clock ≤ mid.clock) (steady : mid.faults ≡ old.faults) (law : IsLawful mid) where
  from_empty : (new : DiskState) → DiskGoesOn mid new → (P : (h : Header) (before : List JournalEntry) (bytes : List ℕ) → StandsFor bytes h before → Type 0) (Q : DiskState → (bytes : List ℕ) → StandsFor bytes default_header [] → Type 0) → FromArchive mid P
      → ((bytes : List ℕ) (stood : StandsFor bytes default_header []) → P default_header [] bytes stood → Q (at_moment mid.clock old) bytes stood) → FromEmpty old new Q
  from_empty new goes P Q from step = go old.seen mid.seen made.none made.made tells made.synced law.reads_as from
    where
      go : (was now : Option (List ℕ)) → IfSome was (λ told. told ≡ []) → IfSome now (λ told. told ≡ header_bytes default_header ++ CLOSED_GATE ∷ []) → is_some now ≡ is_some was → Only now mid.images → IfSome now mid.images
          → IfSome now (λ bytes. (h : Header) (before : List JournalEntry) (stood : StandsFor bytes h before) → ((c : List ℕ) → mid.images c → StandsFor c h before) → P h before bytes stood)
          → IfSome was (λ w. (w ≡ []) × ((t : ℕ) × ((old.clock ≤ t) × new.since t made_bytes) × ((bytes : List ℕ) × ((stood : StandsFor bytes default_header []) × Q (at_moment t old) bytes stood))))
      go None now none made tells only reads from = tt
      go (Some was) None none made tells only reads from = absurd (cc (tells))
      go (Some was) (Some bytes) none made tells only reads from =
          let stood : StandsFor bytes default_header [] = subst (λ b. StandsFor b default_header []) (sym made) empty_stands in
          (none, (mid.clock, (later, goes.moments.keeps mid.clock made_bytes (omega arith) (law.counts_now mid.clock made_bytes (omega arith) (subst mid.images made reads))), (bytes, (stood, step bytes stood (from default_header [] stood (λ c image. subst (λ b. StandsFor b default_header []) (sym (only c image)) stood))))))

  -- where the bytes are told, they stand for the empty journal
  told_empty : (R : List ℕ → Type 0) → IfSome mid.seen R → ((bytes : List ℕ) → StandsFor bytes default_header [] → R bytes → ⊥) → IfSome old.seen (λ _. ⊥)
  told_empty R holds against = go old.seen mid.seen made.made tells holds
    where
      go : (was now : Option (List ℕ)) → IfSome now (λ told. told ≡ header_bytes default_header ++ CLOSED_GATE ∷ []) → is_some now ≡ is_some was → IfSome now R → IfSome was (λ _. ⊥)
      go None now made tells holds = tt
      go (Some was) None made tells holds = absurd (cc (tells))
      go (Some was) (Some bytes) made tells holds = against bytes (subst (λ b. StandsFor b default_header []) (sym made) empty_stands) holds

  leaves_from : (es : List JournalEntry) (new : DiskState) → LeavesJournal default_header [] es mid new → LeavesJournal default_header [] es (at_moment mid.clock old) new
  leaves_from es new leaves = record {
    tail = leaves.tail;
    one = leaves.one;
    none = λ calm. leaves.none (λ risen. calm (subst (λ n. Rose n new.faults) steady risen));
    reads = leaves.reads;
    now = leaves.now;
    since = leaves.since;
  }

  nothing_from : (new : DiskState) → DiskGoesOn mid new → FromArchive mid (λ h before bytes stood. TakesNothing h before mid new) → FromEmpty old new (λ from bytes stood. TakesNothing default_header [] from new)
  nothing_from new goes from =
      from_empty new goes (λ h before bytes stood. TakesNothing h before mid new) (λ start bytes stood. TakesNothing default_header [] start new) from (λ bytes stood nothing. record { leaves = leaves_from [] new nothing.leaves })

  takes_from : (came : List FileOutcome) (new : DiskState) → DiskGoesOn mid new → FromArchive mid (λ h before bytes stood. TakesIn segment_rows h before stood generated_names came mid new)
      → FromEmpty old new (λ from bytes stood. TakesIn segment_rows default_header [] stood generated_names came from new)
  takes_from came new goes from =
      from_empty new goes (λ h before bytes stood. TakesIn segment_rows h before stood generated_names came mid new) (λ start bytes stood. TakesIn segment_rows default_header [] stood generated_names came start new) from
      (λ bytes stood takes. record { added = takes.added; each = takes.each; leaves = leaves_from _ new takes.leaves; files = takes.files; content_is = takes.content_is; fronts = takes.fronts; cuts = takes.cuts })

  -- ---- causes

  all_named : All IsShortName generated_names
  all_named =
      All-cons IsShortName (name_of 0) (name_of 1 ∷ name_of 2 ∷ name_of 3 ∷ []) (omega arith)
      (All-cons IsShortName (name_of 1) (name_of 2 ∷ name_of 3 ∷ []) (omega arith)
      (All-cons IsShortName (name_of 2) (name_of 3 ∷ []) (omega arith) (All-cons IsShortName (name_of 3) [] (omega arith) (All-nil IsShortName))))

  none_long : (index : ℕ) → IsFirstTooLong generated_names index → ⊥
  none_long index long =
      let both : All IsShortName (long.before ++ long.name ∷ long.after) = subst (All IsShortName) long.splits all_named in
      let one : IsShortName long.name = All-head IsShortName long.name long.after (All-back IsShortName long.before (long.name ∷ long.after) both) in
      omega (arith, one, long.long)

  none_full : (end need : ℕ) → end ≡ end_of default_header [] → need ≡ files_size generated_names → default_header.length_limit < end + need → ⊥
  none_full end need at is full = omega (arith, at, is, full, empty_size, names_size)

  none_seen : (new : DiskState) (told : Option (List ℕ)) → IfSome told (λ w. (w ≡ []) × ((t : ℕ) × ((old.clock ≤ t) × new.since t made_bytes) × ((bytes : List ℕ) × (StandsFor bytes default_header [] × ⊥)))) → IfSome told (λ _. ⊥)
  none_seen new None holds = tt
  none_seen new (Some was) (none, (t, low, (bytes, (stood, bad)))) = bad

  over_told : (P : Held → Type 0) (told : Option (List ℕ)) → OverJournal told P → IfSome told (λ bytes. (h : Header) (es : List JournalEntry) (stood : StandsFor bytes h es) → P stood.legal.held)
  over_told P None over = tt
  over_told P (Some bytes) over = over

  few_held : (held more : ℕ) → more ≡ 4 → 1048576 < held + more → (bytes : List ℕ) (stood : StandsFor bytes default_header []) → ((h : Header) (es : List JournalEntry) (stood : StandsFor bytes h es) → held ≡ length stood.legal.held.names) → ⊥
  few_held held more four many bytes stood over =
      let nothing : stood.legal.held ≡ nothing_held = one_held default_header nothing_held stood.legal.held nothing_held [] stood.legal.run refl in
      omega (arith, four, many, over default_header [] stood, ap (λ (k : Held). length k.names) nothing)

  cause_made : (new : DiskState) → DiskGoesOn mid new → (refusal : AddRefusal) → HasCallCause generated_names mid new refusal → HasLogsCause old new refusal
  cause_made new goes (NameTooLong index) cause = none_long index cause
  cause_made new goes (TooManyFiles held more) (inl (short, zero, many)) = absurd (omega (arith, short.count_is, many))
  cause_made new goes (TooManyFiles held more) (inr (refuses, counted, over)) =
      told_empty (λ bytes. (h : Header) (es : List JournalEntry) (stood : StandsFor bytes h es) → held ≡ length stood.legal.held.names) (over_told (λ (k : Held). held ≡ length k.names) mid.seen over) (few_held held more counted refuses.1)
  cause_made new goes DiskFault cause = subst (λ n. Rose n new.faults) steady cause.0
  cause_made new goes (Damaged at) cause = told_empty StandsForNone cause (λ bytes stood none. none default_header [] stood)
  cause_made new goes OutOfMemory cause = tt
  cause_made new goes (ArchiveFull end need) cause =
      none_seen new old.seen
      (from_empty new goes (λ h before bytes stood. GoPast generated_names h before (length stood.legal.held.names) end need) (λ start bytes stood. ⊥) cause
      (λ bytes stood full. none_full end need full.ends full.needs full.past))

  -- ---- what came of the logs

  -- what holds from the archive on holds from the bytes that it was made of
  made_from : (P : (h : Header) (before : List JournalEntry) (bytes : List ℕ) → StandsFor bytes h before → Type 0) → FromArchive mid P → FromArchive (as_made old) P
  made_from P from = go old.seen mid.seen made.made tells made.synced from
    where
      go : (was now : Option (List ℕ)) → IfSome now (λ told. told ≡ made_bytes) → is_some now ≡ is_some was → Only now mid.images
          → IfSome now (λ bytes. (h : Header) (before : List JournalEntry) (stood : StandsFor bytes h before) → ((c : List ℕ) → mid.images c → StandsFor c h before) → P h before bytes stood)
          → IfSome (option_map (λ _. made_bytes) was) (λ bytes. (h : Header) (before : List JournalEntry) (stood : StandsFor bytes h before) → ((c : List ℕ) → c ≡ made_bytes → StandsFor c h before) → P h before bytes stood)
      go None now made tells only from = tt
      go (Some was) None made tells only from = absurd (cc (tells))
      go (Some was) (Some bytes) made tells only from = λ h before stood each.
          subst (λ b. (s : StandsFor b h before) → ((c : List ℕ) → mid.images c → StandsFor c h before) → P h before b s) made (from h before) stood (λ c image. each c (only c image ∙ made))

  causes_from : (logs : Logs) (workers rows : ℕ) (came : List FileOutcome) (new : DiskState) → HaveFileCauses logs workers rows mid new came → HaveFileCauses logs workers rows (as_made old) new came
  causes_from logs workers rows came new have =
      let low : old.faults ≤ mid.faults = omega (arith, steady) in
      record {
        into = have.into;
        came_are = have.came_are;
        rows_are = have.rows_are;
        told = made_from (λ h before bytes stood. IsTarget have.into h before (length stood.legal.held.names)) have.told;
        causes = record {
          each = All-weaker (CameIn logs have.into mid new) (CameIn logs have.into (as_made old) new) (came_on logs have.into (as_made old) mid new low) came have.causes.each;
          cut = have.causes.cut;
          in_turn = have.causes.in_turn;
        };
      }

  all_taken : (number lines : ℕ) (came : List FileOutcome) (new : DiskState) → map (λ (c : FileOutcome). c.name) came ≡ generated_names → All (λ (c : FileOutcome). c.log ≡ generated number lines c.name) came → FromEmpty old new (λ from bytes stood. TakesIn segment_rows default_header [] stood generated_names came from new)
      → All IsTakenWhole came → IfSome old.seen (λ _. sum_by (λ (c : FileOutcome). c.messages) came ≡ 4 * lines)
  all_taken number lines came new are logged takes whole = IfSome_then old.seen takes (λ was took. all_counted number lines came took.1.2.1.1.files are logged took.1.2.1.1.fronts whole)

  -- ---- the answer

  pub answers_made : OneListOfParts → (number lines workers : ℕ) (seen : Outside) (new : DiskState) (status : ℕ) → DiskGoesOn mid new → EndsLogs (generated number lines) workers seen mid new status → AnswersBench number lines workers seen old new status
  answers_made one number lines workers seen new status goes (inl refused) =
      let refuses : RefusesLogs seen old new status = record {
        refusal = refused.refusal;
        ends = refused.ends;
        nothing = refused.nothing;
        sink = refused.sink;
        cause = cause_made new goes refused.refusal refused.cause;
        disk = nothing_from new goes refused.disk;
      } in
      bench_answers number lines workers seen old new status (goes.tells ∙ tells) (inr (inl refuses))
  answers_made one number lines workers seen new status goes (inr adds) =
      let disk = takes_from adds.came new goes adds.disk in
      let causes = causes_from (logs_of (with_logs (generated number lines) seen)) workers segment_rows adds.came new adds.causes in
      let takes : TakesLogs number lines workers seen old new status = record {
        came = adds.came;
        names_are = adds.names_are;
        logs = adds.logs;
        disk = disk;
        each = file_causes workers segment_rows (with_logs (generated number lines) seen) (as_made old) new adds.came causes;
        in_turn = full_in_turn workers segment_rows (with_logs (generated number lines) seen) (as_made old) new adds.came causes;
        fits = made_from (λ h before bytes stood. (book : Which) → FitIn h before adds.came book) (all_fit segment_rows one generated_names adds.came mid new goes.tells adds.disk);
        spared = adds.spared;
        all = all_taken number lines adds.came new adds.names_are adds.logs disk;
        told = ⊎_elim (λ parts. inl parts) (λ sums. inr (sums_sooner adds.came seen old mid new status (omega (arith, steady)) sums)) adds.told;
      } in
      bench_answers number lines workers seen old new status (goes.tells ∙ tells) (inr (inr takes))

-- the archive was not made
refused_by : (seen : Outside) (old new : DiskState) (status : ℕ) (outcome : Result Unit CreateRefusal) (refusal : Refusal) → Some refusal ≡ option_map of_create (answer_of outcome) → status ≡ status_of refusal → SaysIn seen (line_of [] refusal)
    → CreateLeaves outcome default_header old new → TookNothing seen.out → Stayed seen.out_faults → RefusesMaking seen old new status
refused_by seen old new status (Ok done) refusal is status_is said leaves nothing sink = absurd (cc (is))
refused_by seen old new status (Err r) refusal is status_is said leaves nothing sink =
    let same : refusal ≡ of_create r = cc (is) in
    record {
      refusal = r;
      ends = record { status_is = status_is ∙ ap status_of same; said = subst (λ (x : Refusal). SaysIn seen (line_of [] x)) same said };
      leaves = leaves;
      nothing = nothing;
      sink = sink;
    }

pub refused_making : (number lines workers : ℕ) (seen : Outside) (old new : DiskState) (status : ℕ) (outcome : Result Unit CreateRefusal) (refusal : Refusal) → Some refusal ≡ option_map of_create (answer_of outcome) → status ≡ status_of refusal → SaysIn seen (line_of [] refusal)
    → CreateLeaves outcome default_header old new → TookNothing seen.out → Stayed seen.out_faults → AnswersBench number lines workers seen old new status
refused_making number lines workers seen old new status outcome refusal is status_is said leaves nothing sink = making_answers number lines workers seen old new status (refused_by seen old new status outcome refusal is status_is said leaves nothing sink)

pub made_whole : (old new : DiskState) (outcome : Result Unit CreateRefusal) → None ≡ option_map of_create (answer_of outcome) → CreateLeaves outcome default_header old new → MakesEmpty default_header old new
made_whole old new (Ok done) is leaves = leaves
made_whole old new (Err r) is leaves = absurd (cc (is))

pub made_steady : (before now : ℕ) (outcome : Result Unit CreateRefusal) → None ≡ option_map of_create (answer_of outcome) → CountsOf CreateDiskFault before now outcome → now ≡ before
made_steady before now (Ok done) is counts = counts.steady
made_steady before now (Err r) is counts = absurd (cc (is))
