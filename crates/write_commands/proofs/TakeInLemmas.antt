-- From the logs that were opened, and their jobs, to what came of the files.
use Rattle.std.proofs.Common.{◌≡◌, ◌<◌, inl, inr, refl, sym, ap, subst, ◌∙◌, ℕ, zero, suc, List, [], ◌∷◌, ◌++◌, true, false, length, map, Option, Some, None}
use Rattle.std.specs.Prelude.{All, Bool, is_some, not, option_map, slice_get}
use Rattle.std.specs.List.{AllZip}
use Rattle.std.proofs.lemmas.List.Elements.{All-map, All-nil, All-weaker}
use Rattle.std.proofs.lemmas.Option.{get_or_from_slice_get, slice_get-map, slice_get_within}
use Rattle.log_seams.specs.declared.disk.Disk.{Ghosts as DiskGhosts}
use Rattle.log_seams.specs.declared.refusals.OpenRefused.{OpenRefused}
use Rattle.log_seams.specs.declared.refusals.OpenRefused.TheVariants.{Failed, OutOfMemory}
use Rattle.log_seams.specs.Disk.{IsLawful}
use Rattle.record_format.specs.Header.{IsHeader, header_bytes}
use Rattle.record_format.specs.declared.header.Header.{Header}
use Rattle.disk_journal.specs.Record.{Stands}
use Rattle.disk_journal.specs.Place.{AtEnd, entries}
use Rattle.disk_journal.specs.State.{JournalState}
use Rattle.disk_journal.specs.declared.journal.Journal.{Journal}
use Rattle.disk_journal.specs.Journal.{state_of}
use Rattle.archive_meaning.specs.declared.entry.JournalEntry.{JournalEntry}
use Rattle.archive_meaning.specs.declared.entry.JournalEntry.TheVariants.{Files}
use Rattle.archive_meaning.specs.Spelled.{records_of}
use Rattle.archive_meaning.specs.Stands.{IsLegal, StandsFor}
use Rattle.disk_seal.specs.Opening.{MayOpen}
use Rattle.disk_seal.specs.Told.{journal_in}
use Rattle.log_sources.specs.declared.source.LogSource.{LogSource}
use Rattle.log_sources.specs.declared.source.LogSource.TheVariants.{Opened, Unopened}
use Rattle.log_sources.specs.Sources.{CameOf, IsOpened, faults_in, is_opened, left_in, name_in, refusal_of}
use Rattle.ingest_workers.specs.declared.job.Job.{Job}
use Rattle.ingest_workers.specs.declared.outcome.Cause.{Cause}
use Rattle.ingest_workers.specs.Ingested.{AreRefused, HasIngested, IsAsItWas, plan_of}
use Rattle.ingest_workers.specs.JobDone.{in_source}
use Rattle.write_commands.specs.IngestPrints.{came_of, names_of}
use Rattle.command_answers.specs.Ingested.{FileOutcome, IsOfNew}
use Rattle.file_outcomes.specs.Jobs.{DidJobs, IsNotBegun, IsToldBy, opens_of, refusal_by, sources_of}
use Rattle.file_outcomes.specs.JournalLeft.{HasNames, IsLogOf, TakesInto}
use Rattle.file_outcomes.specs.Naming.{AreNumbered}
use Rattle.command_refusals.specs.declared.outcome.PartCause.{PartCause}
use Rattle.file_outcomes.specs.declared.file_report.FileReport.{FileReport}
use Rattle.write_commands.proofs.CameLemmas.{names_came}
use Rattle.file_outcomes.proofs.ContentLemmas.{AreJobsOf, CameOfJob, ingested_taken, named_at, none_new, refused_taken, taken_in}
use Rattle.write_commands.proofs.JobLemmas.{numbered_at}
use Rattle.file_outcomes.proofs.LeavesLemmas.{of_told, same_leaves}

-- ---- the journal with the names

-- it is legal, and each image of it stands for it
stands_named : (h : Header) (before : List JournalEntry) (names : List (List ℕ)) (j : JournalState) → MayOpen j → HasNames h before names j
    → IsLegal h (before ++ Files names ∷ []) × ((c : List ℕ) → j.disk.images c → StandsFor c h (before ++ Files names ∷ []))
stands_named h before names j may has =
    let legal : IsLegal h (before ++ Files names ∷ []) = subst (λ x. IsLegal x (before ++ Files names ∷ [])) has.header (subst (IsLegal j.header) has.entries (of_told (is_some j.disk.seen) has.told may.legal)) in
    (legal, λ c image. record { header = subst IsHeader has.header may.header; legal = legal; stands = go j.disk.seen has.told has.entries may.spelled may.ends.ends c image })
  where
    go : (told : Option (List ℕ)) → is_some told ≡ true → journal_in told j.count ≡ before ++ Files names ∷ [] → entries told j.count ≡ records_of (journal_in told j.count)
        → AtEnd (header_bytes j.header) j.place j.count told j.disk.images → (c : List ℕ) → j.disk.images c → Stands (header_bytes h) (records_of (before ++ Files names ∷ [])) c
    go None some are spelled ends c image = absurd (cc (some))
    go (Some b) some are spelled ends c image =
        subst (λ x. Stands (header_bytes x) (records_of (before ++ Files names ∷ [])) c) has.header
        (subst (λ rs. Stands (header_bytes j.header) rs c) (spelled ∙ ap records_of are) (subst (λ x. Stands (header_bytes j.header) (entries (Some b) j.count) x) (sym (ends.only c image)) ends.stands))

-- ---- without memory to begin

-- there was no memory to begin with the file
abbrev IsRefused : FileOutcome → Type 0
IsRefused c = (c.messages ≡ 0) × (c.whole ≡ false) × (c.refusal ≡ Some PartCause.OutOfMemory)

-- nothing is added of files that were not begun
pub none_takes_into : {D : Type 0} {d : DiskGhosts D} (rows : ℕ) → 0 < rows → (content : List ℕ → Option (List ℕ)) (names : List (List ℕ)) (first : ℕ) (taken : List FileReport) → names_of taken ≡ names → All IsNotBegun taken
    → (j : Journal D d) → IsLawful (d.state j.disk.now) → MayOpen (state_of j) → TakesInto rows names first (map (came_of content) taken) (state_of j) (state_of j)
none_takes_into {D} {d} rows some content names first taken named none j law may = λ h before bytes stood has number.
    let stands = stands_named h before names (state_of j) may has in
    let nothing = All-nil (IsOfNew h.version came (length stood.legal.held.names)) in
    let t = taken_in h before names stood [] stands.0 came nothing rows (d.state j.disk.now) (d.state j.disk.now) (same_leaves h before names j j law has law stands.1 (inl refl)) are
    (λ i c at.
    let refused = refused_at i c at in
    none_new h before names stood [] stands.0 came nothing rows i c some (slice_get_within names i c.name (named_at came names are i c at)) refl refused.0 refused.1 (λ spared. absurd (cc (sym refused.2 ∙ spared))))
    (λ i c at spared. absurd (cc (sym (refused_at i c at).2 ∙ spared))) in
    record { takes = t.0; entries = has.entries ∙ ap (λ (l : List JournalEntry). before ++ (Files names ∷ l)) (sym t.1) }
  where
    came : List FileOutcome
    came = map (came_of content) taken

    are : map (λ (c : FileOutcome). c.name) came ≡ names
    are = names_came content taken ∙ named

    refused_at : (i : ℕ) (c : FileOutcome) → slice_get came i ≡ Some c → IsRefused c
    refused_at i c at =
        subst IsRefused (get_or_from_slice_get came i c c at)
        (All-map IsRefused (came_of content) taken (All-weaker IsNotBegun (λ (file : FileReport). IsRefused (came_of content file)) (λ file n. (n.messages, n.whole, n.refusal)) taken none) i c (slice_get_within came i c at))

-- ---- each job has the source of its name

-- at one place: a name, its source, and the job with this source
record IsPlace {S A : Type 0} (R : List ℕ → A → Type 0) (names : List (List ℕ)) (sources : List A) (i : ℕ) (job : Job S) (source_is : Option S → A → Type 0) : Type 0 where
  name : List ℕ
  source : A
  name_at : slice_get names i ≡ Some name
  source_at : slice_get sources i ≡ Some source
  has : source_is job.source source
  came : R name source

module _ {A : Type 0} (R : List ℕ → A → Type 0) where
  abbrev Place : List (List ℕ) → List A → ℕ → Job A → Type 0
  Place names sources i job = IsPlace R names sources i job (λ o s. o ≡ Some s)

  place_of : (names : List (List ℕ)) (sources : List A) (js : List (Job A)) → AllZip R names sources → sources_of js ≡ map Some sources → (i : ℕ) (job : Job A) → slice_get js i ≡ Some job → Place names sources i job
  place_of names sources [] zip same i job at = absurd (cc (at))
  place_of names [] (j ∷ js) zip same i job at = absurd (cc (same))
  place_of [] (s ∷ sources) (j ∷ js) zip same i job at = absurd zip
  place_of (n ∷ names) (s ∷ sources) (j ∷ js) zip same zero job at =
      let is : j ≡ job = cc (at) in
      record { name = n; source = s; name_at = refl; source_at = refl; has = ap (λ (x : Job A). x.source) (sym is) ∙ cc (same); came = zip.0 }
  place_of (n ∷ names) (s ∷ sources) (j ∷ js) zip same (suc i) job at =
      let rest = place_of names sources js zip.1 (cc (same)) i job at in
      record { name = rest.name; source = rest.source; name_at = rest.name_at; source_at = rest.source_at; has = rest.has; came = rest.came }

  job_at : (names : List (List ℕ)) (sources : List A) (js : List (Job A)) → AllZip R names sources → sources_of js ≡ map Some sources → (i : ℕ) (name : List ℕ) → slice_get names i ≡ Some name → (job : Job A) × (slice_get js i ≡ Some job)
  job_at [] sources js zip same i name at = absurd (cc (at))
  job_at (n ∷ names) [] js zip same i name at = absurd zip
  job_at (n ∷ names) (s ∷ sources) [] zip same i name at = absurd (cc (same))
  job_at (n ∷ names) (s ∷ sources) (j ∷ js) zip same zero name at = (j, refl)
  job_at (n ∷ names) (s ∷ sources) (j ∷ js) zip same (suc i) name at = job_at names sources js zip.1 (cc (same)) i name at

-- the job is to be read where its log was opened
open_at : {S : Type 0} (sources : List (LogSource S)) (js : List (Job (LogSource S))) → opens_of js ≡ map is_opened sources → (i : ℕ) (job : Job (LogSource S)) (s : LogSource S) → slice_get js i ≡ Some job → slice_get sources i ≡ Some s
    → job.is_open ≡ is_opened s
open_at {S} sources js same i job s at source_at =
    some_is (sym (slice_get-map (λ (x : Job (LogSource S)). x.is_open) js i ∙ ap (option_map (λ (x : Job (LogSource S)). x.is_open)) at)
    ∙ (ap (λ (l : List Bool). slice_get l i) same ∙ (slice_get-map is_opened sources i ∙ ap (option_map is_opened) source_at)))
  where
    some_is : {x y : Bool} → Some x ≡ Some y → x ≡ y
    some_is e = cc (e)

-- a source was opened where its opening was not refused
none_refused : {S : Type 0} (s : LogSource S) (told : Bool) → is_some (refusal_of s) ≡ not told → told ≡ is_opened s
none_refused {S} (Opened s) true is = refl
none_refused {S} (Opened s) false is = absurd (cc (is))
none_refused {S} (Unopened cause n) true is = absurd (cc (is))
none_refused {S} (Unopened cause n) false is = refl

-- a source was made of the log of a file
abbrev pub CameBy : {S : Type 0} → (S → Option (List ℕ)) → (S → Option (List ℕ)) → (S → ℕ) → (List ℕ → ℕ) → (List ℕ → ℕ) → FileOutcome → LogSource S → Type 0
CameBy left name faults opens opens_now c = CameOf left name faults (λ asked. c.log) opens opens_now c.name

-- What is told of a file: its job, before and after it was done, and the log of its name, of which this was made.
pub record CameOfLog {S : Type 0} (R : FileOutcome → LogSource S → Type 0) (js js' : List (Job (LogSource S))) (i : ℕ) (c : FileOutcome) : Type 0 where
  pub source : LogSource S
  pub old : Job (LogSource S)
  pub done : Job (LogSource S)
  pub at : slice_get js i ≡ Some old
  pub at_done : slice_get js' i ≡ Some done
  pub has : old.source ≡ Some source
  pub opened : old.is_open ≡ is_opened source
  pub no_part : old.is_part ≡ false
  pub came : R c source
  pub is_open : c.opened ≡ is_opened source
  pub messages : c.messages ≡ done.outcome.messages
  pub whole : c.whole ≡ done.outcome.whole
  pub refusal : c.refusal ≡ refusal_by (refusal_of source) done.outcome.cause

module _ {S : Type 0} (left name : S → Option (List ℕ)) (faults : S → ℕ) (content : List ℕ → Option (List ℕ)) (opens opens_now : List ℕ → ℕ) where
  abbrev Came_of : List ℕ → LogSource S → Type 0
  Came_of = CameOf left name faults content opens opens_now

  abbrev By : FileOutcome → LogSource S → Type 0
  By = CameBy left name faults opens opens_now

  -- what is told of the file is told of its name
  by_name : (c : FileOutcome) (s : LogSource S) → c.log ≡ content c.name → Came_of c.name s → By c s
  by_name c (Opened s) is came = subst (λ (o : Option (List ℕ)). IsOpened left name faults o c.name s) (sym is) came
  by_name c (Unopened Failed n) is came = came
  by_name c (Unopened OutOfMemory n) is came = came

  -- where a log was opened, so it is told of the file
  log_of : (c : FileOutcome) (s : LogSource S) → By c s → c.opened ≡ is_opened s → IsLogOf c (left_in left s)
  log_of c (Opened s) came is = inl (came.left_is, is)
  log_of c (Unopened opening n) came is = inr refl

  opened_log : (c : FileOutcome) (s : LogSource S) → By c s → refusal_of s ≡ None → left_in left s ≡ c.log
  opened_log c (Opened s) came none = came.left_is
  opened_log c (Unopened cause n) came none = absurd (cc (none))

  is_open : (s : LogSource S) → refusal_of s ≡ None → is_opened s ≡ true
  is_open (Opened s) none = refl
  is_open (Unopened cause n) none = absurd (cc (none))

  module _ (names : List (List ℕ)) (sources : List (LogSource S)) (opened : AllZip Came_of names sources) (first : ℕ) (js : List (Job (LogSource S))) (sourced : sources_of js ≡ map Some sources) (opening : opens_of js ≡ map is_opened sources) (numbered : AreNumbered first js) where
    -- each file is told by its job, and by the opening of its log
    module _ (openings : List (Option OpenRefused)) (openings_are : openings ≡ map refusal_of sources) (js' : List (Job (LogSource S))) (taken : List FileReport) (named : names_of taken ≡ names)
        (told : (i : ℕ) (file : FileReport) → slice_get taken i ≡ Some file → IsToldBy openings js' i file) where
      pub came_named : map (λ (c : FileOutcome). c.name) (map (came_of content) taken) ≡ names
      came_named = names_came content taken ∙ named

      pub came_of_log : (i : ℕ) (c : FileOutcome) → slice_get (map (came_of content) taken) i ≡ Some c → CameOfLog By js js' i c
      came_of_log i c at = by_file (slice_get taken i) refl
        where
          by_file : (o : Option FileReport) → slice_get taken i ≡ o → CameOfLog By js js' i c
          by_file None none = absurd (cc (sym at ∙ (slice_get-map (came_of content) taken i ∙ ap (option_map (came_of content)) none)))
          by_file (Some file) here =
              let is : came_of content file ≡ c = some_is (came_of content file) c (sym (slice_get-map (came_of content) taken i ∙ ap (option_map (came_of content)) here) ∙ at) in
              let t = told i file here in
              let name_at : slice_get names i ≡ Some c.name = named_at (map (came_of content) taken) names came_named i c at in
              let job = job_at Came_of names sources js opened sourced i c.name name_at in
              let p = place_of Came_of names sources js opened sourced i job.0 job.1 in
              let same_name : p.name ≡ c.name = some_is p.name c.name (sym p.name_at ∙ name_at) in
              let opening_is : t.opening ≡ refusal_of p.source
              = some_is t.opening (refusal_of p.source) (sym t.opening_at ∙ (ap (λ (l : List (Option OpenRefused)). slice_get l i) openings_are ∙ (slice_get-map refusal_of sources i ∙ ap (option_map refusal_of) p.source_at))) in
              record {
                source = p.source;
                old = job.0;
                done = t.job;
                at = job.1;
                at_done = t.at;
                has = p.has;
                opened = open_at sources js opening i job.0 p.source job.1 p.source_at;
                no_part = (numbered_at first js i job.0 numbered job.1).whole;
                came = by_name c p.source (subst (λ (x : FileOutcome). x.log ≡ content x.name) is refl) (subst (λ n. Came_of n p.source) same_name p.came);
                is_open = ap (λ (x : FileOutcome). x.opened) (sym is) ∙ none_refused p.source file.opened (ap is_some (sym opening_is) ∙ t.opened);
                messages = ap (λ (x : FileOutcome). x.messages) (sym is) ∙ t.messages;
                whole = ap (λ (x : FileOutcome). x.whole) (sym is) ∙ t.whole;
                refusal = ap (λ (x : FileOutcome). x.refusal) (sym is) ∙ (t.refusal ∙ ap (λ (o : Option OpenRefused). refusal_by o t.job.outcome.cause) opening_is);
              }
            where
              some_is : {X : Type 0} (x y : X) → Some x ≡ Some y → x ≡ y
              some_is x y e = cc (e)

      -- there is a file for each job
      file_at : (i : ℕ) (name : List ℕ) → slice_get names i ≡ Some name → (c : FileOutcome) × (slice_get (map (came_of content) taken) i ≡ Some c)
      file_at i name at = go (slice_get (map (came_of content) taken) i) refl (sym (slice_get-map (λ (x : FileOutcome). x.name) (map (came_of content) taken) i) ∙ (ap (λ (l : List (List ℕ)). slice_get l i) came_named ∙ at))
        where
          go : (o : Option FileOutcome) → slice_get (map (came_of content) taken) i ≡ o → option_map (λ (x : FileOutcome). x.name) o ≡ Some name → (c : FileOutcome) × (slice_get (map (came_of content) taken) i ≡ Some c)
          go None here is = absurd (cc (is))
          go (Some c) here is = (c, here)

      pub are_jobs_of : (version : ℕ) → AreJobsOf (left_in left) version (map (came_of content) taken) first js
      are_jobs_of version = record {
        file = λ i job at. (numbered_at first js i job numbered at).file;
        log = λ i job at.
            let p = place_of Came_of names sources js opened sourced i job at in
            let f = file_at i p.name p.name_at in
            let l = came_of_log i f.0 f.1 in
            let has : job.source ≡ Some l.source = ap (λ (x : Job (LogSource S)). x.source) (some_is job l.old (sym at ∙ l.at)) ∙ l.has in
            (f.0, f.1, subst (λ (o : Option (LogSource S)). IsLogOf f.0 (in_source (left_in left) o)) (sym has) (log_of f.0 l.source l.came l.is_open));
      }
        where
          some_is : (x y : Job (LogSource S)) → Some x ≡ Some y → x ≡ y
          some_is x y e = cc (e)

      came_of_jobs : (i : ℕ) (c : FileOutcome) → slice_get (map (came_of content) taken) i ≡ Some c → CameOfJob (left_in left) js js' i c
      came_of_jobs i c at = let l = came_of_log i c at in record {
        old = l.old;
        done = l.done;
        at = l.at;
        at_done = l.at_done;
        messages = l.messages;
        whole = l.whole;
        opened = λ spared. let none = both_none (refusal_of l.source) l.done.outcome.cause (sym l.refusal ∙ spared) in (
          ap (in_source (left_in left)) l.has ∙ opened_log c l.source l.came none.0,
          l.opened ∙ is_open l.source none.0,
          l.no_part,
          none.1,
        );
      }
        where
          both_none : (opening : Option OpenRefused) (cause : Option Cause) → refusal_by opening cause ≡ None → (opening ≡ None) × (cause ≡ None)
          both_none (Some o) cause is = absurd (cc (is))
          both_none None (Some c) is = absurd (cc (is))
          both_none None None is = (refl, refl)

      -- the jobs were done
      module _ {D : Type 0} {d : DiskGhosts D} (j after : Journal D d) (law : IsLawful (d.state after.disk.now)) where
        done_takes_into : (rows : ℕ) → HasIngested (left_in left) (plan_of rows j) js js' j after → TakesInto rows names first (map (came_of content) taken) (state_of j) (state_of after)
        done_takes_into rows done = λ h before bytes stood has number.
            ingested_taken (left_in left) h before names stood j after law has js js' (map (came_of content) taken) (subst (λ n. AreJobsOf (left_in left) h.version (map (came_of content) taken) n js) number (are_jobs_of h.version)) came_named came_of_jobs rows done

        -- none was begun
        refused_takes_into : (rows : ℕ) → 0 < rows → IsLawful (d.state j.disk.now) → MayOpen (state_of j) → IsAsItWas j after → AreRefused js js' → TakesInto rows names first (map (came_of content) taken) (state_of j) (state_of after)
        refused_takes_into rows some law_j may stayed refused = λ h before bytes stood has number.
            let stands = stands_named h before names (state_of j) may has in
            refused_taken (left_in left) h before names stood j after law has js js' (map (came_of content) taken) (subst (λ n. AreJobsOf (left_in left) h.version (map (came_of content) taken) n js) number (are_jobs_of h.version)) came_named came_of_jobs
            rows some law_j stands.1 stands.0 stayed refused

        pub did_take_into : IsLawful (d.state j.disk.now) → MayOpen (state_of j) → (workers rows : ℕ) → 0 < rows → DidJobs (left_in left) (name_in name) (faults_in faults) workers rows j after js js'
            → TakesInto rows names first (map (came_of content) taken) (state_of j) (state_of after)
        did_take_into law_j may workers rows some (inl done) = done_takes_into rows done.ingested
        did_take_into law_j may workers rows some (inr none) = refused_takes_into rows some law_j may none.journal none.jobs
