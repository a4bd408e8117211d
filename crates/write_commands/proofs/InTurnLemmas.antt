-- A dictionary that is full with one worker, from the jobs to what came of the files.
use Rattle.std.proofs.Common.{◌≡◌, ◌+◌, ◌⊎◌, inl, inr, sym, ap, ap₂, subst, ◌∙◌, ℕ, zero, suc, true, List, [], map, take, Option, Some, arith}
use Rattle.std.specs.Prelude.{All, is_some, slice_get}
use Rattle.std.specs.List.{Contains}
use Rattle.std.proofs.lemmas.List.Elements.{All-map, All-weaker}
use Rattle.log_seams.specs.declared.disk.Disk.{Ghosts as DiskGhosts}
use Rattle.log_seams.specs.declared.refusals.OpenRefused.TheVariants.{Failed, OutOfMemory}
use Rattle.log_sources.specs.declared.source.LogSource.{LogSource}
use Rattle.log_sources.specs.declared.source.LogSource.TheVariants.{Opened, Unopened}
use Rattle.log_sources.specs.Sources.{faults_in, is_opened, left_in, name_in, refusal_of}
use Rattle.row_codec.specs.declared.namer.Which.{Which}
use Rattle.message_reader.proofs.VersionLawLemmas.{messages_none}
use Rattle.disk_journal.specs.declared.journal.Journal.{Journal}
use Rattle.disk_journal.specs.Journal.{state_of}
use Rattle.disk_seal.proofs.ToldLemmas.{told_map}
use Rattle.ingest_workers.specs.declared.job.Job.{Job}
use Rattle.ingest_workers.specs.declared.outcome.Cause.{Cause}
use Rattle.ingest_workers.specs.declared.outcome.Outcome.{Outcome}
use Rattle.ingest_meaning.specs.Given.{IsAmongFirst, IsMessageAt}
use Rattle.ingest_meaning.specs.Dictionaries.{IsTextOf}
use Rattle.ingest_workers.specs.InTurn.{AreFullInTurn, IsMetBy, IsNextFor}
use Rattle.ingest_workers.specs.Ingested.{AreRefused, plan_of, told_entries}
use Rattle.ingest_meaning.specs.Dictionaries.{book_texts}
use Rattle.ingest_workers.specs.JobDone.{in_source}
use Rattle.ingest_workers.specs.Met.{WasMet}
use Rattle.ingest_workers.specs.Outcome.{met_by}
use Rattle.ingest_workers.proofs.FullLemmas.{full_by_wider}
use Rattle.write_commands.specs.IngestPrints.{came_of}
use Rattle.command_answers.specs.Ingested.{FileOutcome, WasMetIn, WasMetInOneOf, unsealed_of}
use Rattle.file_outcomes.specs.Jobs.{DidJobs, IsNotBegun, refusal_by}
use Rattle.file_outcomes.specs.StepsCauses.{AreFullInto, Target, into_journal}
use Rattle.command_refusals.specs.declared.outcome.PartCause.{PartCause}
use Rattle.file_outcomes.specs.declared.file_report.FileReport.{FileReport}
use Rattle.file_outcomes.proofs.ContentLemmas.{AreJobsOf}
use Rattle.file_outcomes.proofs.RefusalLemmas.{among_first, first_at, full_cause, text_wider, unsealed_same}
use Rattle.write_commands.proofs.FileCauseLemmas.{at_of}
use Rattle.write_commands.proofs.TakeInLemmas.{CameBy, CameOfLog}

-- a log without bytes has no message
none_first : (n : ℕ) (m : List ℕ) → Contains (take n []) m → ⊥
none_first zero m among = omega (arith, among.1)
none_first (suc n) m among = omega (arith, among.1)

none_met : (version n : ℕ) (m : List ℕ) → IsAmongFirst version (Some []) n m → ⊥
none_met version n m met = none_first n m (met [] true (messages_none version))

-- ---- files and their jobs

module _ {S : Type 0} (left name : S → Option (List ℕ)) (faults : S → ℕ) (opens opens_now : List ℕ → ℕ) where
  abbrev From : FileOutcome → LogSource S → Type 0
  From = CameBy left name faults opens opens_now

  -- where a full dictionary stopped a file, its log was opened, and its job was stopped so
  stopped : (c : FileOutcome) (source : LogSource S) (cause : Option Cause) (book : Which) (count : ℕ) → From c source → refusal_by (refusal_of source) cause ≡ Some (PartCause.Full book count)
      → (left_in left source ≡ c.log) × (cause ≡ Some (Cause.Full book count))
  stopped c (Opened s) cause book count came is = (came.left_is, full_cause cause book count is)
  stopped c (Unopened Failed n) cause book count came is = absurd (cc (is))
  stopped c (Unopened OutOfMemory n) cause book count came is = absurd (cc (is))

  -- what the job met of its log was met in the file
  met_in : (rows version : ℕ) (c : FileOutcome) (m : List ℕ) (source : LogSource S) (o : Outcome) → From c source → c.opened ≡ is_opened source → c.messages ≡ o.messages → c.refusal ≡ refusal_by (refusal_of source) o.cause
      → IsAmongFirst version (left_in left source) (met_by rows o) m → WasMetIn rows version c m
  met_in rows version c m (Unopened cause n) o came opened messages refusal met = absurd (none_met version (met_by rows o) m met)
  met_in rows version c m (Opened s) o came opened messages refusal met =
      let as_many : met_by rows o ≡ c.messages + unsealed_of rows c.refusal = ap₂ (λ a b. a + b) (sym messages) (sym (ap (unsealed_of rows) refusal ∙ unsealed_same rows o.cause)) in
      (opened, subst (λ (bytes : Option (List ℕ)). IsAmongFirst version bytes (c.messages + unsealed_of rows c.refusal) m) came.left_is (subst (λ n. IsAmongFirst version (left s) n m) as_many met))

  module _ {D : Type 0} {d : DiskGhosts D} (j : Journal D d) (came : List FileOutcome) (rows first : ℕ) (js js' : List (Job (LogSource S))) (of : AreJobsOf (left_in left) j.header.version came first js)
      (each : (i : ℕ) (c : FileOutcome) → slice_get came i ≡ Some c → CameOfLog From js js' i c) where
    -- what was met by one of the first jobs was met in one of the first files
    met_among : (n : ℕ) (m : List ℕ) → WasMet (left_in left) rows j.header.version (take n js) (take n js') m → WasMetInOneOf rows j.header.version (take n came) m
    met_among n m met =
        let old = first_at js n met.0 met.1 met.3 in
        let done = first_at js' n met.0 met.2 met.4 in
        let file = of.log met.0 met.1 old.1 in
        let log = each met.0 file.0 file.1 in
        let source : met.1.source ≡ Some log.source = ap (λ (x : Job (LogSource S)). x.source) (some_is met.1 log.old (sym old.1 ∙ log.at)) ∙ log.has in
        let outcome : met.2.outcome ≡ log.done.outcome = ap (λ (x : Job (LogSource S)). x.outcome) (some_is met.2 log.done (sym done.1 ∙ log.at_done)) in (
          file.0,
          among_first came n met.0 file.0 old.0 file.1,
          met_in rows j.header.version file.0 m log.source log.done.outcome log.came log.is_open log.messages log.refusal
              (subst (λ (o : Outcome). IsAmongFirst j.header.version (left_in left log.source) (met_by rows o) m) outcome
              (subst (λ (o : Option (LogSource S)). IsAmongFirst j.header.version (in_source (left_in left) o) (met_by rows met.2.outcome) m) source met.5)),
        )
      where
        some_is : (x y : Job (LogSource S)) → Some x ≡ Some y → x ≡ y
        some_is x y e = cc (e)

    text_met : (n : ℕ) (book : Which) (t : List ℕ) → Contains (book_texts book (told_entries (state_of j))) t ⊎ IsMetBy (left_in left) (plan_of rows j) n js js' book t
        → Contains (book_texts book (told_entries (state_of j))) t ⊎ IsTextOf j.header.version (WasMetInOneOf rows j.header.version (take n came)) book t
    text_met n book t (inl there) = inl there
    text_met n book t (inr met) =
        inr (text_wider j.header.version (WasMet (left_in left) rows j.header.version (take n js) (take n js')) (WasMetInOneOf rows j.header.version (take n came)) (met_among n) book t met)

    -- a text of the job's next message is one of the file's
    text_next : (c : FileOutcome) (source : LogSource S) (old : Job (LogSource S)) (o : Outcome) (book : Which) (t : List ℕ) → old.source ≡ Some source → left_in left source ≡ c.log → c.messages ≡ o.messages
        → IsNextFor (left_in left) (plan_of rows j) old o book t → IsTextOf j.header.version (IsMessageAt j.header.version c.log c.messages) book t
    text_next c source old o book t has is count next =
        subst (λ (bytes : Option (List ℕ)). IsTextOf j.header.version (IsMessageAt j.header.version bytes c.messages) book t) (ap (in_source (left_in left)) has ∙ is)
        (subst (λ n. IsTextOf j.header.version (IsMessageAt j.header.version (in_source (left_in left) old.source) n) book t) (sym count) next)

    -- the jobs were done
    done_in_turn : AreFullInTurn (left_in left) (plan_of rows j) j js js' → AreFullInto (into_journal (state_of j) rows first came) came
    done_in_turn turn = λ place c book count at is.
        let one = each place c at in
        let by = stopped c one.source one.done.outcome.cause book count one.came (sym one.refusal ∙ is) in
        told_map (is_some (state_of j).disk.seen)
        (λ full. (full.0, full_by_wider _ _ _ _ (text_met (place + 1) book) (λ t next. text_next c one.source one.old one.done.outcome book t one.has by.0 one.messages next) count full.1))
        (turn place one.old one.done book count one.at one.at_done by.1)

    -- none of them was begun
    refused_in_turn : AreRefused js js' → AreFullInto (into_journal (state_of j) rows first came) came
    refused_in_turn refused = λ place c book count at is.
        let one = each place c at in
        let by = stopped c one.source one.done.outcome.cause book count one.came (sym one.refusal ∙ is) in
        let none : Some Cause.OutOfMemory ≡ Some (Cause.Full book count) = sym (ap (λ (o : Outcome). o.cause) (refused.each place one.done one.at_done)) ∙ by.1 in
        absurd (cc (none))

    pub did_in_turn : (after : Journal D d) (workers : ℕ) → DidJobs (left_in left) (name_in name) (faults_in faults) workers rows j after js js' → workers ≡ 1 → AreFullInto (into_journal (state_of j) rows first came) came
    did_in_turn after workers (inl done) one = done_in_turn (done.in_turn one)
    did_in_turn after workers (inr none) one = refused_in_turn none.jobs

-- without memory to begin
pub unbegun_in_turn : (content : List ℕ → Option (List ℕ)) (into : Target) (taken : List FileReport) → All IsNotBegun taken → AreFullInto into (map (came_of content) taken)
unbegun_in_turn content into taken none = λ place c book count at is.
    let refused : c.refusal ≡ Some PartCause.OutOfMemory = at_of (λ (x : FileOutcome). x.refusal ≡ Some PartCause.OutOfMemory) (map (came_of content) taken) place c
    (All-map (λ (x : FileOutcome). x.refusal ≡ Some PartCause.OutOfMemory) (came_of content) taken (All-weaker IsNotBegun (λ (file : FileReport). file.refusal ≡ Some PartCause.OutOfMemory) (λ file n. n.refusal) taken none)) at in
    absurd (cc (sym refused ∙ is))
