-- Why files that were taken in are not whole.
use Rattle.std.proofs.Common.{◌≡◌, ◌≢◌, ◌≤◌, inl, inr, refl, sym, ap, subst, ◌∙◌, ℕ, Bool, true, false, List, length, map, get_or, Option, Some, None, arith}
use Rattle.std.specs.Prelude.{All, IfSome, is_some, not, option_map, slice_get}
use Rattle.std.specs.Str.{chars, is_utf8}
use Rattle.std.proofs.lemmas.List.Elements.{All-map, All-weaker}
use Rattle.std.proofs.lemmas.Option.{IfSome_then, get_or_from_slice_get, slice_get-get_or, slice_get-map, slice_get_within}
use Rattle.log_seams.specs.declared.disk.Disk.{Ghosts as DiskGhosts}
use Rattle.log_seams.specs.declared.refusals.OpenRefused.{OpenRefused}
use Rattle.log_seams.specs.declared.refusals.OpenRefused.TheVariants.{Failed, OutOfMemory}
use Rattle.log_seams.specs.Disk.{DiskState, IsLawful}
use Rattle.log_seams.specs.Outside.{Rose}
use Rattle.log_seams.proofs.MomentLemmas.{rose}
use Rattle.log_sources.specs.declared.source.LogSource.{LogSource}
use Rattle.log_sources.specs.declared.source.LogSource.TheVariants.{Opened, Unopened}
use Rattle.log_sources.specs.Sources.{IsCounted, IsOpened, faults_in, is_opened, left_in, name_in, no_name, refusal_of}
use Rattle.disk_journal.specs.declared.journal.Journal.{Journal}
use Rattle.disk_journal.specs.Journal.{state_of}
use Rattle.archive_meaning.specs.declared.entry.JournalEntry.{JournalEntry}
use Rattle.disk_seal.specs.View.{StoreView}
use Rattle.row_codec.specs.declared.namer.Which.{Which}
use Rattle.file_outcomes.proofs.ContentLemmas.{AreJobsOf}
use Rattle.ingest_workers.specs.declared.job.Job.{Job}
use Rattle.ingest_workers.specs.declared.outcome.Cause.{Cause}
use Rattle.ingest_workers.specs.declared.outcome.Outcome.{Outcome}
use Rattle.ingest_workers.specs.Causes.{EndsLog, HasJobCause, Log, log_of}
use Rattle.ingest_workers.specs.Ingested.{AreRefused, HadNoRoomOver, HasItsCause, HasStored, HaveCauses, IsAsItWas, IsFullByGiven as IsFullByJobs, WereGiven as WereGivenByJobs, grounds_over, not_begun, plan_of}
use Rattle.ingest_workers.specs.Outcome.{nothing_done}
use Rattle.write_commands.specs.IngestPrints.{came_of}
use Rattle.command_answers.specs.Ingested.{FileOutcome, HasMoreThan, IsNextTooLong, Logs, WasNotOpened}
use Rattle.file_outcomes.specs.Jobs.{DidJobs, IsNotBegun, of_cause, of_opening, refusal_by, sources_of}
use Rattle.file_outcomes.specs.StepsCauses.{CameIn, HasCauseIn, Target, into_journal}
use Rattle.command_refusals.specs.LogLimits.{IsLong, most_messages}
use Rattle.command_refusals.specs.declared.outcome.PartCause.{PartCause}
use Rattle.file_outcomes.specs.declared.file_report.FileReport.{FileReport}
use Rattle.file_outcomes.proofs.FitLemmas.{given_full, given_room}
use Rattle.write_commands.proofs.LineLemmas.{long_behind}
use Rattle.write_commands.proofs.TakeInLemmas.{CameBy, CameOfLog}

-- what is told at each place holds of each element
each_of : {A : Type 0} (P : A → Type 0) (xs : List A) → ((i : ℕ) (x : A) → slice_get xs i ≡ Some x → P x) → All P xs
each_of P xs at = λ i d within. at i (get_or xs i d) (slice_get-get_or xs i d within)

pub at_of : {A : Type 0} (P : A → Type 0) (xs : List A) (i : ℕ) (x : A) → All P xs → slice_get xs i ≡ Some x → P x
at_of P xs i x all at = subst P (get_or_from_slice_get xs i x x at) (all i x (slice_get_within xs i x at))

-- the name that no log has is no text
no_text : is_utf8 no_name ≡ false
unfolding is_utf8 chars
no_text = refl

-- ---- one file

module _ (logs : Logs) (into : Target) (old new : DiskState) (c : FileOutcome) where
  came_in : (r : Option PartCause) → c.refusal ≡ r → HasCauseIn logs into old new c r → (r ≢ None → c.whole ≡ false) → (c.opened ≡ false → WasNotOpened c) → CameIn logs into old new c
  came_in r is cause part unopened = record { cause = subst (HasCauseIn logs into old new c) (sym is) cause; part = λ some. part (λ none. some (is ∙ none)); unopened = unopened }

  -- there was no memory
  no_memory : c.refusal ≡ Some PartCause.OutOfMemory → c.whole ≡ false → (c.opened ≡ false → c.messages ≡ 0) → CameIn logs into old new c
  no_memory is part none = came_in (Some PartCause.OutOfMemory) is tt (λ some. part) (λ shut. (none shut, inr is))

module _ {S : Type 0} (left name : S → Option (List ℕ)) (faults : S → ℕ) (logs : Logs) (opens_now reads reads_now : List ℕ → ℕ) (opens_later : (n : List ℕ) → opens_now n ≤ (logs.opens n).1)
    (reads_sooner : (n : List ℕ) → (logs.reads n).0 ≤ reads n) (reads_later : (n : List ℕ) → reads_now n ≤ (logs.reads n).1) where
  abbrev pub CameFrom : FileOutcome → LogSource S → Type 0
  CameFrom = CameBy left name faults (λ n. (logs.opens n).0) opens_now

  -- the log was not opened
  opening_in : (into : Target) (old new : DiskState) (c : FileOutcome) (cause : OpenRefused) (n : ℕ) → CameFrom c (Unopened cause n) → c.opened ≡ false → c.messages ≡ 0 → c.whole ≡ false → c.refusal ≡ Some (of_opening cause) → CameIn logs into old new c
  opening_in into old new c Failed n came shut none part is = came_in logs into old new c (Some PartCause.OpenFault) is (rose (logs.opens c.name).0 (logs.opens c.name).0 (opens_now c.name) (logs.opens c.name).1 (omega arith) came.1 (opens_later c.name), shut) (λ some. part) (λ also. (none, inl is))
  opening_in into old new c OutOfMemory n came shut none part is = no_memory logs into old new c is part (λ also. none)

  -- reads of it failed
  reads_rose : (log : Option (List ℕ)) (asked : List ℕ) (s : S) (t : LogSource S) → IsOpened left name faults log asked s → name_in name t ≡ name s → IsCounted name faults reads reads_now t → Rose (faults s) (faults_in faults t)
      → Rose (logs.reads asked).0 (logs.reads asked).1
  reads_rose log asked s (Opened t) is named counted up =
      rose (logs.reads asked).0 (reads asked) (reads_now asked) (logs.reads asked).1 (reads_sooner asked) (counted asked (subst (λ (m : Option (List ℕ)). IfSome m (λ n. n ≡ asked)) (sym named) is.named) (subst (λ n. Rose n (faults t)) is.fresh up)) (reads_later asked)
  reads_rose log asked s (Unopened cause n) is named counted up =
      let same : no_name ≡ asked = subst (λ (m : Option (List ℕ)). IfSome m (λ n. n ≡ asked)) (sym named) is.named in
      let none : is_utf8 no_name ≡ true = subst (λ n. is_utf8 n ≡ true) (sym same) is.text in
      absurd (cc (none, no_text))

  module _ {D : Type 0} {d : DiskGhosts D} (j after : Journal D d) (came : List FileOutcome) (rows first : ℕ) (js : List (Job (LogSource S))) (of : AreJobsOf (left_in left) j.header.version came first js) (c : FileOutcome) where
    abbrev into : Target
    into = into_journal (state_of j) rows first came

    abbrev full : Option (List ℕ) → List (List ℕ) → Which → ℕ → Type 0
    full = IsFullByJobs (left_in left) (plan_of rows j) js j

    abbrev has_texts : List JournalEntry → Which → List (List ℕ) → Type 0
    has_texts = WereGivenByJobs (left_in left) (plan_of rows j) js

    abbrev In : Type 0
    In = CameIn logs into (d.state j.disk.now) (d.state after.disk.now) c

    abbrev CauseIn : Option PartCause → Type 0
    CauseIn = HasCauseIn logs into (d.state j.disk.now) (d.state after.disk.now) c

    -- the cause of a job
    job_cause : (file : ℕ) (log : Log) (sealed : List (List ℕ)) (o : Option Cause) → HasJobCause (grounds_over full has_texts (plan_of rows j) file log.bytes j after) log j.header.version sealed o
        → ((end need : ℕ) → HadNoRoomOver has_texts (plan_of rows j) file log.bytes j after (EndsLog (full log.bytes) log j.header.version) sealed end need → CauseIn (Some (PartCause.ArchiveFull end need))) → is_some o ≡ not c.whole → c.messages ≡ length sealed → log.bytes ≡ c.log
        → (Rose log.faults log.faults_now → Rose (logs.reads c.name).0 (logs.reads c.name).1) → CauseIn (option_map of_cause o)
    job_cause file log sealed None has fits whole count bytes up = not_false c.whole whole
      where
        not_false : (b : Bool) → false ≡ not b → b ≡ true
        not_false true is = refl
        not_false false is = absurd (cc (is))
    job_cause file log sealed (Some Cause.ReadFault) has fits whole count bytes up = up has.0
    job_cause file log sealed (Some (Cause.LineTooLong line)) has fits whole count bytes up = (
      subst (λ (o : Option (List ℕ)). IfSome o (λ b. IsLong b line)) bytes (IfSome_then log.bytes has.2 (λ b before. long_behind j.header.version sealed b line has.1 before)),
      subst (λ (o : Option (List ℕ)). IfSome o (IsNextTooLong j.header.version c line)) bytes (IfSome_then log.bytes has.2 (λ b before. record { taken = sealed; count = count; follows = has.1; before = before })),
    )
    job_cause file log sealed (Some Cause.TooManyLines) has fits whole count bytes up = (count ∙ has.1, subst (λ (o : Option (List ℕ)). HasMoreThan most_messages j.header.version o) bytes has.2)
    job_cause file log sealed (Some (Cause.Full book n)) has fits whole count bytes up = given_full (left_in left) logs j after came rows first js of c log.bytes bytes sealed count book n has.1
    job_cause file log sealed (Some (Cause.DiskFault opened now)) has fits whole count bytes up = subst (λ n. Rose n (d.state after.disk.now).faults) has.0 has.1
    job_cause file log sealed (Some Cause.OutOfMemory) has fits whole count bytes up = tt
    job_cause file log sealed (Some (Cause.ArchiveFull end need)) has fits whole count bytes up = fits end need has

    not_whole : (o : Option Cause) (w : Bool) → is_some o ≡ not w → option_map of_cause o ≢ None → w ≡ false
    not_whole None w is some = absurd (some refl)
    not_whole (Some cause) true is some = absurd (cc (is))
    not_whole (Some cause) false is some = refl

    -- the job was done
    done_in : (s : LogSource S) (old done : Job (LogSource S)) → CameFrom c s → c.opened ≡ is_opened s → old.source ≡ Some s → old.is_open ≡ is_opened s
        → c.messages ≡ done.outcome.messages → c.whole ≡ done.outcome.whole → c.refusal ≡ refusal_by (refusal_of s) done.outcome.cause
        → HasItsCause full has_texts (left_in left) (name_in name) (faults_in faults) (plan_of rows j) j after old done
        → ((log : Log) → log.bytes ≡ c.log → (Rose log.faults log.faults_now → Rose (logs.reads c.name).0 (logs.reads c.name).1) → (sealed : List (List ℕ)) → c.messages ≡ length sealed → (end need : ℕ) → HadNoRoomOver has_texts (plan_of rows j) old.file log.bytes j after (EndsLog (full log.bytes) log j.header.version) sealed end need → CauseIn (Some (PartCause.ArchiveFull end need)))
        → (old.is_open ≡ true → is_some done.outcome.cause ≡ not done.outcome.whole) → (old.is_open ≡ false → done.outcome ≡ nothing_done)
        → ((t : LogSource S) → done.source ≡ Some t → IsCounted name faults reads reads_now t) → In
    done_in (Unopened cause n) old done came_from is_open has as_opened messages whole refusal its fits opened unopened counted =
        let none = unopened as_opened in
        opening_in into (d.state j.disk.now) (d.state after.disk.now) c cause n came_from is_open (messages ∙ ap (λ (o : Outcome). o.messages) none) (whole ∙ ap (λ (o : Outcome). o.whole) none) refusal
    done_in (Opened s) old done came_from is_open has as_opened messages whole refusal its fits opened unopened counted =
        let is : its.source.before ≡ Opened s = some_is its.source.before (Opened s) (sym its.source.had ∙ has) in
        let either : is_some done.outcome.cause ≡ not c.whole = opened as_opened ∙ ap not (sym whole) in
        let log : Log = log_of (left_in left) (faults_in faults) its.source.before its.source.after in
        let bytes : log.bytes ≡ c.log = ap (left_in left) is ∙ came_from.left_is in
        let up : Rose log.faults log.faults_now → Rose (logs.reads c.name).0 (logs.reads c.name).1 =
        λ risen. reads_rose c.log c.name s its.source.after came_from (its.source.keeps.named ∙ ap (name_in name) is) (counted its.source.after its.source.has) (subst (λ n. Rose n (faults_in faults its.source.after)) (ap (faults_in faults) is) risen) in
        came_in logs into (d.state j.disk.now) (d.state after.disk.now) c (option_map of_cause done.outcome.cause) refusal
        (job_cause old.file log its.sealed done.outcome.cause its.cause
        (fits log bytes up its.sealed (messages ∙ its.count)) either (messages ∙ its.count) bytes up)
        (not_whole done.outcome.cause c.whole either) (λ shut. absurd (cc (shut, is_open)))
      where
        some_is : (x y : LogSource S) → Some x ≡ Some y → x ≡ y
        some_is x y e = cc (e)

    -- it was not begun
    refused_in : (s : LogSource S) (done : Job (LogSource S)) → CameFrom c s → c.opened ≡ is_opened s → c.messages ≡ done.outcome.messages → c.whole ≡ done.outcome.whole → c.refusal ≡ refusal_by (refusal_of s) done.outcome.cause → done.outcome ≡ not_begun → In
    refused_in (Unopened cause n) done came_from is_open messages whole refusal none =
        opening_in into (d.state j.disk.now) (d.state after.disk.now) c cause n came_from is_open (messages ∙ ap (λ (o : Outcome). o.messages) none) (whole ∙ ap (λ (o : Outcome). o.whole) none) refusal
    refused_in (Opened s) done came_from is_open messages whole refusal none =
        no_memory logs into (d.state j.disk.now) (d.state after.disk.now) c (refusal ∙ ap (λ (o : Outcome). option_map of_cause o.cause) none) (whole ∙ ap (λ (o : Outcome). o.whole) none) (λ shut. absurd (cc (shut, is_open)))

  -- ---- all files

  module _ {D : Type 0} {d : DiskGhosts D} (j after : Journal D d) (came : List FileOutcome) (rows first : ℕ) (js js' : List (Job (LogSource S))) (of : AreJobsOf (left_in left) j.header.version came first js) (each : (i : ℕ) (c : FileOutcome) → slice_get came i ≡ Some c → CameOfLog CameFrom js js' i c) where
    abbrev AllIn : Type 0
    AllIn = All (CameIn logs (into_journal (state_of j) rows first came) (d.state j.disk.now) (d.state after.disk.now)) came

    source_at : (given : List (LogSource S)) → map Some given ≡ sources_of js' → (i : ℕ) (done : Job (LogSource S)) (t : LogSource S) → slice_get js' i ≡ Some done → done.source ≡ Some t → slice_get given i ≡ Some t
    source_at given are i done t at has = go (slice_get given i)
        (sym (slice_get-map (λ (s : LogSource S). Some s) given i) ∙ (ap (λ (l : List (Option (LogSource S))). slice_get l i) are ∙ (slice_get-map (λ (x : Job (LogSource S)). x.source) js' i ∙ ap (option_map (λ (x : Job (LogSource S)). x.source)) at)))
      where
        go : (o : Option (LogSource S)) → option_map (λ (s : LogSource S). Some s) o ≡ Some done.source → o ≡ Some t
        go None is = absurd (cc (is))
        go (Some u) is = cc (is, has)

    all_done : IsLawful (d.state after.disk.now) → (store : StoreView D) → HasStored (left_in left) (plan_of rows j) js js' j after store → HaveCauses (left_in left) (name_in name) (faults_in faults) (plan_of rows j) j after js js'
        → (given : List (LogSource S)) → map Some given ≡ sources_of js' → All (IsCounted name faults reads reads_now) given → AllIn
    all_done law store stored causes given are counted = each_of (CameIn logs (into_journal (state_of j) rows first came) (d.state j.disk.now) (d.state after.disk.now)) came (λ i c at.
        let one = each i c at in
        let file = stored.files i one.old one.at in
        let same : file.0 ≡ one.done = some_is file.0 one.done (sym file.1 ∙ one.at_done) in
        let cause = causes.each i one.old one.at in
        let alike : cause.0 ≡ one.done = some_is cause.0 one.done (sym cause.1 ∙ one.at_done) in
        let its = subst (λ (x : Job (LogSource S)). HasItsCause (IsFullByJobs (left_in left) (plan_of rows j) js j) (WereGivenByJobs (left_in left) (plan_of rows j) js) (left_in left) (name_in name) (faults_in faults) (plan_of rows j) j after one.old x) alike cause.2 in
        done_in j after came rows first js of c one.source one.old one.done one.came one.is_open one.has one.opened one.messages one.whole one.refusal its
        (λ log bytes up. given_room (left_in left) logs j after came rows first js of c log bytes up law js' store stored i one.old one.at at)
        (λ given. subst (λ (x : Job (LogSource S)). is_some x.outcome.cause ≡ not x.outcome.whole) same (file.2.cause given one.no_part))
        (subst (λ (x : Job (LogSource S)). one.old.is_open ≡ false → x.outcome ≡ nothing_done) same file.2.unopened)
        (λ t has. at_of (IsCounted name faults reads reads_now) given i t counted (source_at given are i one.done t one.at_done has)))
      where
        some_is : (x y : Job (LogSource S)) → Some x ≡ Some y → x ≡ y
        some_is x y e = cc (e)

    all_refused : IsAsItWas j after → AreRefused js js' → AllIn
    all_refused stayed refused = each_of (CameIn logs (into_journal (state_of j) rows first came) (d.state j.disk.now) (d.state after.disk.now)) came (λ i c at.
        let one = each i c at in
        refused_in j after came rows first js of c one.source one.done one.came one.is_open one.messages one.whole one.refusal (refused.each i one.done one.at_done))

    pub all_came : IsLawful (d.state after.disk.now) → (workers : ℕ) → DidJobs (left_in left) (name_in name) (faults_in faults) workers rows j after js js'
        → (given : List (LogSource S)) → map Some given ≡ sources_of js' → All (IsCounted name faults reads reads_now) given → AllIn
    all_came law workers (inl done) given are counted = all_done law done.ingested.store done.ingested.stored done.causes given are counted
    all_came law workers (inr none) given are counted = all_refused none.journal none.jobs

-- without memory to begin
pub all_unbegun : (content : List ℕ → Option (List ℕ)) (logs : Logs) (into : Target) (old new : DiskState) (taken : List FileReport) → All IsNotBegun taken → All (CameIn logs into old new) (map (came_of content) taken)
all_unbegun content logs into old new taken none =
    All-map (CameIn logs into old new) (came_of content) taken (All-weaker IsNotBegun (λ (file : FileReport). CameIn logs into old new (came_of content file)) (λ file n. no_memory logs into old new (came_of content file) n.refusal n.whole (λ shut. n.messages)) taken none)
