-- Segments that did not fit.
use Rattle.std.proofs.Common.{◌≡◌, ◌+◌, ◌<◌, ◌++◌, ◌∷◌, [], inl, inr, refl, sym, subst, ⊎_elim, ℕ, true, List, length, Option, Some}
use Rattle.std.specs.Prelude.{IfSome, is_some, slice_get}
use Rattle.std.proofs.lemmas.List.Elements.{All-weaker}
use Rattle.std.proofs.lemmas.Option.{IfSome_then}
use mathlib.Core.List.{IsPrefix}
use Rattle.log_seams.specs.declared.disk.Disk.{Ghosts as DiskGhosts}
use Rattle.log_seams.specs.Disk.{DiskState, IsLawful}
use Rattle.log_seams.specs.Outside.{Rose}
use Rattle.message_reader.specs.Taken.{IsBeforeLong, IsReadShort}
use Rattle.record_format.specs.declared.header.Header.{Header}
use Rattle.row_codec.specs.declared.namer.Which.{Which}
use Rattle.row_codec.specs.declared.namer.Which.TheVariants.{Types as WhichTypes, Words as WhichWords}
use Rattle.disk_journal.specs.declared.journal.Journal.{Journal}
use Rattle.disk_journal.specs.Journal.{state_of}
use Rattle.archive_meaning.specs.declared.entry.JournalEntry.{JournalEntry}
use Rattle.archive_meaning.specs.declared.entry.JournalEntry.TheVariants.{Files}
use Rattle.archive_meaning.specs.Stands.{StandsFor}
use Rattle.archive_meaning.proofs.UniqueLemmas.{one_journal}
use Rattle.disk_seal.specs.Told.{IfTold}
use Rattle.disk_seal.specs.View.{StoreView}
use Rattle.disk_seal.proofs.ToldLemmas.{told_map}
use Rattle.ingest_workers.specs.declared.job.Job.{Job}
use Rattle.ingest_workers.specs.declared.outcome.Cause.{Cause}
use Rattle.ingest_workers.specs.Causes.{EndsLog, HasLogCause, Log}
use Rattle.ingest_meaning.specs.Given.{AreAllOf, AreFirstOf, IsNextOf}
use Rattle.ingest_meaning.specs.Dictionaries.{IsFullBy, IsTextOf}
use Rattle.ingest_workers.specs.Ingested.{HadNoRoomOver, HasStored, IsFullByGiven as IsFullByJobs, IsThereOrGiven as IsThereOrGivenByJobs, WereGiven as WereGivenByJobs, plan_of, told_entries}
use Rattle.ingest_meaning.specs.Room.{HadNoRoom}
use Rattle.ingest_workers.specs.NoRoom.{IsBetween}
use Rattle.ingest_workers.specs.Worker.{IsGiven as IsGivenByJobs}
use Rattle.ingest_workers.proofs.FullLemmas.{full_by_wider}
use Rattle.ingest_workers.proofs.NoRoomLemmas.{no_room_on}
use Rattle.ingest_workers.proofs.SealLemmas.{if_told, of_told}
use Rattle.name_records.specs.Left.{LeavesEntries}
use Rattle.name_records.proofs.LeftLemmas.{prefix_on, store_entries_are, store_left}
use Rattle.command_refusals.specs.Ending.{RoseIn}
use Rattle.command_refusals.specs.LogLimits.{most_messages}
use Rattle.command_answers.specs.Ingested.{FileOutcome, DidNotFit, HasEnded, HasMoreThan, IsFullBehind, IsFullByGiven, IsGiven, IsStoppedBy, IsThereOrGiven, Logs, StandFirst, WereGiven, names_in}
use Rattle.file_outcomes.specs.Jobs.{of_cause}
use Rattle.file_outcomes.specs.StepsCauses.{IsTarget, Target}
use Rattle.file_outcomes.proofs.ContentLemmas.{AreJobsOf, given_of_names}

abbrev Texts : Type 0
Texts = List (List ℕ)

abbrev Entries : Type 0
Entries = List JournalEntry

-- where the bytes are told and stand for a journal, it begins with the entries
abbrev Begins : Header → Entries → Option (List ℕ) → Type 0
Begins h front told = IfSome told (λ bytes. (es : Entries) → StandsFor bytes h es → IsPrefix front es)

-- ---- as it is told

-- what is told of logs by these
abbrev Told : (List ℕ → Option (List ℕ)) → (List ℕ → ℕ × ℕ) → (List ℕ → ℕ × ℕ) → Logs
Told unread opens reads = record { opens = opens; reads = reads; unread = unread }

module _ (unread unread' : List ℕ → Option (List ℕ)) (opens opens' reads : List ℕ → ℕ × ℕ) (rows first : ℕ) (came : List FileOutcome) (h : Header) (named : Entries) (mid new : DiskState) (same : new.seen ≡ mid.seen) (c : FileOutcome) (end need : ℕ) where
  -- the disk's bytes are the same later, whatever openings failed
  pub fit_later : DidNotFit (Told unread opens reads) rows first came h named mid c end need → DidNotFit (Told unread' opens' reads) rows first came h named new c end need
  fit_later fit = record {
    place = fit.place;
    at = fit.at;
    room = record {
      sealed = fit.room.sealed;
      count = fit.room.count;
      holds = no_room_on h rows h.version (first + fit.place) (StandFirst h named mid) (StandFirst h named new) (WereGiven h.version came) (WereGiven h.version came) (AreFirstOf h.version c.log) (AreFirstOf h.version c.log)
          (HasEnded (Told unread opens reads) came h named c) (HasEnded (Told unread' opens' reads) came h named c) fit.room.sealed end need
          (λ es stand. (stand.0, subst (Begins h es) (sym same) stand.1)) (λ es book texts has. has) (λ ms begin. begin) (λ ms ended. ended) fit.room.holds;
    };
  }

-- of the archive that the files are taken into
pub fit_into : (logs : Logs) (into : Target) (h : Header) (before : Entries) (held : ℕ) → IsTarget into h before held → (new : DiskState) (c : FileOutcome) (end need : ℕ)
    → DidNotFit logs into.rows into.first into.came into.header into.entries new c end need → DidNotFit logs into.rows held into.came h (before ++ Files (names_in into.came) ∷ []) new c end need
fit_into logs into h before held is new c end need fit =
    subst (λ (x : Header). DidNotFit logs into.rows held into.came x (before ++ Files (names_in into.came) ∷ []) new c end need) is.header
    (subst (λ (es : Entries). DidNotFit logs into.rows held into.came into.header es new c end need) is.entries
    (subst (λ (n : ℕ). DidNotFit logs into.rows n into.came into.header into.entries new c end need) is.first fit))

-- ---- of jobs

-- what stands first in the journal that jobs were stored in stands first in the disk's
begins_disk : {S D : Type 0} {d : DiskGhosts D} (left : S → Option (List ℕ)) (rows : ℕ) (js js' : List (Job S)) (j after : Journal D d) → IsLawful (d.state after.disk.now) → (store : StoreView D) → HasStored left (plan_of rows j) js js' j after store
    → is_some (d.state j.disk.now).seen ≡ true → (front : Entries) → IsPrefix front (told_entries (state_of after)) → Begins j.header front (d.state after.disk.now).seen
begins_disk {D = D} {d = d} left rows js js' j after law store stored told front begin =
    IfSome_then (d.state after.disk.now).seen leaves.reads (λ bytes either es stands.
    ⊎_elim
    (λ (one : StandsFor bytes j.header all). subst (IsPrefix front) (one_journal bytes j.header j.header all es one stands).1 on)
    (λ (more : StandsFor bytes j.header (all ++ leaves.tail)). subst (IsPrefix front) (one_journal bytes j.header j.header (all ++ leaves.tail) es more stands).1 (prefix_on front all (all ++ leaves.tail) on (leaves.tail, refl)))
    either)
  where
    all : Entries
    all = told_entries (state_of j) ++ stored.fresh

    leaves : LeavesEntries j.header (told_entries (state_of j)) all (d.state j.disk.now) (d.state after.disk.now)
    leaves = store_left j after law store stored.left_by told stored.fresh stored.grown

    on : IsPrefix front all
    on = subst (IsPrefix front) (store_entries_are j after store stored.left_by stored.fresh stored.grown) begin

module _ {S D : Type 0} {d : DiskGhosts D} (left : S → Option (List ℕ)) (logs : Logs) (j after : Journal D d) (came : List FileOutcome) (rows first : ℕ) (js : List (Job S)) (of : AreJobsOf left j.header.version came first js) where
  text_of_names : (book : Which) (t : List ℕ) → IsTextOf j.header.version (IsGivenByJobs left j.header.version js) book t → IsTextOf j.header.version (IsGiven j.header.version came) book t
  text_of_names WhichTypes t given = (given.0, given_of_names left j.header.version came first js of given.0 given.1, given.2)
  text_of_names WhichWords t given = (given.0, given_of_names left j.header.version came first js of given.0 given.1, given.2)

  were_given : (front : Entries) (book : Which) (texts : Texts) → WereGivenByJobs left (plan_of rows j) js front book texts → WereGiven j.header.version came front book texts
  were_given front book texts has = record {
    begins = has.begins;
    distinct = has.distinct;
    others = All-weaker (IsTextOf j.header.version (IsGivenByJobs left j.header.version js) book) (IsTextOf j.header.version (IsGiven j.header.version came) book) (text_of_names book) _ has.others;
  }

  -- the segment of a job's file did not fit
  fit_of_job : (law : IsLawful (d.state after.disk.now)) (js' : List (Job S)) (store : StoreView D) → HasStored left (plan_of rows j) js js' j after store → (place : ℕ) (job : Job S) → slice_get js place ≡ Some job → (c : FileOutcome) → slice_get came place ≡ Some c → (bytes : Option (List ℕ)) → bytes ≡ c.log
      → (last : Texts → Type 0) → (is_some (d.state j.disk.now).seen ≡ true → (taken : Texts) → last taken → HasEnded logs came j.header (told_entries (state_of j)) c taken) → (sealed : Texts) → c.messages ≡ length sealed → (end need : ℕ) → HadNoRoomOver (WereGivenByJobs left (plan_of rows j) js) (plan_of rows j) job.file bytes j after last sealed end need
      → (j.header.length_limit < end + need) × IfTold (is_some (d.state j.disk.now).seen) (DidNotFit logs rows first came j.header (told_entries (state_of j)) (d.state after.disk.now) c end need)
  fit_of_job law js' store stored place job at c named bytes log last ends sealed count end need had = (
    had.0,
    if_told (is_some (d.state j.disk.now).seen) _ (λ told.
        let room = of_told (is_some (d.state j.disk.now).seen) _ told had.1 in
        let fit : DidNotFit logs rows first came j.header (told_entries (state_of j)) (d.state after.disk.now) c end need = record {
          place = place;
          at = named;
          room = record {
            sealed = sealed;
            count = count;
            holds = subst (λ (file : ℕ). HadNoRoom j.header rows j.header.version file (StandFirst j.header (told_entries (state_of j)) (d.state after.disk.now)) (WereGiven j.header.version came) (AreFirstOf j.header.version c.log) (HasEnded logs came j.header (told_entries (state_of j)) c) sealed end need) (of.file place job at)
                (no_room_on j.header rows j.header.version job.file (IsBetween (told_entries (state_of j)) (told_entries (state_of after))) (StandFirst j.header (told_entries (state_of j)) (d.state after.disk.now))
                (WereGivenByJobs left (plan_of rows j) js) (WereGiven j.header.version came) (AreFirstOf j.header.version bytes) (AreFirstOf j.header.version c.log) last (HasEnded logs came j.header (told_entries (state_of j)) c) sealed end need
                (λ es between. (between.0, begins_disk left rows js js' j after law store stored told es between.1)) were_given (λ ms begin. subst (λ (b : Option (List ℕ)). AreFirstOf j.header.version b ms) log begin) (ends told) room);
          };
        } in fit),
  )

  -- ---- one file

  module _ (c : FileOutcome) where
    abbrev full : Option (List ℕ) → Texts → Which → ℕ → Type 0
    full = IsFullByJobs left (plan_of rows j) js j

    -- a text of the encoding of a message of a job is one of a message of a given file
    of_given : (book : Which) (t : List ℕ) → IsThereOrGivenByJobs left (plan_of rows j) js j book t → IsThereOrGiven j.header.version came (told_entries (state_of j)) book t
    of_given book t (inl there) = inl there
    of_given book t (inr given) = inr (text_of_names book t given)

    full_behind : (bytes : Option (List ℕ)) → bytes ≡ c.log → (sealed : Texts) (book : Which) (n : ℕ) → IsFullBy (IsThereOrGivenByJobs left (plan_of rows j) js j book) (IsTextOf j.header.version (IsNextOf j.header.version bytes sealed) book) n
        → IsFullBehind came j.header (told_entries (state_of j)) c sealed book n
    full_behind bytes is sealed book n = full_by_wider _ _ _ _ (of_given book) (λ t next. subst (λ (o : Option (List ℕ)). IsTextOf j.header.version (IsNextOf j.header.version o sealed) book t) is next) n

    -- the book was full for the job
    pub given_full : (bytes : Option (List ℕ)) → bytes ≡ c.log → (sealed : Texts) → c.messages ≡ length sealed → (book : Which) (n : ℕ) → full bytes sealed book n
        → IfTold (is_some (d.state j.disk.now).seen) (IsFullByGiven came j.header (told_entries (state_of j)) c book n)
    given_full bytes is sealed count book n = told_map (is_some (d.state j.disk.now).seen) (λ by. (by.0, record { sealed = sealed; count = count; holds = full_behind bytes is sealed book n by.1 }))

    module _ (log : Log) (bytes : log.bytes ≡ c.log) (up : Rose log.faults log.faults_now → RoseIn (logs.reads c.name)) where
      -- where a job's log has ended, that of the file has
      stopped_by : is_some (d.state j.disk.now).seen ≡ true → (taken : Texts) (cause : Cause) → HasLogCause (full log.bytes) log j.header.version taken cause → IsStoppedBy logs came j.header (told_entries (state_of j)) c taken (of_cause cause)
      stopped_by told taken Cause.ReadFault has =
          (up has.0, subst (λ (o : Option (List ℕ)). IfSome o (λ b. (behind : Option (List ℕ)) × IsReadShort j.header.version b taken behind)) bytes (IfSome_then log.bytes has.1 (λ b short. (log.behind, short))))
      stopped_by told taken (Cause.LineTooLong line) has = (has.1, subst (λ (o : Option (List ℕ)). IfSome o (IsBeforeLong j.header.version taken)) bytes has.2)
      stopped_by told taken Cause.TooManyLines has = (has.1, subst (λ (o : Option (List ℕ)). HasMoreThan most_messages j.header.version o) bytes has.2)
      stopped_by told taken (Cause.Full book n) has = let is = of_told (is_some (d.state j.disk.now).seen) _ told has.1 in (is.0, full_behind log.bytes bytes taken book n is.1)
      stopped_by told taken (Cause.DiskFault opened now) has = has
      stopped_by told taken Cause.OutOfMemory has = has
      stopped_by told taken (Cause.ArchiveFull end need) has = has

      has_ended : is_some (d.state j.disk.now).seen ≡ true → (taken : Texts) → EndsLog (full log.bytes) log j.header.version taken → HasEnded logs came j.header (told_entries (state_of j)) c taken
      has_ended told taken (inl all) = inl (subst (λ (o : Option (List ℕ)). AreAllOf j.header.version o taken) bytes all)
      has_ended told taken (inr why) = inr (of_cause why.0, stopped_by told taken why.0 why.1)

      -- the job's segment did not fit
      pub given_room : IsLawful (d.state after.disk.now) → (js' : List (Job S)) (store : StoreView D) → HasStored left (plan_of rows j) js js' j after store → (place : ℕ) (job : Job S) → slice_get js place ≡ Some job → slice_get came place ≡ Some c
          → (sealed : Texts) → c.messages ≡ length sealed → (end need : ℕ) → HadNoRoomOver (WereGivenByJobs left (plan_of rows j) js) (plan_of rows j) job.file log.bytes j after (EndsLog (full log.bytes) log j.header.version) sealed end need
          → (j.header.length_limit < end + need) × IfTold (is_some (d.state j.disk.now).seen) (DidNotFit logs rows first came j.header (told_entries (state_of j)) (d.state after.disk.now) c end need)
      given_room law js' store stored place job at named = fit_of_job law js' store stored place job at c named log.bytes bytes (EndsLog (full log.bytes) log j.header.version) has_ended
