-- Why not all of a file was taken in: a dictionary or the archive was full.
use Rattle.std.proofs.Common.{◌≡◌, ◌≢◌, ◌+◌, ◌⊎◌, inl, inr, refl, sym, ap, subst, ◌∙◌, ℕ, true, List, length, take, Option, Some, None, arith}
use Rattle.std.specs.Prelude.{is_some, option_map, slice_get}
use Rattle.std.specs.List.{Contains}
use Rattle.log_seams.specs.Disk.{IsLawful}
use Rattle.log_seams.specs.Outside.{Rose}
use Rattle.log_seams.specs.declared.disk.Disk.{Ghosts as DiskGhosts}
use Rattle.disk_journal.specs.Journal.{state_of}
use Rattle.disk_journal.specs.declared.journal.Journal.{Journal}
use Rattle.row_codec.specs.declared.namer.Which.{Which}
use Rattle.archive_meaning.specs.declared.entry.JournalEntry.{JournalEntry}
use Rattle.archive_open.specs.declared.files.FileEntry.{FileEntry}
use Rattle.archive_text.specs.State.{StoredState}
use Rattle.ingest_meaning.specs.Dictionaries.{IsTextOf, book_texts}
use Rattle.ingest_meaning.specs.Given.{IsAmongFirst}
use Rattle.ingest_workers.specs.Causes.{HasJobCause, Log}
use Rattle.ingest_workers.specs.InTurn.{AreFullInTurn, IsMetBy}
use Rattle.ingest_workers.specs.Ingested.{IsFullByGiven as IsFullByJobs, HasStored, WereGiven as WereGivenByJobs, grounds_over, plan_of, told_entries}
use Rattle.ingest_workers.specs.JobDone.{in_source}
use Rattle.ingest_workers.specs.Met.{WasMet}
use Rattle.ingest_workers.specs.Outcome.{met_by}
use Rattle.ingest_workers.specs.declared.job.Job.{Job}
use Rattle.ingest_workers.specs.declared.outcome.Cause.{Cause}
use Rattle.ingest_workers.proofs.FullLemmas.{full_by_wider}
use Rattle.disk_seal.specs.View.{StoreView}
use Rattle.name_records.proofs.LeftLemmas.{of_told}
use Rattle.command_refusals.specs.Ending.{RoseIn}
use Rattle.command_refusals.specs.declared.outcome.UpgradeRefusal.{UpgradeRefusal}
use Rattle.command_answers.specs.Ingested.{FileOutcome, IsFullInTurn, OfStopped, WasMetInOneOf, unsealed_of}
use Rattle.command_answers.specs.Upgrading.{HasLimitCause, texts_read}
use Rattle.file_outcomes.specs.Jobs.{of_cause}
use Rattle.file_outcomes.proofs.ContentLemmas.{AreJobsOf as HaveJobs}
use Rattle.file_outcomes.proofs.FitLemmas.{given_full, given_room}
use Rattle.file_outcomes.proofs.RefusalLemmas.{among_first, first_at, full_cause, text_wider, unsealed_same}
use Rattle.upgrade_command.specs.Files.{came_by, outcome_by, text_left}
use Rattle.upgrade_command.proofs.CameLemmas.{came_at, there_at}

-- where a reading was ended, its count of faults is told to have risen
pub stop_rises : (stop : Option UpgradeRefusal) (name : List ℕ) → stop ≢ None → RoseIn ((texts_read stop).reads name)
stop_rises None name some = absurd (some refl)
stop_rises (Some stop) name some = inl (omega arith)

module _ {D E : Type 0} {e : DiskGhosts E} (mid after : Journal E e) (told : is_some (state_of mid).disk.seen ≡ true) (stop : Option UpgradeRefusal) (rows : ℕ) (came : List FileOutcome) (js : List (Job (StoredState D)))
    (of : HaveJobs text_left mid.header.version came 0 js) where
  -- ---- one file

  module _ (c : FileOutcome) where
    abbrev full : Option (List ℕ) → List (List ℕ) → Which → ℕ → Type 0
    full = IsFullByJobs text_left (plan_of rows mid) js mid

    abbrev has_texts : List JournalEntry → Which → List (List ℕ) → Type 0
    has_texts = WereGivenByJobs text_left (plan_of rows mid) js

    -- by the cause of its job
    pub limit_cause : IsLawful (e.state after.disk.now) → (js' : List (Job (StoredState D))) (store : StoreView E) → HasStored text_left (plan_of rows mid) js js' mid after store → (place : ℕ) (job : Job (StoredState D)) → slice_get js place ≡ Some job → slice_get came place ≡ Some c
        → (log : Log) (sealed : List (List ℕ)) (o : Option Cause) → HasJobCause (grounds_over full has_texts (plan_of rows mid) job.file log.bytes mid after) log mid.header.version sealed o
        → c.messages ≡ length sealed → log.bytes ≡ c.log → (Rose log.faults log.faults_now → stop ≢ None)
        → HasLimitCause rows stop mid.header (told_entries (state_of mid)) came (e.state after.disk.now) c (option_map of_cause o)
    limit_cause law js' store stored place job at named log sealed None has count bytes up = tt
    limit_cause law js' store stored place job at named log sealed (Some Cause.ReadFault) has count bytes up = tt
    limit_cause law js' store stored place job at named log sealed (Some (Cause.LineTooLong line)) has count bytes up = tt
    limit_cause law js' store stored place job at named log sealed (Some Cause.TooManyLines) has count bytes up = tt
    limit_cause law js' store stored place job at named log sealed (Some (Cause.Full book n)) has count bytes up =
        of_told (is_some (state_of mid).disk.seen) told (given_full text_left (texts_read stop) mid after came rows 0 js of c log.bytes bytes sealed count book n has.1)
    limit_cause law js' store stored place job at named log sealed (Some (Cause.DiskFault opened now)) has count bytes up = tt
    limit_cause law js' store stored place job at named log sealed (Some Cause.OutOfMemory) has count bytes up = tt
    limit_cause law js' store stored place job at named log sealed (Some (Cause.ArchiveFull end need)) has count bytes up =
        of_told (is_some (state_of mid).disk.seen) told
        (given_room text_left (texts_read stop) mid after came rows 0 js of c log bytes (λ risen. stop_rises stop c.name (up risen)) law js' store stored place job at named sealed count end need has).1

-- ---- with one worker

module _ {D E : Type 0} {e : DiskGhosts E} (mid : Journal E e) (told : is_some (state_of mid).disk.seen ≡ true) (rows : ℕ) (files : List FileEntry) (js js' : List (Job (StoredState D)))
    (there : (i : ℕ) (j : Job (StoredState D)) → slice_get js i ≡ Some j → (f : FileEntry) × (slice_get files i ≡ Some f)) where
  abbrev came : List FileOutcome
  came = came_by files js js'

  -- what was met by one of the first jobs was met in one of the first files
  met_among : (n : ℕ) (m : List ℕ) → WasMet text_left rows mid.header.version (take n js) (take n js') m → WasMetInOneOf rows mid.header.version (take n came) m
  met_among n m met =
      let old = first_at js n met.0 met.1 met.3 in
      let done = first_at js' n met.0 met.2 met.4 in
      let file = there met.0 met.1 old.1 in
      let c = outcome_by file.0 met.1 met.2 in
      let as_many : met_by rows met.2.outcome ≡ c.messages + unsealed_of rows c.refusal = ap (λ n. met.2.outcome.messages + n) (sym (unsealed_same rows met.2.outcome.cause)) in (
        c,
        among_first came n met.0 c old.0 (there_at files js js' met.0 file.0 met.1 met.2 file.1 old.1 done.1),
        (refl, subst (λ k. IsAmongFirst mid.header.version (in_source text_left met.1.source) k m) as_many met.5),
      )

  text_met : (n : ℕ) (book : Which) (t : List ℕ) → Contains (book_texts book (told_entries (state_of mid))) t ⊎ IsMetBy text_left (plan_of rows mid) n js js' book t
      → Contains (book_texts book (told_entries (state_of mid))) t ⊎ IsTextOf mid.header.version (WasMetInOneOf rows mid.header.version (take n came)) book t
  text_met n book t (inl is) = inl is
  text_met n book t (inr met) = inr (text_wider mid.header.version (WasMet text_left rows mid.header.version (take n js) (take n js')) (WasMetInOneOf rows mid.header.version (take n came)) (met_among n) book t met)

  -- each full dictionary was so by the files up to the one that it stopped
  pub turns_filled : AreFullInTurn text_left (plan_of rows mid) mid js js' → OfStopped (IsFullInTurn rows mid.header (told_entries (state_of mid))) came
  turns_filled turn = λ place c book count at is.
      let one = came_at files js js' place c at in
      let by : one.done.outcome.cause ≡ Some (Cause.Full book count) = full_cause one.done.outcome.cause book count (sym (ap (λ (x : FileOutcome). x.refusal) one.is) ∙ is) in
      let full = of_told (is_some (state_of mid).disk.seen) told (turn place one.old one.done book count one.at one.at_done by) in
      subst (λ (x : FileOutcome). IsFullInTurn rows mid.header (told_entries (state_of mid)) (take (place + 1) came) x book count) (sym one.is)
      (full.0, full_by_wider _ _ _ _ (text_met (place + 1) book) (λ t next. next) count full.1)
