-- What a second disk is left with, where the files were named and taken in.
use Rattle.std.proofs.Common.{◌≡◌, ◌≢◌, ◌+◌, ◌-◌, ◌≤◌, ◌<◌, ◌⊎◌, inl, inr, refl, sym, ap, subst, ◌∙◌, ℕ, Bool, true, false, List, [], ◌++◌, length, Option, Some, None, arith}
use Rattle.std.specs.Prelude.{All, is_some, not, option_map, slice_get}
use Rattle.std.specs.List.{AllZip}
use Rattle.std.proofs.lemmas.List.Elements.{All-nil}
use Rattle.std.proofs.lemmas.Option.{slice_get_within}
use Rattle.log_seams.specs.Disk.{DiskState, IsLawful}
use Rattle.log_seams.specs.Outside.{Rose}
use Rattle.log_seams.specs.declared.disk.Disk.{Ghosts as DiskGhosts}
use Rattle.logtype_text.specs.Laws.{OneListOfParts}
use Rattle.record_format.specs.declared.header.Header.{Header}
use Rattle.record_format.specs.declared.header.TheConstants.{LAST_VERSION}
use Rattle.disk_journal.specs.Created.{MakesEmpty}
use Rattle.disk_journal.specs.Journal.{state_of}
use Rattle.disk_journal.specs.declared.journal.Journal.{Journal}
use Rattle.archive_meaning.specs.Held.{File, content_of, files_from, is_ended, is_whole, messages_of, nothing_held}
use Rattle.archive_meaning.specs.Stands.{IsLegal, StandsFor}
use Rattle.archive_meaning.specs.declared.entry.JournalEntry.{JournalEntry}
use Rattle.archive_meaning.proofs.RunLemmas.{one_held}
use Rattle.archive_open.specs.Shown.{Opens, Shown}
use Rattle.archive_open.specs.declared.files.FileEntry.{FileEntry}
use Rattle.archive_text.specs.State.{StoredState}
use Rattle.archive_text.specs.declared.cause.TextCause.{TextCause}
use Rattle.archive_jobs.specs.Jobs.{AreJobsOf, IsJobOf}
use Rattle.ingest_workers.specs.Causes.{log_of}
use Rattle.ingest_workers.specs.Ingested.{HasItsCause, IsFileOf, IsFullByGiven as IsFullByJobs, WereGiven as WereGivenByJobs, not_begun, plan_of, told_entries}
use Rattle.ingest_workers.specs.JobDone.{in_source}
use Rattle.ingest_workers.specs.declared.job.Job.{Job}
use Rattle.ingest_workers.specs.declared.outcome.Cause.{Cause}
use Rattle.ingest_workers.specs.declared.outcome.Outcome.{Outcome}
use Rattle.name_records.specs.Named.{AreNamesOf, HasNames, names_of}
use Rattle.command_refusals.specs.GoesOn.{DiskGoesOn}
use Rattle.command_refusals.specs.declared.outcome.PartCause.{PartCause}
use Rattle.command_refusals.specs.declared.outcome.UpgradeRefusal.{UpgradeRefusal}
use Rattle.command_answers.specs.Benched.{at_moment}
use Rattle.command_answers.specs.Ingested.{FileOutcome, IsCutInto, IsFullInTurn, IsOfNew, LeavesJournal, OfStopped, names_in}
use Rattle.command_answers.specs.Upgrading.{CameOfText, FromNew, HasLimitCause, HasTextCause, MakesNew}
use Rattle.file_outcomes.specs.Jobs.{of_cause}
use Rattle.file_outcomes.proofs.ContentLemmas.{AreJobsOf as HaveJobs, IsFileFor, IsTold, all_of_names, cuts_for, file_told, files_for, none_told}
use Rattle.file_outcomes.proofs.JoinLemmas.{HasNone}
use Rattle.upgrade_command.specs.Files.{came_by, outcome_by, stop_by, text_faults, text_left, text_name}
use Rattle.upgrade_command.specs.Filling.{AreFilled, DidFill, FillsNamed, IsNewJournal}
use Rattle.upgrade_command.specs.Taking.{TakesTexts}
use Rattle.upgrade_command.proofs.CameLemmas.{IsAt, came_at, each_of, have_jobs, job_at, length-came, names_came, some_is}
use Rattle.upgrade_command.proofs.FitsLemmas.{all_fit}
use Rattle.upgrade_command.proofs.JournalLemmas.{added, added_by, all_leaves, entries_are, has_names, held_are, legal_all, legal_names, names_all, run_added, told_mid}
use Rattle.upgrade_command.proofs.LimitLemmas.{limit_cause, turns_filled}
use Rattle.upgrade_command.proofs.MadeLemmas.{from_new, leaves_from}
use Rattle.upgrade_command.proofs.OutcomeLemmas.{IsTextFor, all_upgrades, lines_for, part_of, rose_some, stop_some, text_cause, text_done, text_none}
use Rattle.upgrade_command.proofs.RecordLemmas.{element_at, names_told}

module _ {D E : Type 0} {e : DiskGhosts E} (lawful : (x : E) → IsLawful (e.state x)) (one : OneListOfParts) (rows : ℕ) (some_rows : 0 < rows) (a : Shown) (old second second_new : DiskState) (opens : Opens old.seen a) (last : ℕ) (cause : Option TextCause)
    (j after : Journal E e) (js js' : List (Job (StoredState D))) (jobs : AreJobsOf old.seen a.files js) (new : IsNewJournal (state_of j)) (version : j.header.version ≡ LAST_VERSION) (fills : FillsNamed rows (names_of a.files) cause j after js js')
    (steady : (state_of j).disk.faults ≡ second.faults) (late : (state_of after).disk ≡ second_new) where
  abbrev names : List (List ℕ)
  names = names_of a.files

  abbrev mid : Journal E e
  mid = fills.mid

  abbrev came : List FileOutcome
  came = came_by a.files js js'

  abbrev stop : Option UpgradeRefusal
  stop = option_map (stop_by last) cause

  has : HasNames 0 names fills.named.naming (state_of j) (state_of mid)
  has = has_names lawful rows names cause j after js js' new fills

  version_mid : mid.header.version ≡ LAST_VERSION
  version_mid = ap (λ (h : Header). h.version) has.header ∙ version

  steady_mid : (state_of mid).disk.faults ≡ second.faults
  steady_mid = has.steady ∙ steady

  counted_by : DidFill rows cause mid after js js' → length js' ≡ length js
  counted_by (inl filled) = filled.ingested.stored.counted
  counted_by (inr none) = none.jobs.counted

  counted : length js' ≡ length js
  counted = counted_by fills.did

  pub length-jobs : length js' ≡ length a.files
  length-jobs = counted ∙ jobs.count

  of : HaveJobs text_left mid.header.version came 0 js
  of = have_jobs mid.header.version old.seen a.files js js' jobs counted

  -- ---- the jobs, before and after they were done

  job_is : (i : ℕ) (c : FileOutcome) (at : IsAt a.files js js' i c) → IsJobOf old.seen i at.file.whole at.old
  job_is i c at = job_at old.seen a.files js jobs i at.file at.old at.at_file at.at

  module _ (filled : AreFilled rows cause mid after js js') where
    file_at : (i : ℕ) (c : FileOutcome) (at : IsAt a.files js js' i c) → IsFileOf text_left (plan_of rows mid) mid filled.ingested.stored.fresh at.old at.done
    file_at i c at =
        let one = filled.ingested.stored.files i at.old at.at in
        subst (IsFileOf text_left (plan_of rows mid) mid filled.ingested.stored.fresh at.old) (some_is (sym one.1 ∙ at.at_done)) one.2

    cause_at : (i : ℕ) (c : FileOutcome) (at : IsAt a.files js js' i c) → HasItsCause (IsFullByJobs text_left (plan_of rows mid) js mid) (WereGivenByJobs text_left (plan_of rows mid) js) text_left text_name text_faults (plan_of rows mid) mid after at.old at.done
    cause_at i c at =
        let one = filled.causes.each i at.old at.at in
        subst (HasItsCause (IsFullByJobs text_left (plan_of rows mid) js mid) (WereGivenByJobs text_left (plan_of rows mid) js) text_left text_name text_faults (plan_of rows mid) mid after at.old) (some_is (sym one.1 ∙ at.at_done)) one.2

    -- where a read of its text has failed, the reading was ended
    rises_at : (i : ℕ) (c : FileOutcome) (at : IsAt a.files js js' i c) → Rose (text_faults (cause_at i c at).source.before) (text_faults (cause_at i c at).source.after) → stop ≢ None
    rises_at i c at rose =
        let its = cause_at i c at in
        let is = job_is i c at in
        let same : its.source.before ≡ is.text = some_is (sym its.source.had ∙ is.source) in
        let none : text_faults its.source.before ≡ 0 = ap text_faults same ∙ is.text_is.faults in
        stop_some last cause (filled.known i at.old at.done at.at at.at_done is.opened its.source.after its.source.has (rose_some (text_faults its.source.after) (subst (λ n. Rose n (text_faults its.source.after)) none rose)))

  -- ---- what is told of each file

  text_by : DidFill rows cause mid after js js' → (i : ℕ) (c : FileOutcome) (at : IsAt a.files js js' i c) → IsTextFor old.seen i at.file c
  text_by (inl filled) i c at =
      let is = file_at filled i c at in
      let job = job_is i c at in
      subst (IsTextFor old.seen i at.file) (sym at.is) (text_done old.seen i at.file at.old at.done job (either at.old.is_part refl (is.cause job.opened)) is.part)
    where
      either : (b : Bool) → at.old.is_part ≡ b → (at.old.is_part ≡ false → is_some at.done.outcome.cause ≡ not at.done.outcome.whole) → (is_some at.done.outcome.cause ≡ not at.done.outcome.whole) ⊎ (at.old.is_part ≡ true)
      either true half has = inr half
      either false whole has = inl (has whole)
  text_by (inr none) i c at = subst (IsTextFor old.seen i at.file) (sym at.is) (text_none old.seen i at.file at.old at.done (job_is i c at) (none.jobs.each i at.done at.at_done))

  text_at : (i : ℕ) (c : FileOutcome) → slice_get came i ≡ Some c → (f : FileEntry) × (slice_get a.files i ≡ Some f) × IsTextFor old.seen i f c
  text_at i c at = let one = came_at a.files js js' i c at in (one.file, one.at_file, text_by fills.did i c one)

  -- ---- why not all of each was taken in

  of_text_by : DidFill rows cause mid after js js' → (i : ℕ) (c : FileOutcome) (at : IsAt a.files js js' i c) → CameOfText old second second_new stop c
  of_text_by (inl filled) i c at =
      let its = cause_at filled i c at in
      let is = file_at filled i c at in
      let job = job_is i c at in
      subst (CameOfText old second second_new stop) (sym at.is) (record {
        cause = text_cause a old second second_new stop rows mid after opens version_mid steady_mid (ap (λ (d : DiskState). d.faults) late) (IsFullByJobs text_left (plan_of rows mid) js mid) (WereGivenByJobs text_left (plan_of rows mid) js) i at.old.file at.file (outcome_by at.file at.old at.done) at.at_file
            (subst (λ (x : FileOutcome). IsTextFor old.seen i at.file x) at.is (text_by (inl filled) i c at)).tells
            (log_of text_left text_faults its.source.before its.source.after) its.sealed at.done.outcome.cause its.cause its.count (sym (ap (in_source text_left) its.source.had)) (rises_at filled i c at);
        part = λ some. by_part at.old.is_part refl some is.cause job.opened is.part;
      })
    where
      by_part : (b : Bool) → at.old.is_part ≡ b → option_map of_cause at.done.outcome.cause ≢ None → (at.old.is_open ≡ true → at.old.is_part ≡ false → is_some at.done.outcome.cause ≡ not at.done.outcome.whole) → at.old.is_open ≡ true → (at.old.is_part ≡ true → at.done.outcome.whole ≡ false)
          → at.done.outcome.whole ≡ false
      by_part true half some has opened part = part half
      by_part false whole some has opened part = part_of at.done.outcome.cause at.done.outcome.whole (has opened whole) some
  of_text_by (inr none) i c at =
      let not_done : at.done.outcome ≡ not_begun = none.jobs.each i at.done at.at_done in
      subst (CameOfText old second second_new stop) (sym at.is) (record {
        cause = subst (λ (o : Outcome). HasTextCause old second second_new stop (outcome_by at.file at.old at.done) (option_map of_cause o.cause)) (sym not_done) tt;
        part = λ some. ap (λ (o : Outcome). o.whole) not_done;
      })

  all_of_text : All (CameOfText old second second_new stop) came
  all_of_text = each_of (CameOfText old second second_new stop) came (λ i c at. of_text_by fills.did i c (came_at a.files js js' i c at))

  -- ---- where the second disk tells its bytes

  module _ (told : is_some (state_of j).disk.seen ≡ true) where
    abbrev h : Header
    h = mid.header

    abbrev es : List JournalEntry
    es = told_entries (state_of mid)

    abbrev fresh : List JournalEntry
    fresh = added lawful rows names cause j after js js' new fills

    mid_told : is_some (state_of mid).disk.seen ≡ true
    mid_told = told_mid lawful rows names cause j after js js' new fills told

    legal : IsLegal h (es ++ fresh)
    legal = legal_all lawful rows names cause j after js js' new fills told

    before : IsLegal h es
    before = legal_names lawful rows names cause j after js js' new fills told

    nothing : before.held.pieces ≡ []
    unfolding before
    nothing = (held_are lawful rows names cause j after js js' new fills told).1

    names_are : names_in came ≡ names
    names_are = names_came a.files js js' jobs.count length-jobs

    -- nothing is held of a file before
    none_held : (file : ℕ) → HasNone file before.held.pieces
    none_held file = record { messages = ap (messages_of file) nothing; whole = ap (is_whole file) nothing; ended = ap (is_ended file) nothing }

    none_met : (o : Option Cause) → option_map of_cause o ≡ None → o ≡ None
    none_met None is = refl
    none_met (Some cause) is = absurd (cc (is))

    -- each file has what is told of it
    told_by : (did : DidFill rows cause mid after js js') → did ≡ fills.did → (i : ℕ) (c : FileOutcome) (at : IsAt a.files js js' i c) → IsTold h.version rows fresh legal.held.pieces i c
    unfolding before legal
    told_by (inl filled) same i c at =
        let job = job_is i c at in
        let fresh_is : fresh ≡ filled.ingested.stored.fresh = sym (ap (added_by lawful rows cause mid after js js') same) in
        subst (IsTold h.version rows fresh legal.held.pieces i) (sym at.is)
        (file_told h es fresh before.held legal.held before.run (run_added lawful rows names cause j after js js' new fills told) text_left mid mid_told refl refl rows i (outcome_by at.file at.old at.done) at.old at.done (none_held i) job.file
        (subst (λ l. IsFileOf text_left (plan_of rows mid) mid l at.old at.done) (sym fresh_is) (file_at filled i c at)) refl refl (inl (refl, refl)) (λ spared. (refl, job.opened, none_met at.done.outcome.cause spared)))
    told_by (inr none) same i c at =
        let not_done : at.done.outcome ≡ not_begun = none.jobs.each i at.done at.at_done in
        let fresh_is : fresh ≡ [] = sym (ap (added_by lawful rows cause mid after js js') same) in
        subst (IsTold h.version rows fresh legal.held.pieces i) (sym at.is)
        (none_told h es fresh before.held legal.held before.run (run_added lawful rows names cause j after js js' new fills told) rows i (outcome_by at.file at.old at.done) some_rows (none_held i) fresh_is
        (ap (λ (o : Outcome). o.messages) not_done) (ap (λ (o : Outcome). o.whole) not_done)
        (λ spared. absurd (cc (sym (ap (λ (o : Outcome). option_map of_cause o.cause) not_done) ∙ spared))))

    told_at : (i : ℕ) (c : FileOutcome) → slice_get came i ≡ Some c → IsTold h.version rows fresh legal.held.pieces (0 + i) c
    told_at i c at = subst (λ n. IsTold h.version rows fresh legal.held.pieces n c) (omega arith) (told_by fills.did refl i c (came_at a.files js js' i c at))

    abbrev fs : List File
    fs = files_from 0 names legal.held.pieces

    zip : AllZip (IsFileFor h.version) came fs
    zip = files_for h.version legal.held.pieces 0 names came names_are told_at

    zip_last : AllZip (IsFileFor LAST_VERSION) came fs
    zip_last = subst (λ v. AllZip (IsFileFor v) came fs) version_mid zip

    -- the entries behind the names
    new_by : (did : DidFill rows cause mid after js js') → All (IsOfNew mid.header.version came 0) (added_by lawful rows cause mid after js js' did)
    new_by (inl filled) = all_of_names text_left mid.header.version came 0 js of filled.ingested.stored.fresh filled.ingested.stored.others filled.ingested.types filled.ingested.words
    new_by (inr none) = All-nil (IsOfNew mid.header.version came 0)

    -- a limit that was met
    limit_by : (did : DidFill rows cause mid after js js') → (i : ℕ) (c : FileOutcome) → slice_get came i ≡ Some c → (at : IsAt a.files js js' i c) → HasLimitCause rows stop h es came (e.state after.disk.now) c c.refusal
    limit_by (inl filled) i c at_came at =
        let its = cause_at filled i c at in
        subst (λ (x : FileOutcome). HasLimitCause rows stop h es came (e.state after.disk.now) x x.refusal) (sym at.is)
        (limit_cause mid after mid_told stop rows came js of (outcome_by at.file at.old at.done) (lawful after.disk.now) js' filled.ingested.store filled.ingested.stored i at.old at.at (subst (λ (x : FileOutcome). slice_get came i ≡ Some x) at.is at_came)
        (log_of text_left text_faults its.source.before its.source.after) its.sealed at.done.outcome.cause its.cause its.count (sym (ap (in_source text_left) its.source.had)) (rises_at filled i c at))
    limit_by (inr none) i c at_came at =
        let not_done : at.done.outcome ≡ not_begun = none.jobs.each i at.done at.at_done in
        subst (λ (x : FileOutcome). HasLimitCause rows stop h es came (e.state after.disk.now) x x.refusal) (sym at.is)
        (subst (λ (o : Outcome). HasLimitCause rows stop h es came (e.state after.disk.now) (outcome_by at.file at.old at.done) (option_map of_cause o.cause)) (sym not_done) tt)

    -- each full dictionary was so in turn
    turns_by : DidFill rows cause mid after js js' → OfStopped (IsFullInTurn rows h es) came
    turns_by (inl filled) = turns_filled mid mid_told rows a.files js js' (λ i job at. element_at a.files i (omega (arith, jobs.count, slice_get_within js i job at))) filled.in_turn
    turns_by (inr none) = λ place c book count at is.
        let one_at = came_at a.files js js' place c at in
        let not_done : one_at.done.outcome ≡ not_begun = none.jobs.each place one_at.done one_at.at_done in
        let refused : c.refusal ≡ Some PartCause.OutOfMemory = ap (λ (x : FileOutcome). x.refusal) one_at.is ∙ ap (λ (o : Outcome). option_map of_cause o.cause) not_done in
        absurd (cc (sym refused ∙ is))

    held_files : (image : List ℕ) (stands : StandsFor image h (es ++ fresh)) → content_of stands.legal.held ≡ fs
    unfolding legal
    held_files image stands =
        ap content_of (one_held h nothing_held stands.legal.held legal.held (es ++ fresh) stands.legal.run legal.run)
        ∙ ap (λ ns. files_from 0 ns legal.held.pieces) (names_all lawful rows names cause j after js js' new fills told)

    makes : (from : DiskState) → LeavesJournal h [] (es ++ fresh) from (state_of after).disk → MakesNew rows stop old.seen h came from (state_of after).disk
    makes from leaves = record {
      named = es;
      names = names_told es (names_in came) (subst (AreNamesOf es) (sym names_are) (subst (λ l. AreNamesOf l names) (sym (entries_are lawful rows names cause j after js js' new fills told)) has.are));
      added = fresh;
      each = subst (λ v. All (IsOfNew v came 0) fresh) version_mid (new_by fills.did);
      leaves = leaves;
      files = fs;
      content_is = held_files;
      told = lines_for came fs zip_last;
      upgrades = all_upgrades a came (length-came a.files js js' jobs.count length-jobs) old.seen opens text_at fs zip_last;
      cuts = λ i f at. subst (λ n. IsCutInto rows n f fresh) (omega arith) (cuts_for h.version rows fresh legal.held.pieces 0 names came told_at zip i f at);
      limits = each_of (λ (c : FileOutcome). HasLimitCause rows stop h es came (e.state after.disk.now) c c.refusal) came (λ i c at. limit_by fills.did i c at (came_at a.files js js' i c at));
      in_turn = turns_by fills.did;
      fits = all_fit one h es fresh legal names came zip;
    }

  -- ---- all of it

  pub takes_texts : MakesEmpty j.header second (state_of j).disk → is_some (state_of j).disk.seen ≡ is_some second.seen → second.clock ≤ (state_of j).disk.clock → IsLawful (state_of j).disk → DiskGoesOn (state_of j).disk (state_of after).disk
      → TakesTexts rows stop j.header came old second second_new
  takes_texts made tells later law goes = record {
    each = all_of_text;
    disk = subst (λ (n : DiskState). FromNew j.header second n (λ from. MakesNew rows stop old.seen j.header came from n)) late
        (from_new j.header second (state_of j).disk made tells later steady law (state_of after).disk goes (λ from. MakesNew rows stop old.seen j.header came from (state_of after).disk)
        (λ told. subst (λ (x : Header). MakesNew rows stop old.seen x came (at_moment (state_of j).disk.clock second) (state_of after).disk) has.header
        (makes told (at_moment (state_of j).disk.clock second)
        (subst (λ (x : Header). LeavesJournal x [] (es told ++ fresh told) (at_moment (state_of j).disk.clock second) (state_of after).disk) (sym has.header)
        (leaves_from j.header second (state_of j).disk made tells later steady law (es told ++ fresh told) (state_of after).disk
        (subst (λ (x : Header). LeavesJournal x [] (es told ++ fresh told) (state_of j).disk (state_of after).disk) has.header (all_leaves lawful rows names cause j after js js' new fills told)))))));
  }
