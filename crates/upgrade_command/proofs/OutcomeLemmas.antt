-- What is told of each file: that it is the archive's, and why not all of it was taken in.
use Rattle.std.proofs.Common.{◌≡◌, ◌≢◌, ◌-◌, ◌⊎◌, inl, inr, refl, sym, ap, ap₂, subst, ◌∙◌, ℕ, suc, Bool, true, false, List, [], ◌∷◌, length, map, Option, Some, None, arith}
use Rattle.std.specs.Prelude.{IfSome, is_some, not, option_map, slice_get}
use Rattle.std.specs.List.{AllZip}
use Rattle.std.proofs.lemmas.List.{length-map}
use Rattle.std.proofs.lemmas.Option.{IfSome_then, slice_get-map, slice_get_within}
use mathlib.Core.List.{IsPrefix}
use Rattle.log_seams.specs.Disk.{DiskState}
use Rattle.log_seams.specs.Outside.{Rose}
use Rattle.log_seams.specs.declared.disk.Disk.{Ghosts as DiskGhosts}
use Rattle.record_format.specs.declared.header.Header.{Header}
use Rattle.record_format.specs.declared.header.TheConstants.{LAST_VERSION}
use Rattle.disk_journal.specs.Journal.{state_of}
use Rattle.disk_journal.specs.declared.journal.Journal.{Journal}
use Rattle.archive_meaning.specs.Held.{File, Held, content_of, file_text}
use Rattle.archive_meaning.specs.declared.entry.JournalEntry.{JournalEntry}
use Rattle.archive_open.specs.Shown.{IsArchiveOf, Opens, Shown, counted}
use Rattle.archive_open.specs.declared.files.FileEntry.{FileEntry}
use Rattle.archive_text.specs.State.{StoredState}
use Rattle.archive_text.specs.Told.{TellsFile}
use Rattle.archive_text.specs.declared.cause.TextCause.{TextCause}
use Rattle.archive_jobs.specs.Jobs.{IsJobOf}
use Rattle.ingest_meaning.specs.Given.{AreAllOf}
use Rattle.ingest_workers.specs.Causes.{HasJobCause, Log}
use Rattle.ingest_workers.specs.Ingested.{OfMessages, grounds_over, not_begun, plan_of}
use Rattle.ingest_workers.specs.JobDone.{in_source}
use Rattle.ingest_workers.specs.declared.job.Job.{Job}
use Rattle.ingest_workers.specs.declared.outcome.Cause.{Cause}
use Rattle.ingest_workers.specs.declared.outcome.Outcome.{Outcome}
use Rattle.message_reader.specs.Taken.{IsBeforeLong}
use Rattle.message_reader.specs.Versions.{MessagesOf}
use Rattle.message_reader.proofs.VersionLawLemmas.{messages_exist}
use Rattle.row_codec.specs.declared.namer.Which.{Which}
use Rattle.search_meaning.specs.Journal.{OfJournal}
use Rattle.command_refusals.specs.LogLimits.{most_messages}
use Rattle.command_refusals.specs.declared.outcome.UpgradeRefusal.{UpgradeRefusal}
use Rattle.file_lines.specs.Directory.{FileLine, line_of_file}
use Rattle.command_answers.specs.Ingested.{FileOutcome, HasMoreThan, WasCutShort, line_of_came}
use Rattle.command_answers.specs.Upgrading.{AreUpgrades, HasTextCause, IsOutcomeOf, IsUpgradeOf}
use Rattle.file_outcomes.specs.Jobs.{of_cause}
use Rattle.file_outcomes.proofs.ContentLemmas.{IsFileFor}
use Rattle.upgrade_command.specs.Files.{outcome_by, stop_by, text_left}
use Rattle.upgrade_command.proofs.CameLemmas.{some_is}
use Rattle.upgrade_command.proofs.RecordLemmas.{element_at}
use Rattle.upgrade_command.proofs.TextLemmas.{IsOldFile, ends_as_file, none_too_long, old_file}

-- ---- what is told is of the archive's file

-- it has the file's name and text; a part stays one, and where nothing was refused it is marked as the file
pub record IsTextFor (seen : Option (List ℕ)) (i : ℕ) (f : FileEntry) (c : FileOutcome) : Type 0 where
  pub name : c.name ≡ f.name
  pub tells : TellsFile i seen c.log
  pub part : f.whole ≡ false → c.whole ≡ false
  pub marks : c.refusal ≡ None → c.whole ≡ f.whole

none_met : (o : Option Cause) → option_map of_cause o ≡ None → o ≡ None
none_met None is = refl
none_met (Some cause) is = absurd (cc (is))

module _ {D : Type 0} (seen : Option (List ℕ)) (i : ℕ) (f : FileEntry) (old done : Job (StoredState D)) (is : IsJobOf seen i f.whole old) where
  tells_is : TellsFile i seen (in_source text_left old.source)
  tells_is = subst (TellsFile i seen) (sym (ap (in_source text_left) is.source)) is.text_is.tells

  -- the job was done
  pub text_done : (is_some done.outcome.cause ≡ not done.outcome.whole) ⊎ (old.is_part ≡ true) → (old.is_part ≡ true → done.outcome.whole ≡ false) → IsTextFor seen i f (outcome_by f old done)
  text_done cause part = record {
    name = refl;
    tells = tells_is;
    part = λ half. part (is.part ∙ ap not half);
    marks = λ spared. by_mark f.whole refl spared cause;
  }
    where
      whole_of : (b : Bool) → false ≡ not b → b ≡ true
      whole_of true same = refl
      whole_of false same = absurd (cc (same))

      by_mark : (b : Bool) → f.whole ≡ b → option_map of_cause done.outcome.cause ≡ None → (is_some done.outcome.cause ≡ not done.outcome.whole) ⊎ (old.is_part ≡ true) → done.outcome.whole ≡ f.whole
      by_mark false mark spared either = part (is.part ∙ ap not mark) ∙ sym mark
      by_mark true mark spared (inl has) = whole_of done.outcome.whole (sym (ap is_some (none_met done.outcome.cause spared)) ∙ has) ∙ sym mark
      by_mark true mark spared (inr half) = absurd (cc (half, is.part ∙ ap not mark))

  -- or was not begun
  pub text_none : done.outcome ≡ not_begun → IsTextFor seen i f (outcome_by f old done)
  text_none none = record {
    name = refl;
    tells = tells_is;
    part = λ half. ap (λ (o : Outcome). o.whole) none;
    marks = λ spared. absurd (cc (sym (ap (λ (o : Outcome). option_map of_cause o.cause) none) ∙ spared));
  }

-- ---- the new files

-- where the bytes stand for a journal
pub record IsOldOf (o : File) (c : FileOutcome) : Type 0 where
  pub outcome : IsOutcomeOf o c
  pub marks : c.refusal ≡ None → c.whole ≡ o.whole
  pub old : IsOldFile o

upgrade_one : (o : File) (c : FileOutcome) (f : File) → IsOldOf o c → IsFileFor LAST_VERSION c f → IsUpgradeOf o c f
upgrade_one o c f old is = record {
  name = is.name ∙ old.outcome.name;
  messages = is.messages;
  whole = is.whole;
  front = λ messages e are. subst (λ (l : Option (List ℕ)). OfMessages LAST_VERSION l (λ ms e. IsPrefix f.messages ms)) old.outcome.log is.first messages e are;
  all = λ spared.
      let some = messages_exist LAST_VERSION (file_text o) in
      let all : f.messages ≡ some.0 = subst (AreAllIn f.messages) old.outcome.log (is.none spared) some.0 some.1 some.2 in (
        (some.1, subst (λ ms. MessagesOf LAST_VERSION (file_text o) ms some.1) (sym all) some.2),
        is.whole ∙ old.marks spared,
        λ whole.
            let marked = subst (λ (l : Option (List ℕ)). OfMessages LAST_VERSION l (λ ms e. (f.messages ≡ ms) × (f.ended ≡ e))) old.outcome.log (is.all spared (old.marks spared ∙ whole)) some.0 some.1 some.2 in
            marked.1 ∙ ends_as_file LAST_VERSION o some.0 some.1 old.old whole some.2,
      );
}
  where
    AreAllIn : List (List ℕ) → Option (List ℕ) → Type 0
    AreAllIn ms l = AreAllOf LAST_VERSION l ms

upgrades_all : (olds : List File) (came : List FileOutcome) (fs : List File) → length olds ≡ length came → AllZip (IsFileFor LAST_VERSION) came fs → ((i : ℕ) (o : File) (c : FileOutcome) → slice_get olds i ≡ Some o → slice_get came i ≡ Some c → IsOldOf o c) → AreUpgrades olds came fs
upgrades_all [] [] [] same zip each = tt
upgrades_all [] [] (f ∷ fs) same zip each = absurd zip
upgrades_all [] (c ∷ came) fs same zip each = absurd (omega (arith, same))
upgrades_all (o ∷ olds) [] fs same zip each = absurd (omega (arith, same))
upgrades_all (o ∷ olds) (c ∷ came) [] same zip each = absurd zip
upgrades_all (o ∷ olds) (c ∷ came) (f ∷ fs) same zip each =
    let one = each 0 o c refl refl in
    (one.outcome, upgrade_one o c f one zip.0, upgrades_all olds came fs (omega (arith, same)) zip.1 (λ i x d at at'. each (suc i) x d at at'))

-- as they are printed
pub lines_for : (came : List FileOutcome) (fs : List File) → AllZip (IsFileFor LAST_VERSION) came fs → map line_of_came came ≡ map (λ f. line_of_file (counted f)) fs
lines_for [] [] zip = refl
lines_for [] (f ∷ fs) zip = absurd zip
lines_for (c ∷ came) [] zip = absurd zip
lines_for (c ∷ came) (f ∷ fs) zip =
    let line : line_of_came c ≡ line_of_file (counted f) = λ i. record { name = sym zip.0.name i; messages = sym zip.0.messages i; whole = sym zip.0.whole i } in
    ap₂ (λ (l : FileLine) (ls : List FileLine). l ∷ ls) line (lines_for came fs zip.1)

module _ (a : Shown) (came : List FileOutcome) (counted_are : length came ≡ length a.files) where
  -- the file of a journal at a place is that of the archive
  entry_is : (h : Header) (es : List JournalEntry) (held : Held) → IsArchiveOf a h es held → (i : ℕ) (o : File) → slice_get (content_of held) i ≡ Some o → slice_get a.files i ≡ Some (counted o)
  entry_is h es held is i o at = ap (λ l. slice_get l i) is.files ∙ (slice_get-map counted (content_of held) i ∙ ap (option_map counted) at)

  pub all_upgrades : (seen : Option (List ℕ)) → Opens seen a → ((i : ℕ) (c : FileOutcome) → slice_get came i ≡ Some c → (f : FileEntry) × (slice_get a.files i ≡ Some f) × IsTextFor seen i f c) → (fs : List File) → AllZip (IsFileFor LAST_VERSION) came fs
      → OfJournal seen (λ g es held. AreUpgrades (content_of held) came fs)
  all_upgrades None opens each fs zip = tt
  all_upgrades (Some bytes) opens each fs zip = λ g es stood.
      let is = opens g es stood in
      let held = stood.legal.held in
      upgrades_all (content_of held) came fs (sym (length-map (content_of held) counted) ∙ (sym (ap length is.files) ∙ sym counted_are)) zip
      (λ i o c at at_came.
      let text = each i c at_came in
      let entry : counted o ≡ text.0 = some_is (sym (entry_is g es held is i o at) ∙ text.1) in
      record {
        outcome = record {
          name = text.2.name ∙ sym (ap (λ (f : FileEntry). f.name) entry);
          log = text.2.tells g es stood o at;
          part = λ half. text.2.part (sym (ap (λ (f : FileEntry). f.whole) entry) ∙ half);
        };
        marks = λ spared. text.2.marks spared ∙ sym (ap (λ (f : FileEntry). f.whole) entry);
        old = old_file g es stood.legal i o at;
      })

-- ---- why not all of a file was taken in

-- a text of which a read has failed leaves a cause
pub rose_some : (n : ℕ) → Rose 0 n → n ≢ 0
rose_some n (inl more) none = omega (arith, more, none)
rose_some n (inr full) none = omega (arith, full, none)

-- a line of an archive's text is not too long
never_long : (a : Shown) (seen : Option (List ℕ)) (i : ℕ) (f : FileEntry) (log : Option (List ℕ)) (version : ℕ) (sealed : List (List ℕ)) → Opens seen a → slice_get a.files i ≡ Some f → TellsFile i seen log → IfSome log (IsBeforeLong version sealed)
    → OfJournal seen (λ h es held. ⊥)
never_long a None i f log version sealed opens at tells before = tt
never_long a (Some bytes) i f log version sealed opens at tells before = λ h es stood.
    let is = opens h es stood in
    let held = stood.legal.held in
    let o = element_at (content_of held) i (omega (arith, length-map (content_of held) counted, ap length is.files, slice_get_within a.files i f at)) in
    none_too_long version o.0 sealed (old_file h es stood.legal i o.0 o.1) (subst (λ (l : Option (List ℕ)). IfSome l (IsBeforeLong version sealed)) (tells h es stood o.0 o.1) before)

pub stop_some : (last : ℕ) (cause : Option TextCause) → cause ≢ None → option_map (stop_by last) cause ≢ None
stop_some last None some none = some refl
stop_some last (Some c) some none = cc (none)

module _ {E : Type 0} {e : DiskGhosts E} (a : Shown) (old second second_new : DiskState) (stop : Option UpgradeRefusal) (rows : ℕ) (mid after : Journal E e) (opens : Opens old.seen a) (version : mid.header.version ≡ LAST_VERSION)
    (steady : (state_of mid).disk.faults ≡ second.faults) (late : (state_of after).disk.faults ≡ second_new.faults) where
  pub text_cause : (full : Option (List ℕ) → List (List ℕ) → Which → ℕ → Type 0) (has : List JournalEntry → Which → List (List ℕ) → Type 0) (i file : ℕ) (f : FileEntry) (c : FileOutcome) → slice_get a.files i ≡ Some f → TellsFile i old.seen c.log
      → (log : Log) (sealed : List (List ℕ)) (o : Option Cause) → HasJobCause (grounds_over full has (plan_of rows mid) file log.bytes mid after) log mid.header.version sealed o
      → c.messages ≡ length sealed → log.bytes ≡ c.log → (Rose log.faults log.faults_now → stop ≢ None) → HasTextCause old second second_new stop c (option_map of_cause o)
  text_cause full has i file f c at tells log sealed None cause count bytes up = tt
  text_cause full has i file f c at tells log sealed (Some Cause.ReadFault) cause count bytes up =
      (up cause.0, subst (λ v. IfSome c.log (WasCutShort v c)) version (subst (λ (o : Option (List ℕ)). IfSome o (WasCutShort mid.header.version c)) bytes (IfSome_then log.bytes cause.1 (λ b short. record { taken = sealed; count = count; behind = log.behind; short = short }))))
  text_cause full has i file f c at tells log sealed (Some (Cause.LineTooLong line)) cause count bytes up = never_long a old.seen i f c.log mid.header.version sealed opens at tells (subst (λ (o : Option (List ℕ)). IfSome o (IsBeforeLong mid.header.version sealed)) bytes cause.2)
  text_cause full has i file f c at tells log sealed (Some Cause.TooManyLines) cause count bytes up =
      (count ∙ cause.1, subst (λ v. HasMoreThan most_messages v c.log) version (subst (λ (o : Option (List ℕ)). HasMoreThan most_messages mid.header.version o) bytes cause.2))
  text_cause full has i file f c at tells log sealed (Some (Cause.Full book n)) cause count bytes up = tt
  text_cause full has i file f c at tells log sealed (Some (Cause.DiskFault opened now)) cause count bytes up =
      subst (λ n. Rose n second_new.faults) steady (subst (λ n. Rose (state_of mid).disk.faults n) late (subst (λ n. Rose n (state_of after).disk.faults) cause.0 cause.1))
  text_cause full has i file f c at tells log sealed (Some Cause.OutOfMemory) cause count bytes up = tt
  text_cause full has i file f c at tells log sealed (Some (Cause.ArchiveFull end need)) cause count bytes up = tt

-- a file of which something was refused is a part
pub part_of : (o : Option Cause) (whole : Bool) → is_some o ≡ not whole → option_map of_cause o ≢ None → whole ≡ false
part_of None whole is some = absurd (some refl)
part_of (Some cause) true is some = absurd (cc (is))
part_of (Some cause) false is some = refl
