-- What `upgrade` answers, from what its steps leave.
use Rattle.std.proofs.Common.{◌≡◌, ◌⊎◌, ◌≤◌, ◌<◌, ◌==◌, ◌||◌, inl, inr, ⊎_elim, refl, sym, ap, ap₂, subst, ◌∙◌, ℕ, Bool, true, false, if◌then◌else◌, List, [], ◌∷◌, length, map, Option, Some, None, arith}
use Rattle.std.specs.Prelude.{All, IfSome}
use Rattle.std.proofs.lemmas.List.Elements.{All-head, All-nil, All-tail, All-weaker, All-cons}
use Rattle.std.proofs.lemmas.Option.{IfSome_then}
use Rattle.log_seams.specs.Disk.{DiskState, IsLawful, KeepsBytes, Rests}
use Rattle.log_seams.specs.Outside.{Rose}
use Rattle.log_seams.proofs.MomentLemmas.{keeps_on}
use Rattle.record_format.specs.declared.header.Header.{Header}
use Rattle.record_format.specs.declared.header.TheConstants.{LAST_VERSION}
use Rattle.archive_meaning.specs.Held.{content_of}
use Rattle.archive_meaning.specs.Stands.{StandsFor}
use Rattle.archive_meaning.specs.declared.entry.JournalEntry.{JournalEntry}
use Rattle.archive_open.specs.Shown.{Opens, RefusedAt, Shown}
use Rattle.search_meaning.specs.Journal.{OfJournal}
use Rattle.sink_pieces.specs.Output.{GrewByFront}
use Rattle.sink_pieces.proofs.OutputLemmas.{Grew-nothing}
use Rattle.file_lines.specs.Directory.{directory_from}
use Rattle.command_refusals.specs.Ending.{EndsWith, RoseIn, SaysIn, Stayed, TookNothing}
use Rattle.command_refusals.specs.Outcome.{of_upgrade}
use Rattle.command_refusals.specs.Outside.{Outside}
use Rattle.command_refusals.specs.Refusal.{TellsNoMemory, line_of, status_of}
use Rattle.command_refusals.specs.declared.outcome.PartCause.{PartCause}
use Rattle.command_refusals.specs.declared.outcome.UpgradeRefusal.{UpgradeRefusal}
use Rattle.command_refusals.specs.GoesOn.{DiskGoesOn}
use Rattle.command_refusals.proofs.GoingLemmas.{DiskGoesOn-seen, KeepsBytes-same}
use Rattle.command_answers.specs.Ingested.{FileOutcome, PrintsCame, line_of_came}
use Rattle.command_answers.specs.Taken.{file_status, gravest, has}
use Rattle.command_answers.specs.Answers.{AnswersUpgrade}
use Rattle.command_answers.specs.Upgrading.{AreOlder, CameOfText, EndsTexts, EndsUpgrade, FromNew, HasTextCause, IsHeaderFor, MadeNone, MakesNew, MeetsNone, MetNone, NamedNotAll, NamesMetNone, NamesSome, PrintsUpgrade, header_for}
use Rattle.file_outcomes.specs.declared.file_report.FileReport.{FileReport}
use Rattle.upgrade_command.specs.Old.{IsOld, RefusesOld}
use Rattle.upgrade_command.specs.Taking.{MakesNone, TakesFiles, TakesNone}

-- ---- the archive

-- where its bytes stand for a journal, this is of an earlier version
pub header_is : (seen : Option (List ℕ)) (a : Shown) (layouts : List (List ℕ)) → IsOld seen a layouts → IsHeaderFor seen (header_for a.header)
header_is seen a layouts old = go seen old.opens
  where
    go : (told : Option (List ℕ)) → Opens told a → IsHeaderFor told (header_for a.header)
    go None opens = tt
    go (Some bytes) opens = λ h es stood.
        let is = opens h es stood in
        (subst (λ (x : Header). x.version < LAST_VERSION) is.header old.older, ap header_for is.header)

are_older : (seen : Option (List ℕ)) (header : Header) → IsHeaderFor seen header → AreOlder seen
are_older None header is = tt
are_older (Some bytes) header is = λ h es stood. (is h es stood).0

-- ---- what is complete

module _ (seen : Outside) (old new second second_new : DiskState) (status : ℕ) (bytes : List ℕ) (h : Header) (es : List JournalEntry) (told : old.seen ≡ Some bytes) (stands : StandsFor bytes h es) (older : h.version < LAST_VERSION)
    (empty : second.seen ≡ Some []) (steady : ¬ Rose old.faults new.faults) (calm : ¬ Rose second.faults second_new.faults) (sent : ¬ RoseIn seen.out_faults) where
  abbrev Complete : Type 0
  Complete = (status ≡ 0) ⊎ TellsNoMemory status

  none_damaged : (at : ℕ) → ¬ RefusedAt at old.seen
  none_damaged at refused = (subst (RefusedAt at) told refused).none h es stands

  making_complete : (refusal : UpgradeRefusal) → EndsWith seen [] status (Some (of_upgrade refusal)) → MadeNone old new second second_new refusal → Complete
  making_complete UpgradeRefusal.DiskFault ends cause = absurd (steady cause.0)
  making_complete (UpgradeRefusal.Damaged at) ends cause = absurd (none_damaged at cause.0)
  making_complete UpgradeRefusal.OutOfMemory ends cause = inr ends.status_is
  making_complete (UpgradeRefusal.AlreadyNewest version) ends cause = absurd (omega (arith, older, subst (λ (o : Option (List ℕ)). OfJournal o (λ g fs held. g.version ≡ LAST_VERSION)) told cause.1 h es stands))
  making_complete (UpgradeRefusal.NotEmpty len) ends cause =
      let long : len ≡ 0 = subst (λ (o : Option (List ℕ)). IfSome o (λ b. len ≡ length b)) empty cause.1.long in
      absurd (omega (arith, cause.1.some, long))
  making_complete UpgradeRefusal.SecondFault ends cause = absurd (calm cause.1)
  making_complete (UpgradeRefusal.ArchiveFull end need) ends cause = absurd cause

  names_complete : (refusal : UpgradeRefusal) → EndsWith seen [] status (Some (of_upgrade refusal)) → NamedNotAll second second_new refusal → NamesMetNone refusal → Complete
  names_complete UpgradeRefusal.SecondFault ends cause met = absurd (calm cause)
  names_complete (UpgradeRefusal.ArchiveFull end need) ends cause met = absurd met
  names_complete UpgradeRefusal.OutOfMemory ends cause met = inr ends.status_is
  names_complete UpgradeRefusal.DiskFault ends cause met = absurd cause
  names_complete (UpgradeRefusal.Damaged at) ends cause met = absurd cause
  names_complete (UpgradeRefusal.AlreadyNewest version) ends cause met = absurd cause
  names_complete (UpgradeRefusal.NotEmpty len) ends cause met = absurd cause

  -- nothing was refused of a file, or memory ended
  abbrev IsFree : FileOutcome → Type 0
  IsFree c = (c.refusal ≡ None) ⊎ (c.refusal ≡ Some PartCause.OutOfMemory)

  one_free : (c : FileOutcome) (r : Option PartCause) → c.refusal ≡ r → HasTextCause old second second_new None c r → MeetsNone r → IsFree c
  one_free c None is cause met = inl is
  one_free c (Some PartCause.OutOfMemory) is cause met = inr is
  one_free c (Some PartCause.DiskFault) is cause met = absurd (calm cause)
  one_free c (Some (PartCause.Full book count)) is cause met = absurd met
  one_free c (Some (PartCause.ArchiveFull end need)) is cause met = absurd met
  one_free c (Some PartCause.OpenFault) is cause met = absurd cause
  one_free c (Some PartCause.ReadFault) is cause met = absurd (cause.0 refl)
  one_free c (Some (PartCause.LineTooLong line)) is cause met = absurd (subst (λ (o : Option (List ℕ)). OfJournal o (λ g fs held. ⊥)) told cause h es stands)
  one_free c (Some PartCause.TooManyLines) is cause met = absurd met

  all_free : (came : List FileOutcome) → All (CameOfText old second second_new None) came → All (λ (c : FileOutcome). MeetsNone c.refusal) came → All IsFree came
  all_free [] each met = All-nil IsFree
  all_free (c ∷ came) each met =
      All-cons IsFree c came (one_free c c.refusal refl (All-head (CameOfText old second second_new None) c came each).cause (All-head (λ (x : FileOutcome). MeetsNone x.refusal) c came met))
      (all_free came (All-tail (CameOfText old second second_new None) c came each) (All-tail (λ (x : FileOutcome). MeetsNone x.refusal) c came met))

  abbrev statuses : List FileOutcome → List ℕ
  statuses came = map (λ (c : FileOutcome). file_status c.refusal) came

  no_other : (n : ℕ) → (0 == n) ≡ false → (9 == n) ≡ false → (came : List FileOutcome) → All IsFree came → has n (statuses came) ≡ false
  no_other n zero nine [] free = refl
  no_other n zero nine (c ∷ came) free = ap₂ (λ (a b : Bool). a || b) (one (All-head IsFree c came free)) (no_other n zero nine came (All-tail IsFree c came free))
    where
      one : IsFree c → (file_status c.refusal == n) ≡ false
      one (inl none) = ap (λ (r : Option PartCause). file_status r == n) none ∙ zero
      one (inr memory) = ap (λ (r : Option PartCause). file_status r == n) memory ∙ nine

  abbrev choice : Bool → Bool → Bool → ℕ
  choice five nine four = if five then 5 else (if nine then 9 else (if four then 4 else 0))

  gravest_is : (five nine four : Bool) → five ≡ false → four ≡ false → (choice five nine four ≡ 0) ⊎ (choice five nine four ≡ 9)
  gravest_is true nine four none other = absurd (cc (none))
  gravest_is false true four none other = inr refl
  gravest_is false false true none other = absurd (cc (other))
  gravest_is false false false none other = inl refl

  free_status : (came : List FileOutcome) → All IsFree came → (gravest (statuses came) ≡ 0) ⊎ (gravest (statuses came) ≡ 9)
  free_status came free = gravest_is (has 5 (statuses came)) (has 9 (statuses came)) (has 4 (statuses came)) (no_other 5 refl refl came free) (no_other 4 refl refl came free)

  printed_complete : (came : List FileOutcome) → All IsFree came → PrintsCame came 0 seen status → Complete
  printed_complete came free (inl all) = ⊎_elim (λ none. inl (all.0 ∙ none)) (λ memory. inr (all.0 ∙ memory)) (free_status came free)
  printed_complete came free (inr (inl failed)) = absurd (sent failed.2)
  printed_complete came free (inr (inr memory)) = inr memory.0.status_is

  upgrades_complete : (came : List FileOutcome) (stop : Option UpgradeRefusal) → IfSome stop (EndsTexts old new) → All (CameOfText old second second_new stop) came → PrintsUpgrade stop came seen status → All (λ (c : FileOutcome). MeetsNone c.refusal) came → Complete
  upgrades_complete came None stopped each printed met = printed_complete came (all_free came each met) printed
  upgrades_complete came (Some UpgradeRefusal.DiskFault) stopped each printed met = absurd (steady stopped)
  upgrades_complete came (Some (UpgradeRefusal.Damaged at)) stopped each printed met = absurd (none_damaged at stopped)
  upgrades_complete came (Some UpgradeRefusal.OutOfMemory) stopped each (front, inl (ends, stayed)) met = inr ends.status_is
  upgrades_complete came (Some UpgradeRefusal.OutOfMemory) stopped each (front, inr (inl (ends, rose))) met = absurd (sent rose)
  upgrades_complete came (Some UpgradeRefusal.OutOfMemory) stopped each (front, inr (inr (ends, stayed))) met = inr ends.status_is
  upgrades_complete came (Some (UpgradeRefusal.AlreadyNewest version)) stopped each printed met = absurd stopped
  upgrades_complete came (Some UpgradeRefusal.SecondFault) stopped each printed met = absurd stopped
  upgrades_complete came (Some (UpgradeRefusal.NotEmpty len)) stopped each printed met = absurd stopped
  upgrades_complete came (Some (UpgradeRefusal.ArchiveFull end need)) stopped each printed met = absurd stopped

complete : (rows : ℕ) (seen : Outside) (old new second second_new : DiskState) (status : ℕ) (ends : EndsUpgrade rows seen old new second second_new status) (bytes : List ℕ) (h : Header) (es : List JournalEntry) → old.seen ≡ Some bytes → StandsFor bytes h es → h.version < LAST_VERSION
    → second.seen ≡ Some [] → ¬ Rose old.faults new.faults → ¬ Rose second.faults second_new.faults → ¬ RoseIn seen.out_faults → MetNone ends → (status ≡ 0) ⊎ TellsNoMemory status
complete rows seen old new second second_new status (inl making) bytes h es told stands older empty steady calm sent met =
    making_complete seen old new second second_new status bytes h es told stands older empty steady calm sent making.refusal making.ends making.cause
complete rows seen old new second second_new status (inr (inl refused)) bytes h es told stands older empty steady calm sent met =
    names_complete seen old new second second_new status bytes h es told stands older empty steady calm sent refused.refusal refused.ends refused.cause met
complete rows seen old new second second_new status (inr (inr done)) bytes h es told stands older empty steady calm sent met =
    upgrades_complete seen old new second second_new status bytes h es told stands older empty steady calm sent done.came done.stop done.stopped done.each done.printed met

pub answered : (rows : ℕ) (seen : Outside) (old new second second_new : DiskState) (status : ℕ) → KeepsBytes old new → EndsUpgrade rows seen old new second second_new status → AnswersUpgrade rows seen old new second second_new status
answered rows seen old new second second_new status keeps ends = record { ends = ends; keeps = keeps; complete = complete rows seen old new second second_new status ends }

-- the archive ended it, which alone is printed
pub printed_stop : (seen : Outside) (status : ℕ) (stop : UpgradeRefusal) (came : List FileOutcome) → status ≡ status_of (of_upgrade stop) → SaysIn seen (line_of [] (of_upgrade stop)) → seen.out.1 ≡ seen.out.0 → Stayed seen.out_faults → PrintsUpgrade (Some stop) came seen status
printed_stop seen status stop came is said same stayed =
    (subst (λ (o : Option (List ℕ)). GrewByFront seen.out.0 o (directory_from 0 (map line_of_came came))) (sym same) ([], directory_from 0 (map line_of_came came), refl, Grew-nothing seen.out.0), inl (record { status_is = is; said = said }, stayed))

-- nothing stopped it
pub printed_on : (seen : Outside) (status : ℕ) (stop : Option UpgradeRefusal) (came : List FileOutcome) → stop ≡ None → PrintsCame came 0 seen status → PrintsUpgrade stop came seen status
printed_on seen status stop came none printed = subst (λ (s : Option UpgradeRefusal). PrintsUpgrade s came seen status) (sym none) printed

-- a disk that was only read, over two calls
pub looked_on : (old mid new : DiskState) → IsLawful old → IsLawful new → KeepsBytes old mid → old.faults ≤ mid.faults → Rests mid new → mid.faults ≤ new.faults → DiskGoesOn old new
looked_on old mid new law law_new keeps low rests more =
    let kept = keeps_on old mid new keeps rests in
    DiskGoesOn-seen old new law law_new (omega (arith, low, more)) kept.seen kept.time

-- ---- by what the steps leave

-- the archive was not opened
pub refused_old : (rows : ℕ) (seen : Outside) (old new second : DiskState) (status : ℕ) (refusal : UpgradeRefusal) → status ≡ status_of (of_upgrade refusal) → SaysIn seen (line_of [] (of_upgrade refusal)) → TookNothing seen.out → Stayed seen.out_faults
    → KeepsBytes old new → RefusesOld old new refusal → AnswersUpgrade rows seen old new second second status
refused_old rows seen old new second status refusal is said nothing sink keeps cause =
    answered rows seen old new second second status keeps (inl (record { refusal = refusal; ends = record { status_is = is; said = said }; nothing = nothing; sink = sink; cause = made refusal cause }))
  where
    made : (r : UpgradeRefusal) → RefusesOld old new r → MadeNone old new second second r
    made UpgradeRefusal.DiskFault cause = (cause, KeepsBytes-same second)
    made (UpgradeRefusal.Damaged at) cause = (cause, KeepsBytes-same second)
    made UpgradeRefusal.OutOfMemory cause = KeepsBytes-same second
    made (UpgradeRefusal.AlreadyNewest version) cause = (cause.0, cause.1, KeepsBytes-same second)
    made UpgradeRefusal.SecondFault cause = absurd cause
    made (UpgradeRefusal.NotEmpty len) cause = absurd cause
    made (UpgradeRefusal.ArchiveFull end need) cause = absurd cause

module _ (rows : ℕ) (seen : Outside) (old mid new second second_new : DiskState) (status : ℕ) (a : Shown) (layouts : List (List ℕ)) (is_old : IsOld old.seen a layouts) (keeps : KeepsBytes old mid) (steady : mid.faults ≡ old.faults) (rests : Rests mid new) where
  abbrev header : Header
  header = header_for a.header

  kept : KeepsBytes old new
  kept = keeps_on old mid new keeps rests

  -- no file was taken in
  pub refused_files : (refusal : UpgradeRefusal) → status ≡ status_of (of_upgrade refusal) → SaysIn seen (line_of [] (of_upgrade refusal)) → TookNothing seen.out → Stayed seen.out_faults → TakesNone header mid second second_new refusal
      → AnswersUpgrade rows seen old new second second_new status
  refused_files refusal is said nothing sink (inl none) =
      answered rows seen old new second second_new status kept (inl (record { refusal = refusal; ends = record { status_is = is; said = said }; nothing = nothing; sink = sink; cause = made refusal none }))
    where
      older : AreOlder old.seen
      older = are_older old.seen header (header_is old.seen a layouts is_old)

      made : (r : UpgradeRefusal) → MakesNone second second_new r → MadeNone old new second second_new r
      made UpgradeRefusal.OutOfMemory cause = cause
      made (UpgradeRefusal.NotEmpty len) cause = (older, cause)
      made UpgradeRefusal.SecondFault cause = (older, cause)
      made UpgradeRefusal.DiskFault cause = absurd cause
      made (UpgradeRefusal.Damaged at) cause = absurd cause
      made (UpgradeRefusal.AlreadyNewest version) cause = absurd cause
      made (UpgradeRefusal.ArchiveFull end need) cause = absurd cause
  refused_files refusal is said nothing sink (inr some) =
      answered rows seen old new second second_new status kept (inr (inl (record {
        header = header;
        made = header_is old.seen a layouts is_old;
        refusal = refusal;
        ends = record { status_is = is; said = said };
        nothing = nothing;
        sink = sink;
        cause = some.cause;
        named = some.named;
        names = subst (λ (o : Option (List ℕ)). OfJournal o (λ h es held. NamesSome second.seen header some.named (map (λ f. f.name) (content_of held)) refusal)) keeps.seen some.names;
        disk = some.disk;
      })))

  text_on : (stop : Option UpgradeRefusal) (c : FileOutcome) (r : Option PartCause) → HasTextCause mid second second_new stop c r → HasTextCause old second second_new stop c r
  text_on stop c None cause = cause
  text_on stop c (Some PartCause.OpenFault) cause = cause
  text_on stop c (Some PartCause.ReadFault) cause = cause
  text_on stop c (Some (PartCause.LineTooLong line)) cause = subst (λ (o : Option (List ℕ)). OfJournal o (λ h es held. ⊥)) keeps.seen cause
  text_on stop c (Some PartCause.TooManyLines) cause = cause
  text_on stop c (Some (PartCause.Full book count)) cause = cause
  text_on stop c (Some (PartCause.ArchiveFull end need)) cause = cause
  text_on stop c (Some PartCause.DiskFault) cause = cause
  text_on stop c (Some PartCause.OutOfMemory) cause = cause

  stop_on : (r : UpgradeRefusal) → EndsTexts mid new r → EndsTexts old new r
  stop_on UpgradeRefusal.DiskFault cause = subst (λ n. Rose n new.faults) steady cause
  stop_on (UpgradeRefusal.Damaged at) cause = subst (RefusedAt at) keeps.seen cause
  stop_on UpgradeRefusal.OutOfMemory cause = cause
  stop_on (UpgradeRefusal.AlreadyNewest version) cause = cause
  stop_on UpgradeRefusal.SecondFault cause = cause
  stop_on (UpgradeRefusal.NotEmpty len) cause = cause
  stop_on (UpgradeRefusal.ArchiveFull end need) cause = cause

  -- the files were taken in
  pub files_taken : (stop : Option UpgradeRefusal) (reports : List FileReport) → IfSome stop (EndsTexts mid new) → (takes : TakesFiles rows stop header reports mid second second_new) → PrintsUpgrade stop takes.came seen status
      → AnswersUpgrade rows seen old new second second_new status
  files_taken stop reports stopped takes printed =
      answered rows seen old new second second_new status kept (inr (inr (record {
        header = header;
        made = header_is old.seen a layouts is_old;
        came = takes.came;
        stop = stop;
        stopped = IfSome_then stop stopped stop_on;
        each = All-weaker (CameOfText mid second second_new stop) (CameOfText old second second_new stop) (λ c is. record { cause = text_on stop c c.refusal is.cause; part = is.part }) takes.came takes.takes.each;
        disk = subst (λ (o : Option (List ℕ)). FromNew header second second_new (λ from. MakesNew rows stop o header takes.came from second_new)) keeps.seen takes.takes.disk;
        printed = printed;
      })))
