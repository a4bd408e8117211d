-- A merge from the start of the call on.
use Rattle.std.proofs.Common.{◌≡◌, ◌≢◌, ◌+◌, ◌-◌, ◌≤◌, refl, sym, ap, subst, ◌∙◌, inr, ℕ, true, List, [], ◌∷◌, ◌++◌, length, Option, Some, None, arith}
use Rattle.std.specs.Prelude.{IfErr, IfSome, is_some, option_map, Result, Err}
use Rattle.std.proofs.lemmas.List.{length-map}
use Rattle.std.proofs.lemmas.Option.{slice_get_within}
use Rattle.log_seams.specs.Disk.{DiskState, IsLawful, KeepsBytes}
use Rattle.log_seams.specs.Outside.{Rose}
use Rattle.log_seams.specs.declared.disk.Disk.{Ghosts as DiskGhosts}
use Rattle.record_format.specs.declared.header.Header.{Header}
use Rattle.disk_journal.specs.Journal.{state_of}
use Rattle.disk_journal.specs.State.{JournalState}
use Rattle.disk_journal.specs.declared.journal.Journal.{Journal}
use Rattle.disk_seal.specs.Opening.{MayOpen}
use Rattle.disk_seal.specs.Registered.{HoldsNames}
use Rattle.ingest_meaning.specs.declared.refusal.RegisterRefusal.{RegisterRefusal}
use Rattle.ingest_meaning.specs.declared.refusal.RegisterRefusal.TheVariants.{DiskFault}
use Rattle.archive_meaning.specs.declared.TheConstants.{MAX_FILES}
use Rattle.archive_meaning.specs.declared.entry.JournalEntry.{JournalEntry}
use Rattle.archive_meaning.specs.Held.{Held}
use Rattle.archive_meaning.specs.Stands.{StandsFor}
use Rattle.archive_open.specs.Kept.{Kept}
use Rattle.archive_open.specs.Shown.{HasLastGate, IsArchiveOf, Opens, Shown}
use Rattle.archive_open.specs.declared.files.FileEntry.{FileEntry}
use Rattle.ingest_workers.specs.Ingested.{told_entries}
use Rattle.search_meaning.specs.Journal.{OfJournal}
use Rattle.archive_merge.specs.Behind.{SecondView}
use Rattle.archive_merge.specs.Laws.{FilesAreRuns, SegmentsAreTheirs, TextsAreFair, texts_kept, view_in}
use Rattle.archive_merge.specs.Merging.{EndsMerge, done_by}
use Rattle.archive_merge.specs.Named.{names_of}
use Rattle.archive_merge.specs.declared.file.Merged.{Merged}
use Rattle.archive_merge.specs.declared.cause.MergeCause.{MergeCause}
use Rattle.archive_merge.specs.declared.cause.MergeCause.TheVariants.{Full, SecondFault}
use Rattle.archive_merge.specs.declared.refusal.MergeRefusal.{MergeRefusal as Why}
use Rattle.archive_merge.specs.declared.refusal.MergeRefusal.TheVariants.{LongName, Names, OutOfMemory as NoMemory, Stopped}
use Rattle.command_refusals.specs.Reading.{OverJournal}
use Rattle.command_refusals.specs.declared.outcome.AddRefusal.TheVariants.{TooManyFiles}
use Rattle.command_refusals.specs.declared.outcome.MergeRefusal.{MergeRefusal}
use Rattle.command_refusals.proofs.GoingLemmas.{KeepsBytes-same}
use Rattle.command_answers.specs.Ingested.{FromArchive}
use Rattle.command_answers.specs.Merging.{HasDiskCause, HasJournalCause, IsOfSecond, MayCome, MayNotCome, Merge, Merges, TakesOver}
use Rattle.merge_command.specs.Came.{Agrees, ComesBehind, RefusesSecond, lines_by, name_at, place_stopped, refusal_by, refused_by, view_shown}
use Rattle.file_outcomes.proofs.AppendLemmas.{files_counted}
use Rattle.file_outcomes.proofs.LeavesLemmas.{of_told, opened_as}
use Rattle.file_outcomes.proofs.StepsLemmas.{same_nothing}
use Rattle.merge_command.proofs.MergedLemmas.{disk_cause, journal_cause, length-lines, over_opened}
use Rattle.merge_command.proofs.OverLemmas.{names_shown}
use Rattle.merge_command.proofs.RefusedLemmas.{on_all, refused_early}
use Rattle.merge_command.proofs.TakesOverLemmas.{number_held, takes_over}

-- ---- refused before anything was written

-- the answer of the call
pub err_with : {A E : Type 0} (P : E → Type 0) (result : Result A E) (r r' : E) → result ≡ Err r → r ≡ r' → P r' → IfErr result P
err_with {A} {E} P result r r' is same holds = subst (λ (x : Result A E). IfErr x P) (sym is) (subst P (sym same) holds)

-- the second archive was not opened
pub second_refuses : (d second second_new : DiskState) → IsLawful d → KeepsBytes second second_new → (r : MergeRefusal) → RefusesSecond second second_new r → Merges (refused_by r) 0 d d second second_new
second_refuses d second second_new law keeps MergeRefusal.DiskFault refuses =
    refused_early MergeRefusal.DiskFault d d second second_new (same_nothing d law) (KeepsBytes-same d) keeps (inr refuses) (on_all d second.seen MergeRefusal.DiskFault (λ h before held g es other. tt))
second_refuses d second second_new law keeps (MergeRefusal.SecondDamaged at) refuses =
    refused_early (MergeRefusal.SecondDamaged at) d d second second_new (same_nothing d law) (KeepsBytes-same d) keeps refuses (on_all d second.seen (MergeRefusal.SecondDamaged at) (λ h before held g es other. tt))
second_refuses d second second_new law keeps MergeRefusal.OutOfMemory refuses =
    refused_early MergeRefusal.OutOfMemory d d second second_new (same_nothing d law) (KeepsBytes-same d) keeps tt (on_all d second.seen MergeRefusal.OutOfMemory (λ h before held g es other. tt))
second_refuses d second second_new law keeps (MergeRefusal.Damaged at) refuses = absurd refuses
second_refuses d second second_new law keeps (MergeRefusal.VersionDiffers one two) refuses = absurd refuses
second_refuses d second second_new law keeps (MergeRefusal.TooManyFiles told more) refuses = absurd refuses
second_refuses d second second_new law keeps (MergeRefusal.ArchiveFull end need) refuses = absurd refuses
second_refuses d second second_new law keeps (MergeRefusal.Full book count) refuses = absurd refuses
second_refuses d second second_new law keeps (MergeRefusal.SegmentFull end need) refuses = absurd refuses

-- the second archive may not come behind the first
module _ (j : JournalState) (may : MayOpen j) (law : IsLawful j.disk) (held : ℕ) (holds : HoldsNames held j) (second second_new : DiskState) (keeps : KeepsBytes second second_new) (b : Shown) (opens_second : Opens second.seen b)
    (other more : ℕ) (other_is : other ≡ b.kept.version) (counted_more : more ≡ length b.files) where
  on_both : (P : Header → List JournalEntry → ℕ → Header → List JournalEntry → Held → Type 0)
      → ((h : Header) (before : List JournalEntry) (n : ℕ) (g : Header) (es : List JournalEntry) (two : Held) → j.header ≡ h → held ≡ n → IsArchiveOf b g es two → P h before n g es two)
      → FromArchive j.disk (λ h before bytes stood. OfJournal second.seen (λ g es two. P h before (length stood.legal.held.names) g es two))
  on_both P each = go j.disk.seen refl
    where
      go : (told : Option (List ℕ)) → j.disk.seen ≡ told
          → IfSome told (λ bytes. (h : Header) (before : List JournalEntry) (stood : StandsFor bytes h before) → ((c : List ℕ) → j.disk.images c → StandsFor c h before)
          → OfJournal second.seen (λ g es two. P h before (length stood.legal.held.names) g es two))
      go None is = tt
      go (Some bytes) is = λ h before stood only.
          let opened = opened_as j h before bytes may.header may.spelled may.legal may.ends.ends is stood in
          let number = number_held j held holds (ap is_some is) h before opened.0 opened.1 stood.legal in
          over_opened second.seen b (λ g es two. P h before (length stood.legal.held.names) g es two) opens_second (λ image g es two told shown. each h before (length stood.legal.held.names) g es two opened.0 number shown)

  pub agree_refuses : (r : MergeRefusal) → Agrees j.header.version held other more (Err r) → Merges (refused_by r) 0 j.disk j.disk second second_new
  agree_refuses (MergeRefusal.VersionDiffers one two) differs =
      refused_early (MergeRefusal.VersionDiffers one two) j.disk j.disk second second_new (same_nothing j.disk law) (KeepsBytes-same j.disk) keeps tt
      (on_both (λ h before n g es held. HasJournalCause h before (before ++ []) n g es held (refused_by (MergeRefusal.VersionDiffers one two)) 0 (MergeRefusal.VersionDiffers one two)) (λ h before n g es two header number shown. (
        differs.0 ∙ ap (λ (x : Header). x.version) header,
        differs.1 ∙ (other_is ∙ ap (λ (k : Kept). k.version) shown.kept),
        differs.2,
      )))
  agree_refuses (MergeRefusal.TooManyFiles told further) many =
      refused_early (MergeRefusal.TooManyFiles told further) j.disk j.disk second second_new (same_nothing j.disk law) (KeepsBytes-same j.disk) keeps tt
      (on_both (λ h before n g es held. HasJournalCause h before (before ++ []) n g es held (refused_by (MergeRefusal.TooManyFiles told further)) 0 (MergeRefusal.TooManyFiles told further)) (λ h before n g es two header number shown. (
        sym (ap (λ (k : Kept). k.version) shown.kept) ∙ (sym other_is ∙ (many.0 ∙ ap (λ (x : Header). x.version) header)),
        many.1 ∙ number,
        many.2 ∙ files_counted g es b two more shown counted_more,
        (refl, omega (arith, many.1, many.2, many.3)),
      )))
  agree_refuses MergeRefusal.DiskFault agrees = absurd agrees
  agree_refuses (MergeRefusal.Damaged at) agrees = absurd agrees
  agree_refuses (MergeRefusal.SecondDamaged at) agrees = absurd agrees
  agree_refuses MergeRefusal.OutOfMemory agrees = absurd agrees
  agree_refuses (MergeRefusal.ArchiveFull end need) agrees = absurd agrees
  agree_refuses (MergeRefusal.Full book count) agrees = absurd agrees
  agree_refuses (MergeRefusal.SegmentFull end need) agrees = absurd agrees

-- ---- merged

-- there are as many names as files
no_files : (files : List FileEntry) → names_of files ≡ [] → files ≡ []
no_files [] none = refl
no_files (f ∷ files) none = absurd (cc (none))

-- what contracts tell of the second archive, by what was opened
view_same : (s : SecondView) (b : Shown) (told : Option (List ℕ)) → s.version ≡ b.kept.version → s.texts ≡ texts_kept b.kept → s.told ≡ told → s.segments ≡ b.segments → s ≡ view_shown b told
view_same s b told version texts seen segments = λ i. record { version = version i; texts = texts i; told = seen i; segments = segments i }

-- how a merge ends, told of what was opened
pub ends_shown : {D : Type 0} {d : DiskGhosts D} (s : SecondView) (b : Shown) (told : Option (List ℕ)) (files : List FileEntry) (first : ℕ) (ms : List Merged) (why : Option Why) (j after : Journal D d)
    → s.version ≡ b.kept.version → s.texts ≡ texts_kept b.kept → s.told ≡ told → s.segments ≡ b.segments → files ≡ b.files → EndsMerge s first (names_of files) ms why j after → EndsMerge (view_shown b told) first (names_of b.files) ms why j after
ends_shown s b told files first ms why j after version texts seen segments same ends =
    subst (λ x. EndsMerge x first (names_of b.files) ms why j after) (view_same s b told version texts seen segments) (subst (λ fs. EndsMerge s first (names_of fs) ms why j after) same ends)

-- where the bytes are told
pub view_told : (b : Shown) (told : Option (List ℕ)) (bytes : List ℕ) → told ≡ Some bytes → view_shown b told ≡ view_in bytes b
view_told b told bytes is = ap (view_shown b) is

module _ (runs : FilesAreRuns) (fair : TextsAreFair) (theirs : SegmentsAreTheirs) {D : Type 0} {d : DiskGhosts D} (j after : Journal D d) (may : MayOpen (state_of j))
    (s : SecondView) (b : Shown) (opens : Opens s.told b) (view : (bytes : List ℕ) → s.told ≡ Some bytes → s ≡ view_in bytes b) (gate : HasLastGate s.told b) (last : ℕ) (last_is : last ≡ b.end - 1)
    (second second_new : DiskState) (second_is : second.seen ≡ s.told) (read : KeepsBytes second second_new)
    (first : ℕ) (holds : HoldsNames first (state_of j)) (ms : List Merged) (why : Option Why) (ends : EndsMerge s first (names_of b.files) ms why j after) (stays : b.files ≡ [] → after ≡ j)
    (fault : (file : ℕ) → why ≡ Some (Stopped file SecondFault) → Rose second.faults second_new.faults) (version : b.kept.version ≡ j.header.version) (few_both : first + length b.files ≤ MAX_FILES)
    (m : Merge) (files_are : m.files ≡ lines_by b.files ms) (refusal_is : m.refusal ≡ option_map (refusal_by last) why) (name_is : m.name ≡ name_at b.files (place_stopped first why)) where
  few : length ms ≤ length b.files
  few = omega (arith, ends.merged.within, length-map b.files (λ (f : FileEntry). f.name))

  none : m.refusal ≡ None → why ≡ None
  none is = go why (sym refusal_is ∙ is)
    where
      go : (w : Option Why) → option_map (refusal_by last) w ≡ None → w ≡ None
      go None is = refl
      go (Some w) is = absurd (cc (is))

  -- it may come behind an archive of this header and so many files
  may_come : (h : Header) (held : ℕ) → j.header ≡ h → first ≡ held → (g : Header) (es : List JournalEntry) (other : Held) → IsArchiveOf b g es other → MayCome h held g other
  may_come h held header number g es other shown = record {
    version_is = sym (ap (λ (k : Kept). k.version) shown.kept) ∙ (version ∙ ap (λ (x : Header). x.version) header);
    few = omega (arith, few_both, number, files_counted g es b other (length b.files) shown refl);
  }

  comes : (h : Header) (held : ℕ) → j.header ≡ h → first ≡ held → OfJournal s.told (λ g es other. MayCome h held g other)
  comes h held header number = over_opened s.told b (λ g es other. MayCome h held g other) opens (λ bytes g es other is shown. may_come h held header number g es other shown)

  taken : FromArchive (state_of j).disk (λ h before bytes stood. TakesOver s.told h before stood m (state_of j).disk (state_of after).disk)
  taken = go (state_of j).disk.seen refl
    where
      go : (told : Option (List ℕ)) → (state_of j).disk.seen ≡ told
          → IfSome told (λ bytes. (h : Header) (before : List JournalEntry) (stood : StandsFor bytes h before) → ((c : List ℕ) → (state_of j).disk.images c → StandsFor c h before) → TakesOver s.told h before stood m (state_of j).disk (state_of after).disk)
      go None is = tt
      go (Some bytes) is = λ h before stood only.
          let told : is_some (state_of j).disk.seen ≡ true = ap is_some is in
          let opened = opened_as (state_of j) h before bytes may.header may.spelled may.legal may.ends.ends is stood in
          let added : List JournalEntry = ends.merged.naming ++ ends.merged.fresh in
          let Q : MergeRefusal → Type 0 = λ refusal. OfJournal s.told (λ g es other. HasJournalCause h before (before ++ added) (length stood.legal.held.names) g es other m (done_by first (length ms) why) refusal) in
          let number = number_held (state_of j) first holds told h before opened.0 opened.1 stood.legal in
          takes_over runs theirs j after may s b opens view first holds ms why ends.merged m files_are none comes h before bytes is stood
          (subst (λ r. IfSome r Q) (sym refusal_is) (causes h before added (length stood.legal.held.names) told opened.0 opened.1 number (may_come h (length stood.legal.held.names) opened.0 number)
          (λ apart. of_told (is_some (state_of j).disk.seen) told (ends.merged.entries apart) ∙ ap (λ es. es ++ added) opened.1) why refl))
        where
          causes : (h : Header) (before added : List JournalEntry) (held : ℕ) → is_some (state_of j).disk.seen ≡ true → j.header ≡ h → told_entries (state_of j) ≡ before → first ≡ held
              → ((g : Header) (es : List JournalEntry) (other : Held) → IsArchiveOf b g es other → MayCome h held g other)
              → (why ≢ Some (Names DiskFault) → told_entries (state_of after) ≡ before ++ added) → (w : Option Why) → why ≡ w
              → IfSome (option_map (refusal_by last) w) (λ refusal. OfJournal s.told (λ g es other. HasJournalCause h before (before ++ added) held g es other m (done_by first (length ms) why) refusal))
          causes h before added held told header entries number may left None is = tt
          causes h before added held told header entries number may left (Some w) is =
              subst (λ y. OfJournal s.told (λ g es other. HasJournalCause h before (before ++ added) held g es other m (done_by first (length ms) y) (refusal_by last w))) (sym is)
              (journal_cause runs fair theirs j after s b opens view first ms few ends.merged.numbers last h before added held told header entries number may m files_are w
              (λ apart. left (λ same. apart (cc (is, same)))) (name_is ∙ ap (λ y. name_at b.files (place_stopped first y)) is) (ends.cause w is))

  disk_causes : (w : Option Why) → why ≡ w → IfSome (option_map (refusal_by last) w) (HasDiskCause (state_of j).disk (state_of after).disk second second_new)
  disk_causes None is = tt
  disk_causes (Some w) is =
      disk_cause runs fair theirs j after s b opens view first ms few ends.merged.numbers last last_is gate (state_of j).disk second second_new (omega arith) second_is w (ends.cause w is)
      (λ file same. fault file (is ∙ ap Some same))

  -- a second archive without files
  still : b.files ≡ [] → KeepsBytes (state_of j).disk (state_of after).disk
  still none = subst (λ (x : Journal D d). KeepsBytes (state_of j).disk (state_of x).disk) (sym (stays none)) (KeepsBytes-same (state_of j).disk)

  pub merges : Merges m first (state_of j).disk (state_of after).disk second second_new
  merges = record {
    takes = subst (λ t. FromArchive (state_of j).disk (λ h before bytes stood. TakesOver t h before stood m (state_of j).disk (state_of after).disk)) (sym second_is) taken;
    numbered = λ some. number (state_of j).disk.seen refl;
    cause = subst (λ r. IfSome r (HasDiskCause (state_of j).disk (state_of after).disk second second_new)) (sym refusal_is) (disk_causes why refl);
    idle = subst (λ t. OfJournal t (λ g es other. other.names ≡ [] → KeepsBytes (state_of j).disk (state_of after).disk)) (sym second_is)
        (over_opened s.told b (λ g es other. other.names ≡ [] → KeepsBytes (state_of j).disk (state_of after).disk) opens
        (λ bytes g es other is shown none. still (no_files b.files (names_shown b g es other shown ∙ none))));
    nothing = λ early. absurd (comes_late why (subst MayNotCome refusal_is early));
    only_read = read;
  }
    where
      -- it was found that the second archive may come behind
      comes_late : (w : Option Why) → MayNotCome (option_map (refusal_by last) w) → ⊥
      comes_late None early = early
      comes_late (Some LongName) early = early
      comes_late (Some (Names RegisterRefusal.OutOfMemory)) early = early
      comes_late (Some (Names (RegisterRefusal.ArchiveFull end need))) early = early
      comes_late (Some (Names RegisterRefusal.DiskFault)) early = early
      comes_late (Some (Stopped file (Full book count))) early = early
      comes_late (Some (Stopped file (MergeCause.ArchiveFull end need))) early = early
      comes_late (Some (Stopped file (MergeCause.FirstFault opened now))) early = early
      comes_late (Some (Stopped file SecondFault)) early = early
      comes_late (Some (Stopped file MergeCause.SecondDamaged)) early = early
      comes_late (Some (Stopped file MergeCause.OutOfMemory)) early = early
      comes_late (Some NoMemory) early = early

      number : (told : Option (List ℕ)) → (state_of j).disk.seen ≡ told → OverJournal told (λ journal. first ≡ length journal.names)
      number None is = tt
      number (Some bytes) is = λ h es stood.
          let opened = opened_as (state_of j) h es bytes may.header may.spelled may.legal may.ends.ends is stood in
          number_held (state_of j) first holds (ap is_some is) h es opened.0 opened.1 stood.legal

  -- no damage of the archive is told, and nothing was written where a cause of the second one alone ended it
  undamaged : (w : Option Why) (at : ℕ) → option_map (refusal_by last) w ≡ Some (MergeRefusal.Damaged at) → ⊥
  undamaged None at is = absurd (cc (is))
  undamaged (Some LongName) at is = absurd (cc (is))
  undamaged (Some (Names RegisterRefusal.OutOfMemory)) at is = absurd (cc (is))
  undamaged (Some (Names (RegisterRefusal.ArchiveFull end need))) at is = absurd (cc (is))
  undamaged (Some (Names RegisterRefusal.DiskFault)) at is = absurd (cc (is))
  undamaged (Some (Stopped file (Full book count))) at is = absurd (cc (is))
  undamaged (Some (Stopped file (MergeCause.ArchiveFull end need))) at is = absurd (cc (is))
  undamaged (Some (Stopped file (MergeCause.FirstFault opened now))) at is = absurd (cc (is))
  undamaged (Some (Stopped file SecondFault)) at is = absurd (cc (is))
  undamaged (Some (Stopped file MergeCause.SecondDamaged)) at is = absurd (cc (is))
  undamaged (Some (Stopped file MergeCause.OutOfMemory)) at is = absurd (cc (is))
  undamaged (Some NoMemory) at is = absurd (cc (is))

  -- a file that was stopped is told
  told_some : (file : ℕ) (cause : MergeCause) → why ≡ Some (Stopped file cause) → m.files ≡ [] → ⊥
  told_some file cause is none =
      let stopped = ends.cause (Stopped file cause) is in
      absurd (omega (arith, slice_get_within ms stopped.place stopped.file stopped.is, length-lines b.files ms few, ap length (sym files_are ∙ none)))

  alone : (w : Option Why) → why ≡ w → IsOfSecond (option_map (refusal_by last) w) → m.files ≡ [] → after ≡ j
  alone None is such none = absurd such
  alone (Some LongName) is such none = (ends.cause LongName is).2
  alone (Some (Names RegisterRefusal.OutOfMemory)) is such none = absurd such
  alone (Some (Names (RegisterRefusal.ArchiveFull end need))) is such none = absurd such
  alone (Some (Names RegisterRefusal.DiskFault)) is such none = absurd such
  alone (Some (Stopped file (Full book count))) is such none = absurd such
  alone (Some (Stopped file (MergeCause.ArchiveFull end need))) is such none = absurd such
  alone (Some (Stopped file (MergeCause.FirstFault opened now))) is such none = absurd such
  alone (Some (Stopped file SecondFault)) is such none = absurd such
  alone (Some (Stopped file MergeCause.SecondDamaged)) is such none = absurd (told_some file MergeCause.SecondDamaged is none)
  alone (Some (Stopped file MergeCause.OutOfMemory)) is such none = absurd such
  alone (Some NoMemory) is such none = absurd such

  pub behind : ComesBehind m j after
  behind = record {
    undamaged = λ at is. undamaged why at (sym refusal_is ∙ is);
    alone = λ such none. alone why refl (subst IsOfSecond refusal_is such) none;
  }
