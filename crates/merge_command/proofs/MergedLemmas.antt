-- Why not all was merged, as it is told of both disks and of both journals; and all that a merge leaves.
use Rattle.std.proofs.Common.{◌≡◌, ◌≢◌, ◌+◌, ◌-◌, ◌<◌, ◌≤◌, inl, inr, refl, sym, ap, ap₂, subst, ◌∙◌, ℕ, true, List, [], ◌∷◌, ◌++◌, length, take, drop, Option, Some, None, arith}
use Rattle.std.specs.Prelude.{All, is_some, slice_get}
use Rattle.std.specs.List.{Contains, filter_map}
use Rattle.std.proofs.lemmas.List.Elements.{All-nil}
use Rattle.log_seams.specs.Disk.{DiskState, IsLawful, KeepsBytes}
use Rattle.log_seams.specs.Outside.{Rose}
use Rattle.log_seams.specs.declared.disk.Disk.{Ghosts as DiskGhosts}
use Rattle.log_seams.proofs.MomentLemmas.{keeps_leave, rose, weaker}
use Rattle.logtype_text.specs.Fair.{IsFairType, IsFairWord}
use Rattle.record_format.specs.declared.header.Header.{Header}
use Rattle.disk_journal.specs.Journal.{state_of}
use Rattle.disk_journal.specs.declared.journal.Journal.{Journal}
use Rattle.ingest_meaning.specs.declared.refusal.RegisterRefusal.{RegisterRefusal}
use Rattle.ingest_meaning.specs.declared.refusal.RegisterRefusal.TheVariants.{DiskFault}
use Rattle.row_codec.specs.declared.namer.Which.{Which}
use Rattle.archive_meaning.specs.declared.entry.JournalEntry.{JournalEntry}
use Rattle.archive_meaning.specs.Held.{Held, nothing_held}
use Rattle.archive_meaning.specs.Spelled.{end_of}
use Rattle.archive_meaning.specs.Stands.{StandsFor}
use Rattle.archive_open.specs.Kept.{Kept}
use Rattle.archive_open.specs.declared.segments.SegmentPlace.{SegmentPlace}
use Rattle.ingest_meaning.specs.Parts.{in_file}
use Rattle.archive_open.specs.Shown.{HasLastGate, IsArchiveOf, Opens, RefusedAt, Shown, StandsForNone}
use Rattle.archive_open.specs.declared.files.FileEntry.{FileEntry}
use Rattle.ingest_meaning.specs.Room.{files_size}
use Rattle.ingest_workers.specs.Ingested.{told_entries}
use Rattle.search_meaning.specs.Journal.{OfJournal}
use Rattle.archive_merge.specs.Behind.{AreOfBoth, HasRun, HasStopped, IsFullByBoth, SecondView, needed_of, places_for}
use Rattle.archive_merge.specs.Laws.{FilesAreRuns, IsSegmentAt, SegmentsAreTheirs, TextsAreFair, view_in}
use Rattle.archive_merge.specs.Merging.{HasMergeCause, done_by}
use Rattle.archive_merge.proofs.NeededLemmas.{zip_contains}
use Rattle.archive_merge.specs.Named.{IsShort, names_of}
use Rattle.archive_merge.specs.Runs.{SoFar, held_of}
use Rattle.archive_merge.specs.declared.cause.MergeCause.{MergeCause}
use Rattle.archive_merge.specs.declared.cause.MergeCause.TheVariants.{ArchiveFull, FirstFault, Full, OutOfMemory, SecondDamaged, SecondFault}
use Rattle.archive_merge.specs.declared.file.Merged.{Merged}
use Rattle.archive_merge.specs.declared.refusal.MergeRefusal.{MergeRefusal as Why}
use Rattle.archive_merge.specs.declared.refusal.MergeRefusal.TheVariants.{LongName, Names, Stopped, OutOfMemory as NoMemory}
use Rattle.command_refusals.specs.GoesOn.{DiskGoesOn}
use Rattle.command_answers.specs.Ingested.{FromArchive}
use Rattle.command_answers.specs.Merging.{HasDiskCause, HasJournalCause, IsNeeded, IsStopped, LacksRoom, MayCome, Merge, TakesOver}
use Rattle.merge_command.specs.Came.{lines_by, name_at, name_in, place_stopped, refusal_by}
use Rattle.file_outcomes.specs.JournalLeft.{StandsBetween}
use Rattle.file_outcomes.proofs.NamingLemmas.{names_grow, refused_last}
use Rattle.file_outcomes.proofs.LeavesLemmas.{begun_sooner, from_archive, of_told, prefix_same, still_between}
use Rattle.merge_command.proofs.CauseLemmas.{full_of_both, lacks_room, line_at, line_told, texts_same}
use Rattle.merge_command.proofs.OverLemmas.{names_shown}
use Rattle.merge_command.proofs.RefusedLemmas.{of_all}
use Rattle.merge_command.proofs.SegmentLemmas.{needed_theirs}

-- ---- bytes that stand for no journal

-- bytes whose archive has a long name stand for none
long_none : (b : Shown) (bytes : List ℕ) → Opens (Some bytes) b → ¬ All IsShort (names_of b.files) → StandsForNone bytes
long_none b bytes opens long = λ h es stands.
    long (subst (All IsShort) (sym (names_shown b h es stands.legal.held (opens h es stands)))
    (names_grow h nothing_held stands.legal.held es 0 stands.legal.run stands.legal.named (All-nil IsShort)))

-- and so do bytes whose archive has a file with segments that are no run
damaged_none : (runs : FilesAreRuns) (fair : TextsAreFair) (s : SecondView) (b : Shown) (file : ℕ) (bytes : List ℕ) → s ≡ view_in bytes b → Opens (Some bytes) b
    → (All IsFairType s.texts.types → All IsFairWord s.texts.words → (all : SoFar) → ¬ HasRun s file all) → StandsForNone bytes
damaged_none runs fair s b file bytes view opens cause = λ h es stands.
    let is = opens h es stands in
    let texts = fair bytes h es b stands is in
    cause
    (subst (λ (v : SecondView). All IsFairType v.texts.types) (sym view) texts.0)
    (subst (λ (v : SecondView). All IsFairWord v.texts.words) (sym view) texts.1)
    (held_of file stands.legal.held) (subst (λ v. HasRun v file (held_of file stands.legal.held)) (sym view) (runs bytes h es b file stands is))

-- ---- the causes

-- what holds of each journal that the bytes stand for, whose archive was opened
pub over_opened : (told : Option (List ℕ)) (b : Shown) (P : Header → List JournalEntry → Held → Type 0) → Opens told b
    → ((bytes : List ℕ) (g : Header) (es : List JournalEntry) (held : Held) → told ≡ Some bytes → IsArchiveOf b g es held → P g es held) → OfJournal told P
over_opened None b P opens each = tt
over_opened (Some bytes) b P opens each = λ g es stood. each bytes g es stood.legal.held refl (opens g es stood)

-- the same, where the journal is told
pub over_stood : (told : Option (List ℕ)) (b : Shown) (P : Header → List JournalEntry → Held → Type 0) → Opens told b
    → ((bytes : List ℕ) (g : Header) (es : List JournalEntry) (stood : StandsFor bytes g es) → told ≡ Some bytes → IsArchiveOf b g es stood.legal.held → P g es stood.legal.held) → OfJournal told P
over_stood None b P opens each = tt
over_stood (Some bytes) b P opens each = λ g es stood. each bytes g es stood refl (opens g es stood)

pub length-lines : (files : List FileEntry) (ms : List Merged) → length ms ≤ length files → length (lines_by files ms) ≡ length ms
length-lines files [] few = refl
length-lines [] (m ∷ ms) few = absurd (omega (arith, few))
length-lines (f ∷ files) (m ∷ ms) few = omega (arith, length-lines files ms (omega (arith, few)))

module _ (runs : FilesAreRuns) (fair : TextsAreFair) (theirs : SegmentsAreTheirs) {D : Type 0} {d : DiskGhosts D} (j after : Journal D d)
    (s : SecondView) (b : Shown) (opens : Opens s.told b) (view : (bytes : List ℕ) → s.told ≡ Some bytes → s ≡ view_in bytes b)
    (first : ℕ) (ms : List Merged) (few : length ms ≤ length b.files) (numbers : (i : ℕ) (x : Merged) → slice_get ms i ≡ Some x → x.file ≡ first + i) (last : ℕ) where
  opens_at : (bytes : List ℕ) → s.told ≡ Some bytes → Opens (Some bytes) b
  opens_at bytes is = subst (λ o. Opens o b) is opens

  -- by the disks
  pub disk_cause : last ≡ b.end - 1 → HasLastGate s.told b → (old second second_new : DiskState) → old.faults ≤ (state_of j).disk.faults → second.seen ≡ s.told
      → (w : Why) → HasMergeCause s first (names_of b.files) ms j after w → ((file : ℕ) → w ≡ Stopped file SecondFault → Rose second.faults second_new.faults)
      → HasDiskCause old (state_of after).disk second second_new (refusal_by last w)
  disk_cause same gate old second second_new risen seen LongName cause fault =
      subst (RefusedAt last) (sym seen) (refused_last s.told b last same gate (λ bytes is. long_none b bytes (opens_at bytes is) cause.0))
  disk_cause same gate old second second_new risen seen (Names RegisterRefusal.OutOfMemory) cause fault = tt
  disk_cause same gate old second second_new risen seen (Names (RegisterRefusal.ArchiveFull end need)) cause fault = tt
  disk_cause same gate old second second_new risen seen (Names RegisterRefusal.DiskFault) cause fault =
      inl (rose old.faults (state_of j).disk.faults (state_of after).disk.faults (state_of after).disk.faults risen cause (omega arith))
  disk_cause same gate old second second_new risen seen (Stopped file (Full book count)) cause fault = tt
  disk_cause same gate old second second_new risen seen (Stopped file (ArchiveFull end need)) cause fault = tt
  disk_cause same gate old second second_new risen seen (Stopped file (FirstFault opened now)) cause fault =
      inl (rose old.faults (state_of j).disk.faults (state_of after).disk.faults (state_of after).disk.faults risen
      (subst (λ n. Rose n (state_of after).disk.faults) cause.cause.0 cause.cause.1) (omega arith))
  disk_cause same gate old second second_new risen seen (Stopped file SecondFault) cause fault = inr (fault file refl)
  disk_cause same gate old second second_new risen seen (Stopped file SecondDamaged) cause fault =
      subst (RefusedAt last) (sym seen) (refused_last s.told b last same gate
      (λ bytes is. damaged_none runs fair s b (cause.file.file - first) bytes (view bytes is) (opens_at bytes is) cause.cause))
  disk_cause same gate old second second_new risen seen (Stopped file OutOfMemory) cause fault = tt
  disk_cause same gate old second second_new risen seen NoMemory cause fault = tt

  module _ (bytes : List ℕ) (g : Header) (es : List JournalEntry) (stood : StandsFor bytes g es) (is : s.told ≡ Some bytes) (shown : IsArchiveOf b g es stood.legal.held) where
    -- a file of the second archive is a run to what its journal holds of it
    run_of : (number : ℕ) → HasRun s number (held_of number stood.legal.held)
    run_of number = subst (λ v. HasRun v number (held_of number stood.legal.held)) (sym (view bytes is)) (runs bytes g es b number stood shown)

    version_is : s.version ≡ g.version
    version_is = ap (λ (v : SecondView). v.version) (view bytes is) ∙ ap (λ (k : Kept). k.version) shown.kept

    -- the file that stopped it, by the place of its next segment
    is_stopped : (file : ℕ) (cause : MergeCause) (stopped : HasStopped (IsFullByBoth (needed_of s first (file - first) ms) s j) (AreOfBoth (needed_of s first (file - first) ms)) s first ms j after (record { file = file; cause = cause })) (place : SegmentPlace) → Contains (places_for s (stopped.file.file - first)) place → place.head.first ≡ stopped.file.messages
        → (m : Merge) → m.files ≡ lines_by b.files ms → m.name ≡ name_at b.files (Some (file - first)) → (stop : IsStopped es m (file - first)) × IsSegmentAt bytes place stop.next
    is_stopped file cause stopped place there next m files name =
        let l = line_at b.files ms stopped.place stopped.file few stopped.is in
        let at : stopped.place ≡ file - first = omega (arith, stopped.file_is, numbers stopped.place stopped.file stopped.is) in
        let number : stopped.file.file - first ≡ file - first = ap (λ n. n - first) (sym stopped.file_is) in
        let here : Contains (places_for (view_in bytes b) (file - first)) place = subst (λ n. Contains (places_for (view_in bytes b) n) place) number (subst (λ v. Contains (places_for v (stopped.file.file - first)) place) (view bytes is) there) in
        let own = zip_contains (IsSegmentAt bytes) (places_for (view_in bytes b) (file - first)) (filter_map (in_file (file - first)) es) place (theirs bytes g es b (file - first) stood shown) here in (
          record {
            line = l.0;
            at = subst (λ n. slice_get m.files n ≡ Some l.0) at (ap (λ ls. slice_get ls stopped.place) files ∙ l.1);
            name = l.2 ∙ (ap (λ p. name_in (slice_get b.files p)) at ∙ sym name);
            next = own.0;
            there = own.1;
            behind = sym own.2.first ∙ (next ∙ sym l.3);
          },
          own.2,
        )

    -- what rows of the second archive need, rows of its journal's segments need
    needed : (m : Merge) → m.files ≡ lines_by b.files ms → (done : ℕ) (book : Which) (text : List ℕ) → needed_of s first done ms book text → IsNeeded m done es stood.legal.held book text
    needed m files done = needed_theirs runs theirs s b bytes g es stood (view bytes is) shown first done ms numbers m (line_told b.files ms few m files)

    -- where a dictionary was full
    full_stopped : (file : ℕ) (cause : MergeCause) → HasStopped (IsFullByBoth (needed_of s first (file - first) ms) s j) (AreOfBoth (needed_of s first (file - first) ms)) s first ms j after (record { file = file; cause = cause }) → (m : Merge) → m.files ≡ lines_by b.files ms → m.name ≡ name_at b.files (Some (file - first)) → IsStopped es m (file - first)
    full_stopped file cause stopped m files name =
        let left = stopped.not_done (held_of (stopped.file.file - first) stood.legal.held) (run_of (stopped.file.file - first)) in
        (is_stopped file cause stopped left.place left.there left.next m files name).0

    -- where a segment did not fit
    room_stopped : (h : Header) (before after_is : List JournalEntry) (held : ℕ) → is_some (state_of j).disk.seen ≡ true → j.header ≡ h → told_entries (state_of j) ≡ before → told_entries (state_of after) ≡ after_is → g.version ≡ h.version → first ≡ held → (file end need : ℕ)
        → HasStopped (IsFullByBoth (needed_of s first (file - first) ms) s j) (AreOfBoth (needed_of s first (file - first) ms)) s first ms j after (record { file = file; cause = ArchiveFull end need }) → (m : Merge) → m.files ≡ lines_by b.files ms → m.name ≡ name_at b.files (Some (file - first))
        → (stop : IsStopped es m (file - first)) × LacksRoom (IsNeeded m (file - first) es stood.legal.held) h before after_is stood.legal.held (held + (file - first)) stop.next end need
    room_stopped h before after_is held told header entries left version number file end need stopped m files name =
        let lacked = of_told (is_some (state_of j).disk.seen) told stopped.cause.1 in
        let stop = is_stopped file (ArchiveFull end need) stopped lacked.place (lacked.there (run_of (stopped.file.file - first)).sorted) (sym lacked.at ∙ lacked.next) m files name in
        let same : stopped.file.file ≡ held + (file - first) = omega (arith, numbers stopped.place stopped.file stopped.is, stopped.file_is, number) in (
          stop.0,
          lacks_room s h before j after told header entries after_is left stood.legal.held (texts_same s b bytes g es stood.legal.held (view bytes is) shown) (needed_of s first (file - first) ms) (IsNeeded m (file - first) es stood.legal.held) (needed m files (file - first)) bytes is (version_is ∙ version) stop.0.next first stopped.file.file stopped.file.messages (held + (file - first)) end need same
              (subst (λ (x : Header). x.length_limit < end + need) header stopped.cause.0) lacked stop.1,
        )

  -- by both journals
  module _ (h : Header) (before added : List JournalEntry) (held : ℕ) (told : is_some (state_of j).disk.seen ≡ true) (header : j.header ≡ h) (entries : told_entries (state_of j) ≡ before) (number : first ≡ held)
      (may : (g : Header) (es : List JournalEntry) (other : Held) → IsArchiveOf b g es other → MayCome h held g other) (m : Merge) (files : m.files ≡ lines_by b.files ms) where
    abbrev Caused : Why → Type 0
    Caused w = OfJournal s.told (λ g es other. HasJournalCause h before (before ++ added) held g es other m (done_by first (length ms) (Some w)) (refusal_by last w))

    pub journal_cause : (w : Why) → (w ≢ Names DiskFault → told_entries (state_of after) ≡ before ++ added) → m.name ≡ name_at b.files (place_stopped first (Some w)) → HasMergeCause s first (names_of b.files) ms j after w → Caused w
    journal_cause LongName left name cause = of_all s.told _ (λ g es other. tt)
    journal_cause (Names RegisterRefusal.OutOfMemory) left name cause = of_all s.told _ (λ g es other. tt)
    journal_cause (Names (RegisterRefusal.ArchiveFull end need)) left name cause =
        over_opened s.told b (λ g es other. HasJournalCause h before (before ++ added) held g es other m 0 (refusal_by last (Names (RegisterRefusal.ArchiveFull end need)))) opens (λ bytes g es other is shown. (
          may g es other shown,
          subst (λ x. end ≡ end_of x (before ++ added)) header (subst (λ l. end ≡ end_of j.header l) (left (λ e. absurd (cc (e)))) (of_told (is_some (state_of j).disk.seen) told cause.2)),
          cause.1 ∙ ap₂ (λ n ns. files_size (take 512 (drop n ns))) (sym (ap length files ∙ length-lines b.files ms few)) (names_shown b g es other shown),
          subst (λ (x : Header). x.length_limit < end + need) header cause.0,
        ))
    journal_cause (Names RegisterRefusal.DiskFault) left name cause = of_all s.told _ (λ g es other. tt)
    journal_cause (Stopped file (Full book count)) left name cause =
        over_stood s.told b (λ g es other. HasJournalCause h before (before ++ added) held g es other m (file - first) (refusal_by last (Stopped file (Full book count)))) opens (λ bytes g es stood is shown. (
          may g es stood.legal.held shown,
          full_stopped bytes g es stood is shown file (Full book count) cause m files name,
          full_of_both s h before j after told header entries (before ++ added) (left (λ e. absurd (cc (e)))) stood.legal.held (texts_same s b bytes g es stood.legal.held (view bytes is) shown) (needed_of s first (file - first) ms) (IsNeeded m (file - first) es stood.legal.held) (needed bytes g es stood is shown m files (file - first)) book count cause.cause,
        ))
    journal_cause (Stopped file (ArchiveFull end need)) left name cause =
        over_stood s.told b (λ g es other. HasJournalCause h before (before ++ added) held g es other m (file - first) (refusal_by last (Stopped file (ArchiveFull end need)))) opens (λ bytes g es stood is shown. (
          may g es stood.legal.held shown,
          room_stopped bytes g es stood is shown h before (before ++ added) held told header entries (left (λ e. absurd (cc (e)))) (may g es stood.legal.held shown).version_is number file end need cause m files name,
        ))
    journal_cause (Stopped file (FirstFault opened now)) left name cause = of_all s.told _ (λ g es other. tt)
    journal_cause (Stopped file SecondFault) left name cause = of_all s.told _ (λ g es other. tt)
    journal_cause (Stopped file SecondDamaged) left name cause = of_all s.told _ (λ g es other. tt)
    journal_cause (Stopped file OutOfMemory) left name cause = of_all s.told _ (λ g es other. tt)
    journal_cause NoMemory left name cause = of_all s.told _ (λ g es other. tt)

-- ---- from the start of the call on

-- what was taken over after the header was read
pub takes_sooner : (old late new : DiskState) → IsLawful old → IsLawful late → KeepsBytes old late → old.faults ≤ late.faults → DiskGoesOn late new → (second : Option (List ℕ)) (m : Merge)
    → FromArchive late (λ h before bytes stood. TakesOver second h before stood m late new) → FromArchive old (λ h before bytes stood. TakesOver second h before stood m old new)
takes_sooner old late new law_old law_late keeps risen goes second m =
    from_archive old late (λ h before bytes stood. TakesOver second h before stood m late new) (λ h before bytes stood. TakesOver second h before stood m old new) keeps.seen keeps.no_more
    (λ h before bytes stood only takes. record {
      added = takes.added;
      leaves = begun_sooner h before before (before ++ takes.added) old late new
          (weaker old late old.images (StandsBetween h before before) (keeps_leave old late law_old law_late keeps) (λ c image. still_between h before before c (prefix_same before) (only c image)))
          (takes.added, refl) risen goes.moments takes.leaves;
      files = takes.files;
      content_is = takes.content_is;
      told = takes.told;
      done = takes.done;
      fronts = takes.fronts;
      cuts = takes.cuts;
      texts = takes.texts;
      all = takes.all;
      cause = takes.cause;
    })
