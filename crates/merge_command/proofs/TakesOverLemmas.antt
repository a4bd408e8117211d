-- What an archive holds with the files of a second one.
use Rattle.std.proofs.Common.{◌≡◌, ◌+◌, ◌≤◌, sym, ap, subst, ◌∙◌, ℕ, List, ◌++◌, length, Option, Some, None, arith, true}
use Rattle.std.specs.Prelude.{All, IfSome, is_some, slice_get}
use Rattle.std.proofs.lemmas.List.{length-map}
use Rattle.std.proofs.lemmas.List.Elements.{All-weaker}
use Rattle.log_seams.specs.declared.disk.Disk.{Ghosts as DiskGhosts}
use Rattle.record_format.specs.declared.header.Header.{Header}
use Rattle.disk_journal.specs.Journal.{state_of}
use Rattle.disk_journal.specs.State.{JournalState}
use Rattle.disk_journal.specs.declared.journal.Journal.{Journal}
use Rattle.archive_meaning.specs.declared.entry.JournalEntry.{JournalEntry}
use Rattle.row_codec.specs.declared.namer.Which.{Which}
use Rattle.row_codec.specs.declared.namer.Which.TheVariants.{Types, Words}
use Rattle.archive_meaning.specs.Held.{Held}
use Rattle.archive_meaning.specs.Spelled.{types_of}
use Rattle.archive_meaning.specs.Stands.{IsLegal, StandsFor}
use Rattle.archive_open.specs.Shown.{IsArchiveOf, Opens, Shown}
use Rattle.archive_open.specs.declared.files.FileEntry.{FileEntry}
use Rattle.ingest_meaning.specs.Dictionaries.{book_texts}
use Rattle.ingest_meaning.specs.WordsIn.{words_of}
use Rattle.disk_seal.specs.Opening.{MayOpen}
use Rattle.disk_seal.specs.Registered.{HoldsNames}
use Rattle.ingest_workers.specs.Ingested.{told_entries}
use Rattle.search_meaning.specs.Journal.{OfJournal}
use Rattle.archive_merge.specs.Behind.{SecondView, needed_of}
use Rattle.archive_merge.specs.Laws.{FilesAreRuns, SegmentsAreTheirs, view_in}
use Rattle.archive_merge.specs.Left.{LeavesEntries}
use Rattle.archive_merge.specs.Merging.{HasMergedAll, done_by}
use Rattle.archive_merge.specs.Named.{names_of}
use Rattle.archive_merge.specs.declared.file.Merged.{Merged}
use Rattle.archive_merge.specs.declared.refusal.MergeRefusal.{MergeRefusal as Why}
use Rattle.command_answers.specs.Ingested.{LeavesJournal}
use Rattle.command_answers.specs.Merging.{HasJournalCause, IsNeeded, MayCome, Merge, TakesOver}
use Rattle.merge_command.specs.Came.{lines_by}
use Rattle.file_outcomes.proofs.LeavesLemmas.{of_told, opened_as}
use Rattle.file_outcomes.proofs.PieceLemmas.{IsNewFrom}
use Rattle.file_outcomes.proofs.NamingLemmas.{types_behind, words_behind}
use Rattle.merge_command.proofs.CauseLemmas.{line_told}
use Rattle.merge_command.proofs.MergedLemmas.{over_stood}
use Rattle.merge_command.proofs.SegmentLemmas.{needed_theirs}
use Rattle.merge_command.proofs.OverLemmas.{all_new, content, cuts, files as new_files, fronts, leaves_journal, legal_left, lines, whole}

-- both hold of the journal
both_of : (seen : Option (List ℕ)) (P Q R : Header → List JournalEntry → Held → Type 0) → ((h : Header) (es : List JournalEntry) (held : Held) → P h es held → Q h es held → R h es held) → OfJournal seen P → OfJournal seen Q → OfJournal seen R
both_of None P Q R join p q = tt
both_of (Some bytes) P Q R join p q = λ h es stood. join h es stood.legal.held (p h es stood) (q h es stood)

-- a journal that is told has as many files as the archive that was opened
pub number_held : (j : JournalState) (first : ℕ) → HoldsNames first j → is_some j.disk.seen ≡ true → (h : Header) (before : List JournalEntry) → j.header ≡ h → told_entries j ≡ before → (legal : IsLegal h before) → first ≡ length legal.held.names
number_held j first holds told h before header entries =
    subst (λ es. (legal : IsLegal h es) → first ≡ length legal.held.names) entries
    (subst (λ x. (legal : IsLegal x (told_entries j)) → first ≡ length legal.held.names) header (of_told (is_some j.disk.seen) told holds))

module _ (runs : FilesAreRuns) (theirs : SegmentsAreTheirs) {D : Type 0} {d : DiskGhosts D} (j after : Journal D d) (may : MayOpen (state_of j))
    (s : SecondView) (b : Shown) (opens : Opens s.told b) (view : (bytes : List ℕ) → s.told ≡ Some bytes → s ≡ view_in bytes b)
    (first : ℕ) (holds : HoldsNames first (state_of j)) (ms : List Merged) (why : Option Why) (merged : HasMergedAll s first (names_of b.files) ms why j after)
    (m : Merge) (lines_are : m.files ≡ lines_by b.files ms) (none : m.refusal ≡ None → why ≡ None)
    (comes : (h : Header) (held : ℕ) → j.header ≡ h → first ≡ held → OfJournal s.told (λ g es other. MayCome h held g other)) where
  few : length ms ≤ length b.files
  few = omega (arith, merged.within, length-map b.files (λ (f : FileEntry). f.name))

  module _ (h : Header) (before : List JournalEntry) (bytes : List ℕ) (told : (state_of j).disk.seen ≡ Some bytes) (stood : StandsFor bytes h before) where
    some : is_some (state_of j).disk.seen ≡ true
    some = ap is_some told

    opened : (j.header ≡ h) × (told_entries (state_of j) ≡ before)
    opened = opened_as (state_of j) h before bytes may.header may.spelled may.legal may.ends.ends told stood

    abbrev added : List JournalEntry
    added = merged.naming ++ merged.fresh

    left : LeavesEntries h before (before ++ added) (state_of j).disk (state_of after).disk
    left =
        subst (λ es. LeavesEntries h es (es ++ added) (state_of j).disk (state_of after).disk) opened.1
        (subst (λ x. LeavesEntries x (told_entries (state_of j)) (told_entries (state_of j) ++ added) (state_of j).disk (state_of after).disk) opened.0
        (of_told (is_some (state_of j).disk.seen) some merged.left))

    leaves : LeavesJournal h before (before ++ added) (state_of j).disk (state_of after).disk
    leaves = leaves_journal h before (before ++ added) (state_of j).disk (state_of after).disk left

    legal : IsLegal h (before ++ added)
    legal = legal_left h before (before ++ added) (state_of j).disk (state_of after).disk (merged.goes.tells ∙ some) left

    -- the first new file has the number of the names
    number : first ≡ length stood.legal.held.names
    number = number_held (state_of j) first holds some h before opened.0 opened.1 stood.legal

    numbers : (i : ℕ) (x : Merged) → slice_get ms i ≡ Some x → x.file ≡ length stood.legal.held.names + i
    numbers i x at = merged.numbers i x at ∙ ap (λ n. n + i) number

    new : All (IsNewFrom (length stood.legal.held.names)) merged.fresh
    new = all_new (length stood.legal.held.names) ms merged.fresh numbers merged.others

    pub takes_over : IfSome m.refusal (λ refusal. OfJournal s.told (λ g es other. HasJournalCause h before (before ++ added) (length stood.legal.held.names) g es other m (done_by first (length ms) why) refusal)) → TakesOver s.told h before stood m (state_of j).disk (state_of after).disk
    takes_over cause = record {
      added = added;
      leaves = leaves;
      files = new_files runs s b opens view h before merged.naming merged.fresh stood ms few merged.named legal new (state_of j) some opened.0 opened.1 (done_by first (length ms) why) numbers merged.each;
      content_is = content runs s b opens view h before merged.naming merged.fresh stood ms few merged.named legal new (state_of j) some opened.0 opened.1 (done_by first (length ms) why) numbers merged.each;
      told = lines_are ∙ lines runs s b opens view h before merged.naming merged.fresh stood ms few merged.named legal new (state_of j) some opened.0 opened.1 (done_by first (length ms) why) numbers merged.each;
      fronts = fronts runs s b opens view h before merged.naming merged.fresh stood ms few merged.named legal new (state_of j) some opened.0 opened.1 (done_by first (length ms) why) numbers merged.each;
      done = done_by first (length ms) why;
      cuts = cuts runs s b opens view h before merged.naming merged.fresh stood ms few merged.named legal new (state_of j) some opened.0 opened.1 (done_by first (length ms) why) numbers merged.each theirs;
      texts = over_stood s.told b (λ g es other. (book : Which) → All (IsNeeded m (done_by first (length ms) why) es other book) (book_texts book added)) opens texts_of;
      all = λ is. both_of s.told _ _ _ (λ g es other one two. (one, two))
          (whole runs s b opens view h before merged.naming merged.fresh stood ms few merged.named legal new (state_of j) some opened.0 opened.1 (done_by first (length ms) why) numbers merged.each (omega (arith, all_done (none is), merged.done (none is), length-map b.files (λ (f : FileEntry). f.name))) (merged.done (none is) ∙ length-map b.files (λ (f : FileEntry). f.name)))
          (comes h (length stood.legal.held.names) opened.0 number);
      cause = cause;
    }
      where
        all_done : why ≡ None → done_by first (length ms) why ≡ length ms
        all_done is = ap (done_by first (length ms)) is

        texts_of : (image : List ℕ) (g : Header) (es : List JournalEntry) (stood_there : StandsFor image g es) → s.told ≡ Some image → IsArchiveOf b g es stood_there.legal.held
            → (book : Which) → All (IsNeeded m (done_by first (length ms) why) es stood_there.legal.held book) (book_texts book added)
        texts_of image g es stood_there is shown Types =
            subst (All (IsNeeded m (done_by first (length ms) why) es stood_there.legal.held Types)) (sym (types_behind merged.naming merged.fresh _ merged.named))
            (All-weaker (needed_of s first (done_by first (length ms) why) ms Types) (IsNeeded m (done_by first (length ms) why) es stood_there.legal.held Types)
            (needed_theirs runs theirs s b image g es stood_there (view image is) shown first (done_by first (length ms) why) ms merged.numbers m (line_told b.files ms few m lines_are) Types) (types_of merged.fresh) merged.types)
        texts_of image g es stood_there is shown Words =
            subst (All (IsNeeded m (done_by first (length ms) why) es stood_there.legal.held Words)) (sym (words_behind merged.naming merged.fresh _ merged.named))
            (All-weaker (needed_of s first (done_by first (length ms) why) ms Words) (IsNeeded m (done_by first (length ms) why) es stood_there.legal.held Words)
            (needed_theirs runs theirs s b image g es stood_there (view image is) shown first (done_by first (length ms) why) ms merged.numbers m (line_told b.files ms few m lines_are) Words) (words_of merged.fresh) merged.words)
