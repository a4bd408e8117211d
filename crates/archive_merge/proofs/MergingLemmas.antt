-- The files of a second archive behind those of a first, from their names and from what was moved.
use Rattle.std.proofs.Common.{◌≡◌, ◌≢◌, ◌+◌, ◌-◌, ◌==◌, ◌||◌, ◌&&◌, ◌≤◌, ◌<◌, ◌⊎◌, inl, inr, refl, sym, ap, ap₂, subst, ◌∙◌, ℕ, zero, suc, Bool, true, false, if◌then◌else◌, List, [], ◌∷◌, ◌++◌, length, take, Option, Some, None, arith, append-nil, append_assoc, ne_eqb, MutBor}
use Rattle.std.specs.Prelude.{All, IfSome, is_some, slice_get}
use Rattle.std.specs.List.{Contains, filter_map}
use Rattle.std.proofs.lemmas.List.{length-append, length-take-le}
use Rattle.std.proofs.lemmas.List.Elements.{All-cons, All-head, All-nil, All-tail, All-weaker, filter_map-append}
use Rattle.std.proofs.lemmas.Option.{slice_get_within}
use mathlib.Core.List.{IsPrefix}
use Rattle.plain_list.specs.Texts.{IsNew}
use Rattle.log_seams.specs.Disk.{DiskState, IsLawful, Rests}
use Rattle.log_seams.specs.declared.disk.Disk.{Ghosts as DiskGhosts}
use Rattle.log_seams.specs.Outside.{Rose}
use Rattle.record_format.specs.declared.header.Header.{Header}
use Rattle.row_codec.specs.declared.namer.Which.{Which}
use Rattle.row_codec.specs.declared.namer.Which.TheVariants.{Types as WhichTypes, Words as WhichWords}
use Rattle.disk_journal.specs.declared.journal.Journal.{Journal}
use Rattle.disk_journal.specs.Journal.{state_of}
use Rattle.disk_journal.specs.State.{JournalState}
use Rattle.dict_core.specs.Books.{BookState}
use Rattle.archive_meaning.specs.declared.TheConstants.{MAX_FILES, MAX_NAME_LEN}
use Rattle.archive_open.specs.declared.files.FileEntry.{FileEntry}
use Rattle.archive_meaning.specs.declared.entry.JournalEntry.{JournalEntry}
use Rattle.archive_meaning.specs.declared.entry.JournalEntry.TheVariants.{Files, Segment, Types, Words}
use Rattle.archive_meaning.specs.Held.{Held, Piece, is_ended, is_whole, messages_of, nothing_held}
use Rattle.archive_meaning.specs.Legal.{AreNamed as AreNamedFrom, Run}
use Rattle.archive_meaning.specs.Spelled.{end_of, types_in, types_of}
use Rattle.archive_meaning.specs.Stands.{IsLegal}
use Rattle.archive_meaning.proofs.JudgeLemmas.{run_names}
use Rattle.archive_meaning.proofs.RunLemmas.{one_held, runs_split}
use Rattle.archive_meaning.proofs.SumsLemmas.{AreBelow}
use Rattle.archive_meaning.proofs.UniqueLemmas.{legal_front}
use Rattle.log_seams.proofs.MomentLemmas.{started}
use Rattle.ingest_meaning.specs.Dictionaries.{IsFullBy, book_texts, header_limits, limit_of}
use Rattle.ingest_meaning.specs.Parts.{in_file}
use Rattle.ingest_meaning.specs.WordsIn.{words_in, words_of}
use Rattle.disk_seal.specs.Opening.{MayOpen}
use Rattle.disk_seal.specs.Registered.{HoldsNames}
use Rattle.disk_seal.specs.Told.{IfTold}
use Rattle.ingest_meaning.specs.declared.refusal.RegisterRefusal.{RegisterRefusal}
use Rattle.ingest_meaning.specs.declared.refusal.RegisterRefusal.TheVariants.{DiskFault}
use Rattle.disk_seal.proofs.ToldLemmas.{told_map}
use Rattle.ingest_workers.specs.Ingested.{HoldTexts, IsAsItWas, told_entries}
use Rattle.ingest_workers.specs.Journal.{FrontHolds, Holds}
use Rattle.archive_merge.specs.declared.cause.MergeCause.{MergeCause}
use Rattle.archive_merge.specs.declared.cause.MergeCause.TheVariants.{ArchiveFull, FirstFault, Full, OutOfMemory as CauseOutOfMemory, SecondDamaged, SecondFault}
use Rattle.archive_merge.specs.declared.file.Merged.{Merged}
use Rattle.archive_merge.specs.declared.merger.Second.{Second}
use Rattle.archive_merge.specs.declared.merger.Stopped.{Stopped}
use Rattle.archive_merge.specs.declared.refusal.MergeRefusal.{MergeRefusal}
use Rattle.archive_merge.specs.declared.refusal.MergeRefusal.TheVariants.{LongName, Names, OutOfMemory, Stopped as StoppedAt}
use Rattle.archive_merge.specs.Behind.{AreOfBoth, HasMerged, HasRun, HasStopCause, HasStopped, IsFullByBoth, IsMovedFile, IsNewIn, IsDone, IsOfFiles, LackedRoom, MayBegin, OnlyRead, SecondView, done_of, needed_of, old_texts, places_for}
use Rattle.name_records.specs.Left.{HasGoneOn, LeavesEntries, StandsForOr}
use Rattle.archive_merge.specs.Files.{AreCutAs}
use Rattle.archive_merge.specs.Merging.{EndsMerge, HasMergeCause, IsMergedFile, WasOnlyRead, done_by}
use Rattle.name_records.specs.Named.{AreNamed, AreNamesOf, HasNames, IsShort, names_of}
use Rattle.archive_merge.specs.StepsMerging.{AreFresh, CameBehind, IsFresh, refusal_by}
use Rattle.name_records.proofs.LeftLemmas.{by_told, either_left, goes_nowhere, goes_then, images_stand, of_told, prefix_on, prefix_same, store_entries_are, store_goes, store_left}
use Rattle.name_records.proofs.NamedLemmas.{left_behind}

-- ---- the second disk

pub not_read : {E : Type 0} (state : E → DiskState) (refusal : Option MergeRefusal) (a : MutBor E) → Rests (state a.now) (state a.now) → ((file : ℕ) → refusal ≢ Some (StoppedAt file SecondFault)) → WasOnlyRead state refusal a a
not_read state refusal a rests other = record { lent = refl; rests = rests; later = omega arith; fault = λ file is. absurd (other file is) }

-- ---- records of names add nothing else

names_texts : (es : List JournalEntry) (names : List (List ℕ)) → AreNamesOf es names → types_of es ≡ []
names_texts [] names are = refl
names_texts (Files some ∷ es) names are = names_texts es are.2.0 are.2.2
names_texts (Types first texts ∷ es) names are = absurd are
names_texts (Words first texts ∷ es) names are = absurd are
names_texts (Segment s ∷ es) names are = absurd are

names_words : (es : List JournalEntry) (names : List (List ℕ)) → AreNamesOf es names → words_of es ≡ []
names_words [] names are = refl
names_words (Files some ∷ es) names are = names_words es are.2.0 are.2.2
names_words (Types first texts ∷ es) names are = absurd are
names_words (Words first texts ∷ es) names are = absurd are
names_words (Segment s ∷ es) names are = absurd are

names_segments : (file : ℕ) (es : List JournalEntry) (names : List (List ℕ)) → AreNamesOf es names → filter_map (in_file file) es ≡ []
names_segments file [] names are = refl
names_segments file (Files some ∷ es) names are = names_segments file es are.2.0 are.2.2
names_segments file (Types first texts ∷ es) names are = absurd are
names_segments file (Words first texts ∷ es) names are = absurd are
names_segments file (Segment s ∷ es) names are = absurd are

pub types_same : (es naming : List JournalEntry) (names : List (List ℕ)) → AreNamesOf naming names → types_of (es ++ naming) ≡ types_of es
types_same [] naming names are = names_texts naming names are
types_same (e ∷ es) naming names are = ap (λ ts. types_in e ++ ts) (types_same es naming names are)

pub words_same : (es naming : List JournalEntry) (names : List (List ℕ)) → AreNamesOf naming names → words_of (es ++ naming) ≡ words_of es
words_same [] naming names are = names_words naming names are
words_same (e ∷ es) naming names are = ap (λ ws. words_in e ++ ws) (words_same es naming names are)

texts_same : (book : Which) (es naming : List JournalEntry) (names : List (List ℕ)) → AreNamesOf naming names → book_texts book (es ++ naming) ≡ book_texts book es
texts_same WhichTypes es naming names are = types_same es naming names are
texts_same WhichWords es naming names are = words_same es naming names are

-- what is held with the names
pub run_named : (h : Header) (old new : Held) (es : List JournalEntry) (names : List (List ℕ)) → AreNamesOf es names → Run h old es new → (new.names ≡ old.names ++ names) × (new.pieces ≡ old.pieces)
run_named h old new [] names are run = (ap (λ (x : Held). x.names) run ∙ (sym (append-nil old.names) ∙ ap (λ ns. old.names ++ ns) (sym are)), ap (λ (x : Held). x.pieces) run)
run_named h old new (Files some ∷ es) names are run =
    let rest = run_named h run.0 new es are.2.0 are.2.2 run.2 in (
      rest.0 ∙ (ap (λ (x : Held). x.names ++ are.2.0) run.1 ∙ (append_assoc old.names some are.2.0 ∙ ap (λ ns. old.names ++ ns) (sym are.2.1))),
      rest.1 ∙ ap (λ (x : Held). x.pieces) run.1,
    )
run_named h old new (Types first texts ∷ es) names are run = absurd are
run_named h old new (Words first texts ∷ es) names are run = absurd are
run_named h old new (Segment s ∷ es) names are run = absurd are

-- ---- a file that has a name alone

record HasNone (file : ℕ) (ps : List Piece) : Type 0 where
  messages : messages_of file ps ≡ []
  whole : is_whole file ps ≡ false
  ended : is_ended file ps ≡ false

none_below : (count file : ℕ) (ps : List Piece) → AreBelow count ps → count ≤ file → HasNone file ps
none_below count file [] below past = record { messages = refl; whole = refl; ended = refl }
none_below count file (p ∷ ps) below past =
    let rest = none_below count file ps below.1 past in
    let other : p.file == file ≡ false = ne_eqb p.file file (λ e. omega (arith, e, below.0, past)) in
    record {
      messages = ap₂ (λ b l. (if b then p.messages else []) ++ l) other rest.messages;
      whole = ap₂ (λ b c. (b && p.last) || c) other rest.whole;
      ended = ap₂ (λ b c. (b && p.last && p.ended) || c) other rest.ended;
    }

below_held : (h : Header) (es : List JournalEntry) (legal : IsLegal h es) → AreBelow (length legal.held.names) legal.held.pieces
below_held h es legal =
    (run_names h nothing_held legal.held es [] legal.run (subst (λ fs. AreNamedFrom 0 fs) (sym (append-nil es)) legal.named) tt).1

-- nothing is held of a file that has a name among the new ones
pub new_file : (h : Header) (es naming : List JournalEntry) (names : List (List ℕ)) (i : ℕ) → AreNamesOf naming names → (legal : IsLegal h es) (more : IsLegal h (es ++ naming)) → i < length names → Holds h (es ++ naming) (length legal.held.names + i) [] false false
new_file h es naming names i are legal more within =
    let split = runs_split h nothing_held more.held es naming more.run in
    let same : split.0 ≡ legal.held = one_held h nothing_held split.0 legal.held es split.1 legal.run in
    let grown = run_named h split.0 more.held naming names are split.2 in
    let pieces : more.held.pieces ≡ legal.held.pieces = grown.1 ∙ ap (λ (x : Held). x.pieces) same in
    let named : more.held.names ≡ legal.held.names ++ names = grown.0 ∙ ap (λ (x : Held). x.names ++ names) same in
    let none = none_below (length legal.held.names) (length legal.held.names + i) legal.held.pieces (below_held h es legal) (omega arith) in
    record {
      held = more.held;
      run = more.run;
      named = omega (arith, ap length named, length-append legal.held.names names, within);
      messages_are = ap (messages_of (length legal.held.names + i)) pieces ∙ none.messages;
      whole_is = ap (is_whole (length legal.held.names + i)) pieces ∙ none.whole;
      ended_is = ap (is_ended (length legal.held.names + i)) pieces ∙ none.ended;
    }

-- ---- files that were named, and not moved

element_at : (files : List Merged) (i : ℕ) → i < length files → (file : Merged) × (slice_get files i ≡ Some file)
element_at [] i within = absurd (omega (arith, within))
element_at (x ∷ files) zero within = (x, refl)
element_at (x ∷ files) (suc i) within = element_at files i (omega (arith, within))

same_some : {A : Type 0} {a b : A} → Some a ≡ Some b → a ≡ b
same_some e = cc (e)

module _ (first : ℕ) (names : List (List ℕ)) (naming : List JournalEntry) (old mid : JournalState) (may : MayOpen old) (holds : HoldsNames first old) (had : HasNames first names naming old mid) where
  named_holds : (i : ℕ) → i < length names → IfTold (is_some old.disk.seen) (Holds old.header (told_entries old ++ naming) (first + i) [] false false)
  named_holds i within = by_told (is_some old.disk.seen) (λ told.
      let legal : IsLegal old.header (told_entries old) = of_told (is_some old.disk.seen) told may.legal in
      let number : first ≡ length legal.held.names = of_told (is_some old.disk.seen) told holds legal in
      let more : IsLegal old.header (told_entries old ++ naming) = subst (λ h. IsLegal h (told_entries old ++ naming)) had.header
      (subst (IsLegal mid.header) (of_told (is_some old.disk.seen) told had.entries) (of_told (is_some mid.disk.seen) (had.tells ∙ told) had.opens.legal)) in
      subst (λ n. Holds old.header (told_entries old ++ naming) (n + i) [] false false) (sym number) (new_file old.header (told_entries old) naming names i had.are legal more within))

  -- they are new in the journal with the names
  pub new_in : (i : ℕ) (file : Merged) → i < length names → IsFresh (first + i) file → IsNewIn mid (first + i) file
  new_in i file within fresh = record {
    file_is = fresh.file_is;
    messages_none = fresh.messages_none;
    not_whole = fresh.not_whole;
    empty = by_told (is_some mid.disk.seen) (λ told.
        let before : is_some old.disk.seen ≡ true = sym had.tells ∙ told in
        subst (λ n. Holds mid.header (told_entries mid) n [] false false) (sym fresh.file_is)
        (subst (λ es. Holds mid.header es (first + i) [] false false) (sym (of_told (is_some old.disk.seen) before had.entries))
        (subst (λ h. Holds h (told_entries old ++ naming) (first + i) [] false false) (sym had.header) (of_told (is_some old.disk.seen) before (named_holds i within)))));
  }

-- nothing was moved of a file
not_moved : (s : SecondView) (number : ℕ) (before : JournalState) (naming : List JournalEntry) (names : List (List ℕ)) (file : Merged) → AreNamesOf naming names → file.messages ≡ 0 → file.whole ≡ false
    → IfTold (is_some before.disk.seen) (FrontHolds before.header (told_entries before ++ (naming ++ [])) file.file [] false false) → IsMergedFile s number 0 before (naming ++ []) file
not_moved s number before naming names file are none part holds = record {
  covered = [];
  ended = false;
  count = none;
  first_ones = λ all run. (all.messages, refl);
  all = λ few. absurd (omega (arith, few));
  part = λ many all run. part;
  none = λ behind. (none, part);
  segments = [];
  cuts = λ all run. tt;
  rows_count = refl;
  last_is = sym part;
  ended_is = sym (ap (λ b. b && false) part);
  sealed = by_told (is_some before.disk.seen) (λ told. subst (λ es. filter_map (in_file file.file) es ≡ []) (sym (append-nil naming)) (names_segments file.file naming names are));
  held = subst (λ w. IfTold (is_some before.disk.seen) (FrontHolds before.header (told_entries before ++ (naming ++ [])) file.file [] w (w && false))) (sym part) holds;
}

front_stays : (h : Header) (es more : List JournalEntry) (file : ℕ) (ms : List (List ℕ)) (w e : Bool) → IsPrefix es more → Holds h es file ms w e → FrontHolds h more file ms w e
front_stays h es more file ms w e front holds = record { front = es; begins = front; holds = holds }

-- ---- by the answer

module _ {D : Type 0} {d : DiskGhosts D} (lawful : (x : D) → IsLawful (d.state x)) (s : SecondView) (first : ℕ) (names : List (List ℕ)) where
  -- nothing was done
  pub nothing_done : (refusal : Option MergeRefusal) (j : Journal D d) → MayOpen (state_of j) → (refusal ≡ None → length names ≡ 0) → ((why : MergeRefusal) → refusal ≡ Some why → HasMergeCause s first names [] j j why)
      → EndsMerge s first names [] refusal j j
  nothing_done refusal j may all cause = record {
    merged = record {
      goes = goes_nowhere (state_of j) (lawful j.disk.now);
      within = omega arith;
      done = λ none. sym (all none);
      numbers = λ i file at. absurd (cc (at));
      naming = [];
      named = refl;
      fresh = [];
      others = All-nil (IsOfFiles []);
      types = All-nil (needed_of s first (done_by first 0 refusal) [] WhichTypes);
      words = All-nil (needed_of s first (done_by first 0 refusal) [] WhichWords);
      each = λ i file at. absurd (cc (at));
      left = by_told (is_some (state_of j).disk.seen) (λ told.
          subst (λ es. LeavesEntries j.header (told_entries (state_of j)) es (state_of j).disk (state_of j).disk) (sym (append-nil (told_entries (state_of j)))) (same_left told));
      entries = λ spared. by_told (is_some (state_of j).disk.seen) (λ told. sym (append-nil (told_entries (state_of j))));
      again = λ steady. may;
    };
    cause = cause;
  }
    where
      same_left : is_some (state_of j).disk.seen ≡ true → LeavesEntries j.header (told_entries (state_of j)) (told_entries (state_of j)) (state_of j).disk (state_of j).disk
      same_left told =
          either_left j.header (told_entries (state_of j)) [] (state_of j).disk (state_of j).disk (lawful j.disk.now) (omega arith) (λ steady. refl)
          (started (state_of j).disk (StandsForOr j.header (told_entries (state_of j)) []) (lawful j.disk.now) (λ c image. inl (of_told (is_some (state_of j).disk.seen) told (images_stand (state_of j) may c image))))

  module _ (before : Journal D d) (may : MayOpen (state_of before)) (holds : HoldsNames first (state_of before)) where
    -- some of the names were registered, and no file was begun
    pub names_only : (why : RegisterRefusal) (mid : Journal D d) (files : List Merged) → AreNamed first names (length files) (Some why) (state_of before) (state_of mid) → AreFresh first files → EndsMerge s first names files (Some (Names why)) before mid
    names_only why mid files are fresh = record {
      merged = record {
        goes = are.goes;
        within = are.within;
        done = λ none. absurd (cc (none));
        numbers = λ i file at. (fresh i file at).file_is;
        naming = are.naming;
        named = are.are;
        fresh = [];
        others = All-nil (IsOfFiles files);
        types = All-nil (needed_of s first 0 files WhichTypes);
        words = All-nil (needed_of s first 0 files WhichWords);
        each = λ i file at. not_moved s i (state_of before) are.naming (take (length files) names) file are.are (fresh i file at).messages_none (fresh i file at).not_whole
            (subst (λ es. IfTold (is_some (state_of before).disk.seen) (FrontHolds before.header (told_entries (state_of before) ++ es) file.file [] false false)) (sym (append-nil are.naming)) (empty i file at));
        left = subst (λ es. IfTold (is_some (state_of before).disk.seen) (LeavesEntries before.header (told_entries (state_of before)) (told_entries (state_of before) ++ es) (state_of before).disk (state_of mid).disk)) (sym (append-nil are.naming)) are.left;
        entries = λ spared. told_map (is_some (state_of before).disk.seen) (λ (e : told_entries (state_of mid) ≡ told_entries (state_of before) ++ are.naming). e ∙ ap (λ es. told_entries (state_of before) ++ es) (sym (append-nil are.naming)))
            (are.done (λ e. spared (ap (λ (r : Option RegisterRefusal). option_names r) e))).entries;
        again = λ steady. again_by why refl steady;
      };
      cause = λ cause is. subst (HasMergeCause s first names files before mid) (same_some is) (are.cause why refl);
    }
      where
        option_names : Option RegisterRefusal → Option MergeRefusal
        option_names None = None
        option_names (Some e) = Some (Names e)

        counted : length (take (length files) names) ≡ length files
        counted = length-take-le (length files) names are.within

        empty : (i : ℕ) (file : Merged) → slice_get files i ≡ Some file → IfTold (is_some (state_of before).disk.seen) (FrontHolds before.header (told_entries (state_of before) ++ are.naming) file.file [] false false)
        empty i file at = by_told (is_some (state_of before).disk.seen) (λ told.
            let es = told_entries (state_of before) ++ are.naming in
            let left = of_told (is_some (state_of before).disk.seen) told are.left in
            let legal : IsLegal before.header (told_entries (state_of before)) = of_told (is_some (state_of before).disk.seen) told may.legal in
            let number : first ≡ length legal.held.names = of_told (is_some (state_of before).disk.seen) told holds legal in
            let within : i < length (take (length files) names) = omega (arith, counted, slice_get_within files i file at) in
            let more : IsLegal before.header es = legal_left told left in
            subst (λ n. FrontHolds before.header es n [] false false) (sym (fresh i file at).file_is)
            (front_stays before.header es es (first + i) [] false false (prefix_same es)
            (subst (λ n. Holds before.header es (n + i) [] false false) (sym number) (new_file before.header (told_entries (state_of before)) are.naming (take (length files) names) i are.are legal more within))))
          where
            legal_left : is_some (state_of before).disk.seen ≡ true → LeavesEntries before.header (told_entries (state_of before)) (told_entries (state_of before) ++ are.naming) (state_of before).disk (state_of mid).disk → IsLegal before.header (told_entries (state_of before) ++ are.naming)
            legal_left told left = by_seen (state_of mid).disk.seen (are.goes.tells ∙ told) left.reads
              where
                by_seen : (seen : Option (List ℕ)) → is_some seen ≡ true → IfSome seen (StandsForOr before.header (told_entries (state_of before) ++ are.naming) left.tail) → IsLegal before.header (told_entries (state_of before) ++ are.naming)
                by_seen None none reads = absurd (cc (none))
                by_seen (Some bytes) told_is (inl stands) = stands.legal
                by_seen (Some bytes) told_is (inr stands) = legal_front before.header (told_entries (state_of before) ++ are.naming) left.tail stands.legal

        again_by : (e : RegisterRefusal) → why ≡ e → ¬ Rose (state_of before).disk.faults (state_of mid).disk.faults → MayOpen (state_of mid)
        again_by RegisterRefusal.OutOfMemory is steady = (are.done (λ e. cc (e, is))).opens
        again_by (RegisterRefusal.ArchiveFull end need) is steady = (are.done (λ e. cc (e, is))).opens
        again_by DiskFault is steady = absurd (steady (are.cause DiskFault (ap Some is)))

    -- all names were registered
    module _ (mid : Journal D d) (files : List Merged) (are : AreNamed first names (length files) None (state_of before) (state_of mid)) (fresh_files : AreFresh first files) where
      abbrev some : List (List ℕ)
      some = take (length files) names

      has : HasNames first some are.naming (state_of before) (state_of mid)
      has = are.done (λ e. cc (e))

      counted_names : length some ≡ length files
      counted_names = length-take-le (length files) names are.within

      -- the files may be moved
      pub may_begin : (version : ℕ) → version ≡ before.header.version → first + length files ≤ MAX_FILES → MayBegin first version mid files
      may_begin version same few = record {
        version_is = same ∙ ap (λ (h : Header). h.version) (sym has.header);
        journal = has.opens;
        new = λ i file at. new_in first some are.naming (state_of before) (state_of mid) may holds has i file (omega (arith, counted_names, slice_get_within files i file at)) (fresh_files i file at);
        few = few;
      }

      pub books_held : (types words : BookState) → HoldTexts (state_of before) types words → HoldTexts (state_of mid) types words
      books_held types words held = record {
        types_are = by_told (is_some (state_of mid).disk.seen) (λ told.
            let was : is_some (state_of before).disk.seen ≡ true = sym has.tells ∙ told in
            let old = of_told (is_some (state_of before).disk.seen) was held.types_are in
            (old.0 ∙ (sym (types_same (told_entries (state_of before)) are.naming some are.are) ∙ ap types_of (sym (of_told (is_some (state_of before).disk.seen) was has.entries))), old.1 ∙ ap (λ (h : Header). h.types_limit) (sym has.header)));
        words_are = by_told (is_some (state_of mid).disk.seen) (λ told.
            let was : is_some (state_of before).disk.seen ≡ true = sym has.tells ∙ told in
            let old = of_told (is_some (state_of before).disk.seen) was held.words_are in
            (old.0 ∙ (sym (words_same (told_entries (state_of before)) are.naming some are.are) ∙ ap words_of (sym (of_told (is_some (state_of before).disk.seen) was has.entries))), old.1 ∙ ap (λ (h : Header). h.words_limit) (sym has.header)));
      }

      steady_on : (after : Journal D d) → ¬ Rose (state_of before).disk.faults (state_of after).disk.faults → ¬ Rose (state_of mid).disk.faults (state_of after).disk.faults
      steady_on after steady late = steady (subst (λ n. Rose n (state_of after).disk.faults) has.steady late)

      entries_on : (after : Journal D d) (fresh : List JournalEntry) → IfTold (is_some (state_of mid).disk.seen) (told_entries (state_of after) ≡ told_entries (state_of mid) ++ fresh)
          → IfTold (is_some (state_of before).disk.seen) (told_entries (state_of after) ≡ told_entries (state_of before) ++ (are.naming ++ fresh))
      entries_on after fresh are_now = by_told (is_some (state_of before).disk.seen) (λ told.
          of_told (is_some (state_of mid).disk.seen) (has.tells ∙ told) are_now ∙ (ap (λ es. es ++ fresh) (of_told (is_some (state_of before).disk.seen) told has.entries) ∙ append_assoc (told_entries (state_of before)) are.naming fresh))

      -- ---- no file was begun

      pub not_begun : (after : Journal D d) → IsAsItWas mid after → EndsMerge s first names files (Some OutOfMemory) before after
      not_begun after was = record {
        merged = record {
          goes = goes_then (state_of before) (state_of mid) (state_of after) (lawful after.disk.now) are.goes goes;
          within = are.within;
          done = λ none. absurd (cc (none));
          numbers = λ i file at. (fresh_files i file at).file_is;
          naming = are.naming;
          named = are.are;
          fresh = [];
          others = All-nil (IsOfFiles files);
          types = All-nil (needed_of s first 0 files WhichTypes);
          words = All-nil (needed_of s first 0 files WhichWords);
          each = λ i file at.
              let new = named_holds first some are.naming (state_of before) (state_of mid) may holds has i (omega (arith, counted_names, slice_get_within files i file at)) in
              not_moved s i (state_of before) are.naming some file are.are (fresh_files i file at).messages_none (fresh_files i file at).not_whole
              (subst (λ es. IfTold (is_some (state_of before).disk.seen) (FrontHolds before.header (told_entries (state_of before) ++ es) file.file [] false false)) (sym (append-nil are.naming))
              (subst (λ n. IfTold (is_some (state_of before).disk.seen) (FrontHolds before.header (told_entries (state_of before) ++ are.naming) n [] false false)) (sym (fresh_files i file at).file_is)
              (told_map (is_some (state_of before).disk.seen) (front_stays before.header (told_entries (state_of before) ++ are.naming) (told_entries (state_of before) ++ are.naming) (first + i) [] false false (prefix_same (told_entries (state_of before) ++ are.naming))) new)));
          left = left_behind first some are.naming (state_of before) (state_of mid) has (state_of after) [] goes (by_told (is_some (state_of mid).disk.seen) left_told);
          entries = λ spared. entries_on after [] (by_told (is_some (state_of mid).disk.seen) (λ told. entries_told was));
          again = λ steady. again_by was (steady_on after steady);
        };
        cause = λ why is. subst (HasMergeCause s first names files before after) (same_some is) tt;
      }
        where
          goes_by : IsAsItWas mid after → HasGoneOn (state_of mid) (state_of after)
          goes_by (inl same) = subst (λ (x : Journal D d). HasGoneOn (state_of mid) (state_of x)) (sym same) (goes_nowhere (state_of mid) (lawful mid.disk.now))
          goes_by (inr stayed) = store_goes mid after stayed.0 stayed.1.left_by

          goes : HasGoneOn (state_of mid) (state_of after)
          goes = goes_by was

          entries_told : IsAsItWas mid after → told_entries (state_of after) ≡ told_entries (state_of mid) ++ []
          entries_told (inl same) = ap (λ (x : Journal D d). told_entries (state_of x)) same ∙ sym (append-nil (told_entries (state_of mid)))
          entries_told (inr stayed) = store_entries_are mid after stayed.0 stayed.1.left_by [] (stayed.1.entries ∙ sym (append-nil (told_entries (state_of mid))))

          again_by : IsAsItWas mid after → ¬ Rose (state_of mid).disk.faults (state_of after).disk.faults → MayOpen (state_of after)
          again_by (inl same) steady = subst (λ (x : Journal D d). MayOpen (state_of x)) (sym same) has.opens
          again_by (inr stayed) steady = (stayed.1.left_by.again steady).1

          left_by : IsAsItWas mid after → is_some (state_of mid).disk.seen ≡ true → LeavesEntries mid.header (told_entries (state_of mid)) (told_entries (state_of mid) ++ []) (state_of mid).disk (state_of after).disk
          left_by (inl same) told =
              subst (λ (x : Journal D d). LeavesEntries mid.header (told_entries (state_of mid)) (told_entries (state_of mid) ++ []) (state_of mid).disk (state_of x).disk) (sym same)
              (subst (λ es. LeavesEntries mid.header (told_entries (state_of mid)) es (state_of mid).disk (state_of mid).disk) (sym (append-nil (told_entries (state_of mid))))
              (either_left mid.header (told_entries (state_of mid)) [] (state_of mid).disk (state_of mid).disk (lawful mid.disk.now) (omega arith) (λ steady. refl)
              (started (state_of mid).disk (StandsForOr mid.header (told_entries (state_of mid)) []) (lawful mid.disk.now) (λ c image. inl (of_told (is_some (state_of mid).disk.seen) told (images_stand (state_of mid) has.opens c image))))))
          left_by (inr stayed) told = store_left mid after (lawful after.disk.now) stayed.0 stayed.1.left_by told [] (stayed.1.entries ∙ sym (append-nil (told_entries (state_of mid))))

          left_told : is_some (state_of mid).disk.seen ≡ true → LeavesEntries mid.header (told_entries (state_of mid)) (told_entries (state_of mid) ++ []) (state_of mid).disk (state_of after).disk
          left_told told = left_by was told

      -- ---- files were moved

      module _ (stop : Option Stopped) (files' : List Merged) (after : Journal D d) (moved : HasMerged s first stop files files' mid after) where
        abbrev fresh : List JournalEntry
        fresh = moved.stored.fresh

        -- the file at a place, before and after
        moved_at : (i : ℕ) (new : Merged) → slice_get files' i ≡ Some new → (old : Merged) × (slice_get files i ≡ Some old) × IsMovedFile s first stop mid fresh old new
        moved_at i new at =
            let old = element_at files i (omega (arith, moved.stored.counted, slice_get_within files' i new at)) in
            let is = moved.stored.each i old.0 old.1 in
            (old.0, old.1, subst (IsMovedFile s first stop mid fresh old.0) (same_some (sym is.1 ∙ at)) is.2)

        number_at : (i : ℕ) (new : Merged) → slice_get files' i ≡ Some new → new.file ≡ first + i
        number_at i new at = let was = moved_at i new at in was.2.file ∙ (fresh_files i was.0 was.1).file_is

        -- how many are done, by what was stopped
        few_done : (o : Option Stopped) (i number : ℕ) → number ≡ first + i → i < done_by first (length files') (refusal_by o) → IsDone o number
        few_done None i number is few = tt
        few_done (Some why) i number is few = let low : i < why.file - first = few in let before_it : number < why.file = omega (arith, is, low) in before_it

        many_done : (o : Option Stopped) (i : ℕ) → i < length files' → done_by first (length files') (refusal_by o) ≤ i → (why : Stopped) × (o ≡ Some why) × (why.file ≤ first + i)
        many_done None i within many = let all : length files' ≤ i = many in absurd (omega (arith, within, all))
        many_done (Some why) i within many = let le : why.file - first ≤ i = many in (why, refl, omega (arith, le))

        behind_done : (o : Option Stopped) (i : ℕ) → i < length files' → done_by first (length files') (refusal_by o) < i → (why : Stopped) × (o ≡ Some why) × (why.file < first + i)
        behind_done None i within many = let all : length files' < i = many in absurd (omega (arith, within, all))
        behind_done (Some why) i within many = let lt : why.file - first < i = many in (why, refl, omega (arith, lt))

        merged_by : (i : ℕ) (new : Merged) → slice_get files' i ≡ Some new → IsMergedFile s i (done_by first (length files') (refusal_by stop)) (state_of before) (are.naming ++ fresh) new
        merged_by i new at =
            let was = moved_at i new at in
            let is = was.2 in
            let old_is : was.0.file ≡ first + i = (fresh_files i was.0 was.1).file_is in
            let place : was.0.file - first ≡ i = omega (arith, old_is) in
            record {
              covered = is.covered;
              ended = is.ended;
              count = is.count;
              first_ones = λ all run. is.first_ones all (subst (λ n. HasRun s n all) (sym place) run);
              all = λ few all run. is.all (few_done stop i was.0.file old_is few) all (subst (λ n. HasRun s n all) (sym place) run);
              part = λ many all run.
                  let by = many_done stop i (slice_get_within files' i new at) many in
                  is.part by.0 by.1 (subst (λ n. by.0.file ≤ n) (sym old_is) by.2) all (subst (λ n. HasRun s n all) (sym place) run);
              none = λ many.
                  let by = behind_done stop i (slice_get_within files' i new at) many in
                  is.none by.0 by.1 (subst (λ n. by.0.file < n) (sym old_is) by.2);
              segments = is.segments;
              cuts = λ all run. subst (λ n. AreCutAs n (places_for s i) is.segments) (sym is.file)
                  (subst (λ n. AreCutAs was.0.file (places_for s n) is.segments) place (is.cuts all (subst (λ n. HasRun s n all) (sym place) run)));
              rows_count = is.rows_count;
              last_is = is.last_is;
              ended_is = is.ended_is;
              sealed = by_told (is_some (state_of before).disk.seen) (λ told.
                  filter_map-append (in_file new.file) are.naming fresh ∙ (ap (λ ss. ss ++ filter_map (in_file new.file) fresh) (names_segments new.file are.naming some are.are)
                  ∙ (ap (λ n. filter_map (in_file n) fresh) is.file ∙ of_told (is_some (state_of mid).disk.seen) (has.tells ∙ told) is.sealed)));
              held = by_told (is_some (state_of before).disk.seen) (λ told.
                  subst (λ n. FrontHolds before.header (told_entries (state_of before) ++ (are.naming ++ fresh)) n is.covered new.whole (new.whole && is.ended)) (sym is.file)
                  (subst (λ es. FrontHolds before.header es was.0.file is.covered new.whole (new.whole && is.ended)) (append_assoc (told_entries (state_of before)) are.naming fresh)
                  (subst (λ es. FrontHolds before.header (es ++ fresh) was.0.file is.covered new.whole (new.whole && is.ended)) (of_told (is_some (state_of before).disk.seen) told has.entries)
                  (subst (λ h. FrontHolds h (told_entries (state_of mid) ++ fresh) was.0.file is.covered new.whole (new.whole && is.ended)) has.header (of_told (is_some (state_of mid).disk.seen) (has.tells ∙ told) is.held)))));
            }

        merged_file : (refusal : Option MergeRefusal) → refusal ≡ refusal_by stop → (i : ℕ) (new : Merged) → slice_get files' i ≡ Some new → IsMergedFile s i (done_by first (length files') refusal) (state_of before) (are.naming ++ fresh) new
        merged_file refusal same i new at = subst (λ r. IsMergedFile s i (done_by first (length files') r) (state_of before) (are.naming ++ fresh) new) (sym same) (merged_by i new at)

        of_files : (e : JournalEntry) → IsOfFiles files e → IsOfFiles files' e
        of_files (Files more) of = of
        of_files (Types number texts) of = of
        of_files (Words number texts) of = of
        of_files (Segment seg) of =
            let is = moved.stored.each of.0 of.1 of.2 in
            (of.0, is.0, is.1, is.2.file ∙ of.3)

        module _ (needs : Which → List ℕ → Type 0) where
          full_on : (book : Which) (count : ℕ) → IsFullByBoth needs s mid book count → IsFullByBoth needs s before book count
          full_on book count full = by_told (is_some (state_of before).disk.seen) (λ told.
              subst (λ texts. (count ≡ limit_of (header_limits before.header) book) × IsFullBy (λ t. Contains texts t ⊎ needs book t) (λ t. Contains (old_texts s book) t × IsNew texts t) count) (texts_same book (told_entries (state_of before)) are.naming some are.are)
              (subst (λ es. (count ≡ limit_of (header_limits before.header) book) × IsFullBy (λ t. Contains (book_texts book es) t ⊎ needs book t) (λ t. Contains (old_texts s book) t × IsNew (book_texts book es) t) count) (of_told (is_some (state_of before).disk.seen) told has.entries)
              (subst (λ h. (count ≡ limit_of (header_limits h) book) × IsFullBy (λ t. Contains (book_texts book (told_entries (state_of mid))) t ⊎ needs book t) (λ t. Contains (old_texts s book) t × IsNew (book_texts book (told_entries (state_of mid))) t) count) has.header
              (of_told (is_some (state_of mid).disk.seen) (has.tells ∙ told) full))))

          room_on : (file done end need : ℕ) → LackedRoom (AreOfBoth needs) s first file done mid after end need → is_some (state_of before).disk.seen ≡ true → LackedRoom (AreOfBoth needs) s first file done before after end need
          room_on file done end need lacked told = record {
            place = lacked.place;
            there = lacked.there;
            front = lacked.front;
            between = (prefix_on (told_entries (state_of before)) (told_entries (state_of mid)) lacked.front (are.naming, sym (of_told (is_some (state_of before).disk.seen) told has.entries)) lacked.between.0, lacked.between.1);
            ends = subst (λ h. end ≡ end_of h lacked.front) has.header lacked.ends;
            types = lacked.types;
            words = lacked.words;
            has_types = lacked.has_types;
            has_words = lacked.has_words;
            segment = lacked.segment;
            numbers = lacked.numbers;
            file_is = lacked.file_is;
            next = lacked.next;
            at = lacked.at;
            marks = lacked.marks;
            rows = lacked.rows;
            rows_are = lacked.rows_are;
            messages = lacked.messages;
            source = lacked.source;
            canonical = lacked.canonical;
            numbers_are = lacked.numbers_are;
            needs = lacked.needs;
          }

          cause_on : (file done : ℕ) (cause : MergeCause) → HasStopCause (IsFullByBoth needs s mid) (AreOfBoth needs) s first file done mid after cause → HasStopCause (IsFullByBoth needs s before) (AreOfBoth needs) s first file done before after cause
          cause_on file done (Full book count) is = full_on book count is
          cause_on file done (ArchiveFull end need) is = (
            subst (λ h. h.length_limit < end + need) has.header is.0,
            by_told (is_some (state_of before).disk.seen) (λ told. room_on file done end need (of_told (is_some (state_of mid).disk.seen) (has.tells ∙ told) is.1) told),
          )
          cause_on file done (FirstFault opened now) is = (is.0 ∙ has.steady, is.1, is.2)
          cause_on file done SecondDamaged is = is
          cause_on file done SecondFault is = is
          cause_on file done CauseOutOfMemory is = is

        done_same : (o : Option Stopped) (refusal : Option MergeRefusal) → refusal ≡ refusal_by o → done_of first (length files') o ≡ done_by first (length files') refusal
        done_same None refusal same = sym (ap (done_by first (length files')) same)
        done_same (Some why) refusal same = sym (ap (done_by first (length files')) same)

        stopped_on : (why : Stopped) → stop ≡ Some why → HasMergeCause s first names files' before after (StoppedAt why.file why.cause)
        stopped_on why is =
            let stopped = subst (λ o. HasStopped (IsFullByBoth (needed_of s first (done_of first (length files') o) files') s mid) (AreOfBoth (needed_of s first (done_of first (length files') o) files')) s first files' mid after why) is (moved.why why is) in record {
              place = stopped.place;
              file = stopped.file;
              is = stopped.is;
              file_is = stopped.file_is;
              not_done = stopped.not_done;
              cause = cause_on (needed_of s first (why.file - first) files') stopped.file.file stopped.file.messages why.cause stopped.cause;
            }

        pub all_moved : (refusal : Option MergeRefusal) → refusal ≡ refusal_by stop → EndsMerge s first names files' refusal before after
        all_moved refusal same = record {
          merged = record {
            goes = goes_then (state_of before) (state_of mid) (state_of after) (lawful after.disk.now) are.goes (store_goes mid after moved.store moved.stored.left_by);
            within = subst (λ n. n ≤ length names) (sym moved.stored.counted) are.within;
            done = λ none. moved.stored.counted ∙ are.all refl;
            numbers = number_at;
            naming = are.naming;
            named = subst (λ n. AreNamesOf are.naming (take n names)) (sym moved.stored.counted) are.are;
            fresh = fresh;
            others = All-weaker (IsOfFiles files) (IsOfFiles files') of_files fresh moved.stored.others;
            types = subst (λ n. All (needed_of s first n files' WhichTypes) (types_of fresh)) (done_same stop refusal same) moved.types;
            words = subst (λ n. All (needed_of s first n files' WhichWords) (words_of fresh)) (done_same stop refusal same) moved.words;
            each = merged_file refusal same;
            left = left_behind first some are.naming (state_of before) (state_of mid) has (state_of after) fresh (store_goes mid after moved.store moved.stored.left_by)
                (by_told (is_some (state_of mid).disk.seen) (λ told. store_left mid after (lawful after.disk.now) moved.store moved.stored.left_by told fresh moved.stored.grown));
            entries = λ spared. entries_on after fresh (by_told (is_some (state_of mid).disk.seen) (λ told. store_entries_are mid after moved.store moved.stored.left_by fresh moved.stored.grown));
            again = λ steady. (moved.stored.left_by.again (steady_on after steady)).1;
          };
          cause = λ why is. by_stop stop refl why (sym same ∙ is);
        }
          where
            by_stop : (o : Option Stopped) → stop ≡ o → (why : MergeRefusal) → refusal_by o ≡ Some why → HasMergeCause s first names files' before after why
            by_stop None none why is = absurd (cc (is))
            by_stop (Some at) some_at why is = subst (HasMergeCause s first names files' before after) (same_some is) (stopped_on at some_at)

      -- whichever it was
      pub ends_by : (files' : List Merged) (refusal : Option MergeRefusal) (after : Journal D d) → CameBehind s first files files' refusal mid after → EndsMerge s first names files' refusal before after
      ends_by files' refusal after (inl moved) = all_moved moved.0 files' after moved.2 refusal moved.1
      ends_by files' refusal after (inr nothing) =
          subst (λ r. EndsMerge s first names files' r before after) (sym nothing.0)
          (subst (λ (fs : List Merged). EndsMerge s first names fs (Some OutOfMemory) before after) (sym nothing.1) (not_begun after nothing.2))

-- ---- files that are numbered

fresh_more : (first k : ℕ) (files : List Merged) (file : Merged) → ((i : ℕ) (x : Merged) → slice_get files i ≡ Some x → IsFresh (first + (k + i)) x) → IsFresh (first + (k + length files)) file
    → (i : ℕ) (x : Merged) → slice_get (files ++ file ∷ []) i ≡ Some x → IsFresh (first + (k + i)) x
fresh_more first k [] file old new zero x at = subst (IsFresh (first + (k + 0))) (same_some at) new
fresh_more first k [] file old new (suc i) x at = absurd (cc (at))
fresh_more first k (y ∷ files) file old new zero x at = old zero x at
fresh_more first k (y ∷ files) file old new (suc i) x at =
    let step : first + (k + 1 + i) ≡ first + (k + suc i) = omega arith in
    let last : first + (k + suc (length files)) ≡ first + (k + 1 + length files) = omega arith in
    subst (λ n. IsFresh n x) step
    (fresh_more first (k + 1) files file (λ j z there. let same : first + (k + suc j) ≡ first + (k + 1 + j) = omega arith in subst (λ n. IsFresh n z) same (old (suc j) z there)) (subst (λ n. IsFresh n file) last new) i x at)

pub fresh_pushed : (first : ℕ) (files : List Merged) (file : Merged) → AreFresh first files → IsFresh (first + length files) file → AreFresh first (files ++ file ∷ [])
fresh_pushed first files file fresh new = λ i x at.
    let step : first + (0 + i) ≡ first + i = omega arith in
    let last : first + length files ≡ first + (0 + length files) = omega arith in
    subst (λ n. IsFresh n x) step
    (fresh_more first 0 files file (λ j z there. let same : first + j ≡ first + (0 + j) = omega arith in subst (λ n. IsFresh n z) same (fresh j z there)) (subst (λ n. IsFresh n file) last new) i x at)

pub none_fresh : (first : ℕ) → AreFresh first []
none_fresh first = λ i x at. absurd (cc (at))

-- ---- the second disk, and what had not begun

pub was_read : {M E : Type 0} (state : E → DiskState) (stop : Option Stopped) (refusal : Option MergeRefusal) (a b : Second M E) → OnlyRead state stop a b → refusal ≡ refusal_by stop → WasOnlyRead state refusal a.disk b.disk
was_read state stop refusal a b only same = record {
  lent = only.stays.lent;
  rests = only.stays.rests;
  later = only.later;
  fault = λ file is. by_stop file stop refl (sym same ∙ is);
}
  where
    by_stop : (file : ℕ) (o : Option Stopped) → stop ≡ o → refusal_by o ≡ Some (StoppedAt file SecondFault) → Rose (state a.disk.now).faults (state b.disk.now).faults
    by_stop file None none is = absurd (cc (is))
    by_stop file (Some why) at is = only.fault why at (cc (is))

pub not_read_again : {M E : Type 0} (state : E → DiskState) (a b : Second M E) → Rests (state a.disk.now) (state a.disk.now) → b ≡ a → WasOnlyRead state (Some OutOfMemory) a.disk b.disk
not_read_again {M} {E} state a b rests same = subst (λ (x : Second M E). WasOnlyRead state (Some OutOfMemory) a.disk x.disk) (sym same) (not_read state (Some OutOfMemory) a.disk rests (λ file is. cc (is)))

module _ {D : Type 0} {d : DiskGhosts D} (lawful : (x : D) → IsLawful (d.state x)) (s : SecondView) (first : ℕ) (names : List (List ℕ)) (j : Journal D d) (may : MayOpen (state_of j)) (files : List Merged) (none : files ≡ []) where
  pub no_room : EndsMerge s first names files (Some OutOfMemory) j j
  no_room = subst (λ fs. EndsMerge s first names fs (Some OutOfMemory) j j) (sym none)
      (nothing_done lawful s first names (Some OutOfMemory) j may (λ is. absurd (cc (is))) (λ why is. subst (HasMergeCause s first names [] j j) (same_some is) tt))

  pub no_files : length names ≡ 0 → EndsMerge s first names files None j j
  no_files all = subst (λ fs. EndsMerge s first names fs None j j) (sym none) (nothing_done lawful s first names None j may (λ is. all) (λ why is. absurd (cc (is))))

  pub long_name : ¬ All IsShort names → EndsMerge s first names files (Some LongName) j j
  long_name long = subst (λ fs. EndsMerge s first names fs (Some LongName) j j) (sym none)
      (nothing_done lawful s first names (Some LongName) j may (λ is. absurd (cc (is))) (λ why is. subst (HasMergeCause s first names [] j j) (same_some is) (long, refl, refl)))

pub not_read_for_memory : {E : Type 0} (state : E → DiskState) (a : MutBor E) → Rests (state a.now) (state a.now) → WasOnlyRead state (Some OutOfMemory) a a
not_read_for_memory state a rests = not_read state (Some OutOfMemory) a rests (λ file is. cc (is))

pub not_read_for_names : {E : Type 0} (state : E → DiskState) (why : RegisterRefusal) (a : MutBor E) → Rests (state a.now) (state a.now) → WasOnlyRead state (Some (Names why)) a a
not_read_for_names state why a rests = not_read state (Some (Names why)) a rests (λ file is. cc (is))

-- ---- names that are short

pub short_names : (files : List FileEntry) → All (λ (f : FileEntry). length f.name ≤ MAX_NAME_LEN) files → All IsShort (names_of files)
short_names [] all = All-nil IsShort
short_names (f ∷ files) all =
    All-cons IsShort f.name (names_of files) (All-head (λ (x : FileEntry). length x.name ≤ MAX_NAME_LEN) f files all) (short_names files (All-tail (λ (x : FileEntry). length x.name ≤ MAX_NAME_LEN) f files all))

pub short_files : (files : List FileEntry) → All IsShort (names_of files) → All (λ (f : FileEntry). length f.name ≤ MAX_NAME_LEN) files
short_files [] all = All-nil (λ (x : FileEntry). length x.name ≤ MAX_NAME_LEN)
short_files (f ∷ files) all =
    All-cons (λ (x : FileEntry). length x.name ≤ MAX_NAME_LEN) f files (All-head IsShort f.name (names_of files) all) (short_files files (All-tail IsShort f.name (names_of files) all))

pub no_names_left : (files : List FileEntry) → length files ≡ 0 → length (names_of files) ≡ 0
no_names_left [] none = refl
no_names_left (f ∷ files) none = absurd (omega (arith, none))
