-- What files that were moved leave, from what became of them over the store.
use Rattle.std.proofs.Common.{◌≡◌, ℕ, zero, suc, ◌+◌, ◌-◌, ◌&&◌, ◌==◌, Bool, true, false, if◌then◌else◌, List, [], ◌∷◌, ◌++◌, length, drop, sym, refl, ap, ◌∙◌, subst, arith, Option, None, Some, is_some, slice_get, All, ◌^◌, ◌<◌, ◌≤◌, ⊎_elim, inl, inr, append_assoc, length-append, ap₂}
use Rattle.std.specs.Prelude.{is_none}
use Rattle.std.specs.List.{cons_option, filter, filter_map, Contains}
use Rattle.std.specs.List.Sorted.{IsNonDecreasingBy}
use Rattle.std.proofs.lemmas.Bool.Decides.{nat_tests}
use Rattle.std.proofs.lemmas.Option.{slice_get-get_or, slice_get_within}
use mathlib.Core.List.{IsPrefix}
use Rattle.log_seams.specs.Disk.{DiskState}
use Rattle.log_seams.specs.declared.disk.Disk.{Ghosts as DiskGhosts}
use Rattle.row_codec.specs.declared.names.Names.{Ghosts as NamesGhosts}
use Rattle.turn_lock.specs.declared.board.About.{About}
use Rattle.turn_lock.specs.Words.{about, lock_of, number_of, own_list, seen, noted}
use Rattle.turn_lock.proofs.FrontLemmas.{prefix_trans}
use Rattle.ingest_fork.specs.Picked.{entries_in}
use Rattle.ingest_fork.specs.Works.{Done}
use Rattle.ingest_fork.proofs.PlaceLemmas.{at_right, there_is, in_left}
use Rattle.dict_lock.specs.Cached.{pass_in}
use Rattle.dict_lock.specs.Shared.{BookPass}
use Rattle.disk_journal.specs.declared.journal.Journal.{Journal}
use Rattle.disk_journal.specs.Journal.{state_of}
use Rattle.archive_meaning.specs.declared.entry.JournalEntry.{JournalEntry}
use Rattle.archive_meaning.specs.declared.entry.JournalEntry.TheVariants.{Files, Segment, Types, Words}
use Rattle.archive_meaning.specs.declared.entry.SegmentEntry.{SegmentEntry}
use Rattle.ingest_meaning.specs.Parts.{in_file}
use Rattle.archive_open.specs.declared.segments.SegmentPlace.{SegmentPlace}
use Rattle.archive_open.specs.OfFile.{is_of}
use Rattle.disk_seal.specs.declared.entry.StoreEntry.{StoreEntry}
use Rattle.disk_seal.specs.declared.entry.StoreEntry.TheVariants.{Blank, Entry, Stopped as Mark}
use Rattle.disk_seal.specs.declared.fixed.StoreFixed.{StoreFixed}
use Rattle.disk_seal.specs.Draft.{journal_seen}
use Rattle.disk_seal.specs.Fixed.{KeeperPass, fixed_of}
use Rattle.disk_seal.specs.May.{MayAdd}
use Rattle.disk_seal.specs.Told.{IfTold, journal_in}
use Rattle.disk_seal.specs.View.{Kept, StoreView, journal_of, state_by}
use Rattle.disk_seal.proofs.MarkLemmas.{stopped_by}
use Rattle.disk_seal.proofs.ToldLemmas.{told_map, told_both}
use Rattle.ingest_workers.specs.ClosedStore.{IsJournalOf}
use Rattle.ingest_workers.specs.Ingested.{IsAsItWas, opened_over, told_entries}
use Rattle.ingest_workers.specs.Journal.{FrontHolds, Holds, entries_at, sealed_by, segments_in}
use Rattle.ingest_workers.specs.Locked.{IsPassOf, IsStillStore, file_segment, list_behind, list_of}
use Rattle.ingest_workers.proofs.IngestLemmas.{left_by, seen_list, stayed_by}
use Rattle.ingest_workers.proofs.JournalLemmas.{seen_front, seen_joined, all_canonical}
use Rattle.ingest_workers.proofs.SealLemmas.{if_told}
use Rattle.log_seams.specs.Outside.{Rose}
use Rattle.logtype_text.specs.Fair.{IsFairType, IsFairWord}
use Rattle.row_codec.specs.declared.namer.Which.{Which}
use Rattle.row_codec.specs.declared.namer.Which.TheVariants.{Types as WhichTypes, Words as WhichWords}
use Rattle.row_codec.specs.Naming.{Known}
use Rattle.ingest_workers.specs.Full.{Books, IsMore, WasFull, book_of, books_by}
use Rattle.ingest_workers.proofs.FullLemmas.{books_on}
use Rattle.archive_merge.specs.declared.cause.MergeCause.{MergeCause}
use Rattle.archive_merge.specs.declared.cause.MergeCause.TheVariants.{ArchiveFull, FirstFault, Full, OutOfMemory, SecondDamaged, SecondFault}
use Rattle.archive_merge.specs.Causes.{HasMoveCause}
use Rattle.disk_seal.specs.Planned.{segment_of}
use Rattle.segment_format.specs.Layout.{sorted_set}
use Rattle.ingest_workers.specs.NoRoom.{WereKnown}
use Rattle.ingest_workers.proofs.OpenSegmentLemmas.{same_numbers}
use Rattle.archive_merge.specs.declared.file.Merged.{Merged}
use Rattle.archive_merge.specs.declared.merger.Merger.{Merger}
use Rattle.archive_merge.specs.declared.merger.BookPasses.{BookPasses}
use Rattle.archive_merge.specs.declared.merger.Second.{Second}
use Rattle.archive_merge.specs.declared.merger.Stopped.{Stopped}
use Rattle.archive_merge.specs.Behind.{HasStored, done_of, needed_of, IsMovedFile, IsNewIn, IsOfFiles, MayBegin, OnlyRead, SecondView, second_by, HasRun, HasStopCause, HasStopped, IsDone, old_texts, places_for}
use Rattle.archive_merge.specs.Files.{AreCutAs, CameOver, IsNotDone}
use Rattle.archive_merge.specs.Locked.{HasMovedOver, MayMoveAt}
use Rattle.archive_merge.specs.Merger.{DidFile, MayMoveFile, MovesOn, PassesAdd, StaysRead, file_at, passes_of, HasMoved, IsOneOf, IsReachedOf, IsStopFor, books_of}
use Rattle.archive_merge.specs.MergerLaws.{passes_in_is, passes_then, passes_wider}
use Rattle.archive_merge.specs.Runs.{HoldRun, nothing_so_far, SoFar}
use Rattle.archive_merge.specs.Taken.{texts_by}

-- ---- lists

-- what is drawn behind a front is the rest
drop_front : {X : Type 0} (xs ys : List X) → drop (length xs) (xs ++ ys) ≡ ys
drop_front [] ys = refl
drop_front (x ∷ xs) ys = drop_front xs ys

all_from : {X : Type 0} (P : X → Type 0) (xs : List X) → ((i : ℕ) (x : X) → slice_get xs i ≡ Some x → P x) → All P xs
all_from P xs f i d lt = f i _ (slice_get-get_or xs i d lt)

one_is : {X : Type 0} (x y : X) (n : ℕ) → slice_get (x ∷ []) n ≡ Some y → x ≡ y
one_is x y zero at = cc (at)
one_is x y (suc n) at = absurd (cc (at))

-- what is picked of a store's list is picked of its entries
picked_seen : (n : ℕ) (es : List StoreEntry) → filter_map (file_segment n) es ≡ filter_map (in_file n) (journal_seen es)
picked_seen n [] = refl
picked_seen n (Entry e ∷ es) = ap (cons_option (in_file n e)) (picked_seen n es)
picked_seen n (Blank ∷ es) = picked_seen n es
picked_seen n (Mark now ∷ es) = picked_seen n es

-- a store's entry is told of by what holds of the journal's entry in it
abbrev OfEntry : (JournalEntry → Type 0) → StoreEntry → Type 0
OfEntry P (Entry e) = P e
OfEntry P Blank = Unit {0}
OfEntry P (Mark now) = Unit {0}

-- an entry that stands in the journal stands in the list
seen_from : (P : JournalEntry → Type 0) (es : List StoreEntry) → ((i : ℕ) (x : StoreEntry) → slice_get es i ≡ Some x → OfEntry P x) → (i : ℕ) (e : JournalEntry) → slice_get (journal_seen es) i ≡ Some e → P e
seen_from P [] f i e at = absurd (cc (at))
seen_from P (Entry x ∷ es) f zero e at = let same : x ≡ e = cc (at) in subst P same (f 0 (Entry x) refl)
seen_from P (Entry x ∷ es) f (suc i) e at = seen_from P es (λ n y is. f (suc n) y is) i e at
seen_from P (Blank ∷ es) f i e at = seen_from P es (λ n y is. f (suc n) y is) i e at
seen_from P (Mark now ∷ es) f i e at = seen_from P es (λ n y is. f (suc n) y is) i e at

-- an entry that a pass of one of the files may add
of_files : (js : List Merged) (i : ℕ) (job : Merged) (n : ℕ) (x : StoreEntry) → slice_get js i ≡ Some job → job.file ≡ n → MayAdd n x → OfEntry (IsOfFiles js) x
of_files js i job n (Entry (Files names)) at file may = may
of_files js i job n (Entry (Types first texts)) at file may = tt
of_files js i job n (Entry (Words first texts)) at file may = tt
of_files js i job n (Entry (Segment s)) at file may = (i, job, at, file ∙ sym may)
of_files js i job n Blank at file may = tt
of_files js i job n (Mark now) at file may = tt

same_eq : (a b : ℕ) → a ≡ b → (a == b) ≡ true
same_eq a b is = grind (arith, nat_tests)

-- all segments are of this file
abbrev Mine : ℕ → List SegmentEntry → Type 0
Mine n [] = Unit {0}
Mine n (s ∷ ss) = (s.file ≡ n) × Mine n ss

mine_all : (n : ℕ) (ss : List SegmentEntry) → All (λ (s : SegmentEntry). s.file ≡ n) ss → Mine n ss
mine_all n [] all = tt
mine_all n (s ∷ ss) all = (all 0 s (omega arith), mine_all n ss (λ i e lt. all (suc i) e (omega (arith, lt))))

-- where all segments are of the file, they are what is picked
picked_all : (n : ℕ) (es : List JournalEntry) → Mine n (segments_in es) → filter_map (in_file n) es ≡ segments_in es
picked_all n [] mine = refl
picked_all n (Files names ∷ es) mine = picked_all n es mine
picked_all n (Types first texts ∷ es) mine = picked_all n es mine
picked_all n (Words first texts ∷ es) mine = picked_all n es mine
picked_all n (Segment s ∷ es) mine = ap (λ b. cons_option (if b then Some s else None) (filter_map (in_file n) es)) (same_eq s.file n mine.0) ∙ ap (λ l. s ∷ l) (picked_all n es mine.1)

entries_same : (l : List (ℕ × StoreEntry)) → entries_in l ≡ entries_at l
entries_same [] = refl
entries_same (x ∷ xs) = ap (λ l. x.1 ∷ l) (entries_same xs)

-- it is more of what is known of a book
more_then : (a b c : Known) → IsMore a b → IsMore b c → IsMore a c
more_then a b c one two = record { front = prefix_trans a.texts b.texts c.texts one.front two.front; limit = two.limit ∙ one.limit }

-- ---- the numbers of files

-- a file before another has a lower number
front_low : (first : ℕ) (js bf front rest bh : List Merged) (job : Merged) (i : ℕ) → js ≡ bf ++ (front ++ (job ∷ (rest ++ bh))) → ((k : ℕ) (j : Merged) → slice_get js k ≡ Some j → j.file ≡ first + k)
    → i ≡ length bf + length front → job.file ≡ first + i → (s : Stopped) → IsOneOf front s → s.file < job.file
front_low first js bf front rest bh job i cut numbers place number s (k, j, at, same) =
    let within = slice_get_within front k j at in
    let file = numbers (length bf + k) j (ap (λ l. slice_get l (length bf + k)) cut ∙ (at_right bf (front ++ (job ∷ (rest ++ bh))) k ∙ (in_left front (job ∷ (rest ++ bh)) k within ∙ at))) in
    omega (arith, within, file, same, place, number)

-- and one behind it a higher one
rest_high : (first : ℕ) (js bf front rest bh : List Merged) (job : Merged) (i : ℕ) → js ≡ bf ++ (front ++ (job ∷ (rest ++ bh))) → ((k : ℕ) (j : Merged) → slice_get js k ≡ Some j → j.file ≡ first + k)
    → i ≡ length bf + length front → job.file ≡ first + i → (s : Stopped) → IsOneOf rest s → job.file < s.file
rest_high first js bf front rest bh job i cut numbers place number s (k, j, at, same) =
    let within = slice_get_within rest k j at in
    let file = numbers (length bf + (length front + suc k)) j (ap (λ l. slice_get l (length bf + (length front + suc k))) cut ∙ (at_right bf (front ++ (job ∷ (rest ++ bh))) (length front + suc k)
    ∙ (at_right front (job ∷ (rest ++ bh)) (suc k) ∙ (in_left rest bh k within ∙ at)))) in
    omega (arith, file, same, place, number)

-- ---- a file

module _ {D : Type 0} {d : DiskGhosts D} (view : SecondView) (first : ℕ) (stop : Option Stopped) (before : Journal D d) (fresh : List JournalEntry) (old : Merged) where
  -- one that was begun
  moved_file : (new : Merged) (p q : KeeperPass D) (over : About (StoreFixed D)) (places : List SegmentPlace) (all_done : Bool) → CameOver d.state view.version view.texts places view.told all_done p q old new
      → (IsNonDecreasingBy file_at view.segments → places ≡ filter (is_of (old.file - first)) view.segments) → (IsDone stop old.file → all_done ≡ true)
      → ((why : Stopped) → stop ≡ Some why → why.file ≤ old.file → all_done ≡ false) → ((why : Stopped) → stop ≡ Some why → why.file < old.file → ⊥)
      → number_of p ≡ old.file → about p ≡ Some over → over.fixed.opened ≡ before.disk.now → over.fixed.header ≡ before.header → own_list p ≡ []
      → filter_map (in_file old.file) fresh ≡ filter_map (in_file old.file) (journal_seen (entries_in (own_list q))) → IsPrefix (journal_seen (seen q)) (told_entries (state_of before) ++ fresh)
      → IsMovedFile view first stop before fresh old new
  moved_file new p q over places all_done came are done some none number known opened header own picked seen_on = record {
    file = came.same_file;
    covered = came.covered;
    ended = came.ended;
    count = came.count;
    first_ones = λ all run. came.first run.bytes all run.told_is (subst (λ l. HoldRun view.version view.texts run.bytes l nothing_so_far all) (sym (are run.sorted)) run.run);
    all = λ is all run. came.all (done is) run.bytes all run.told_is (subst (λ l. HoldRun view.version view.texts run.bytes l nothing_so_far all) (sym (are run.sorted)) run.run);
    part = λ why is le all run.
        (came.not_done (some why is le) run.bytes all run.told_is (subst (λ l. HoldRun view.version view.texts run.bytes l nothing_so_far all) (sym (are run.sorted)) run.run)).part;
    none = λ why is lt. absurd (none why is lt);
    segments = came.segments;
    cuts = λ all run.
        let cut = came.cuts run.bytes all run.told_is (subst (λ l. HoldRun view.version view.texts run.bytes l nothing_so_far all) (sym (are run.sorted)) run.run) in
        subst (λ l. AreCutAs old.file l came.segments) (are run.sorted) (subst (λ n. AreCutAs n places came.segments) number cut);
    rows_count = came.rows_count;
    last_is = came.last_is;
    ended_is = came.ended_is;
    sealed = told_map (is_some (state_of before).disk.seen) exactly (told_here _ (came.sealed over known));
    held = told_map (is_some (state_of before).disk.seen) further (told_here _ (came.held over known));
  }
    where
      told_here : (X : Type 0) → IfTold (is_some (d.state over.fixed.opened).seen) X → IfTold (is_some (state_of before).disk.seen) X
      told_here X x = subst (λ (y : D). IfTold (is_some (d.state y).seen) X) opened x

      added : journal_seen (entries_in (own_list q)) ≡ journal_seen (entries_at came.more)
      added = ap (λ l. journal_seen (entries_in l)) (came.added.own ∙ ap (λ l. l ++ came.more) own) ∙ ap journal_seen (entries_same came.more)

      mine : Mine old.file came.segments
      mine = subst (λ n. Mine n came.segments) number (mine_all (number_of p) came.segments came.mine)

      exactly : sealed_by came.more ≡ came.segments → filter_map (in_file old.file) fresh ≡ came.segments
      exactly are_these = picked ∙ (ap (filter_map (in_file old.file)) added ∙ (picked_all old.file (journal_seen (entries_at came.more)) (subst (Mine old.file) (sym are_these) mine) ∙ are_these))

      further : FrontHolds over.fixed.header (journal_seen (seen q)) (number_of p) came.covered new.whole (new.whole && came.ended)
          → FrontHolds before.header (told_entries (state_of before) ++ fresh) old.file came.covered new.whole (new.whole && came.ended)
      further f = subst (λ x. FrontHolds x (told_entries (state_of before) ++ fresh) old.file came.covered new.whole (new.whole && came.ended)) header
          (subst (λ (n : ℕ). FrontHolds over.fixed.header (told_entries (state_of before) ++ fresh) n came.covered new.whole (new.whole && came.ended)) number (record {
            front = f.front;
            begins = prefix_trans f.front (journal_seen (seen q)) (told_entries (state_of before) ++ fresh) f.begins seen_on;
            holds = f.holds;
          }))

  -- one that was not, since another was stopped
  waited_file : (number : ℕ) (q : KeeperPass D) → IsNewIn (state_of before) number old → (IsDone stop old.file → ⊥) → own_list q ≡ []
      → filter_map (in_file old.file) fresh ≡ filter_map (in_file old.file) (journal_seen (entries_in (own_list q))) → IsMovedFile view first stop before fresh old old
  waited_file number q new stopped own picked = record {
    file = refl;
    covered = [];
    ended = false;
    count = new.messages_none;
    first_ones = λ all run. (all.messages, refl);
    all = λ is all run. absurd (stopped is);
    part = λ why is le all run. new.not_whole;
    none = λ why is lt. (new.messages_none, new.not_whole);
    segments = [];
    cuts = λ all run. tt;
    rows_count = refl;
    last_is = sym new.not_whole;
    ended_is = sym (ap (λ b. b && false) new.not_whole);
    sealed = if_told (is_some (state_of before).disk.seen) _ (λ told. picked ∙ ap (λ l. filter_map (in_file old.file) (journal_seen (entries_in l))) own);
    held = told_map (is_some (state_of before).disk.seen)
        (λ (holds : Holds before.header (told_entries (state_of before)) old.file [] false false).
        subst (λ b. FrontHolds before.header (told_entries (state_of before) ++ fresh) old.file [] b (b && false)) (sym new.not_whole)
        (let front : FrontHolds before.header (told_entries (state_of before) ++ fresh) old.file [] false false = record { front = told_entries (state_of before); begins = (fresh, refl); holds = holds } in front)) new.empty;
  }

-- ---- the passes

module _ {M E : Type 0} {N : NamesGhosts M} {H : DiskGhosts E} (types words : M → List (List ℕ)) (version : M → ℕ) (state : E → DiskState) where
  pub adds_between : (w v : Merger M E N H) (s : Second M E) (first done : ℕ) (files : List Merged) (b c : BookPasses) → w.second ≡ s → w.passes ≡ Some b → v.passes ≡ Some c
      → PassesAdd (needed_of (second_by types words version state w.second) first done files) (passes_of w) (passes_of v) → PassesAdd (needed_of (second_by types words version state s) first done files) b c
  adds_between w v s first done files b c same had has adds = subst (λ x. PassesAdd (needed_of (second_by types words version state x) first done files) b c) same
      (subst (λ x. PassesAdd (needed_of (second_by types words version state w.second) first done files) x c) (passes_in_is w.passes w.full b had)
      (subst (λ x. PassesAdd (needed_of (second_by types words version state w.second) first done files) (passes_of w) x) (passes_in_is v.passes v.full c has) adds))

-- ---- the second archive

pub only_read : {M E : Type 0} (state : E → DiskState) (stop : Option Stopped) (a b x y : Second M E) → x ≡ a → y ≡ b → StaysRead state x b → (state x.disk.now).faults ≤ (state b.disk.now).faults
    → ((why : Stopped) → stop ≡ Some why → why.cause ≡ SecondFault → Rose (state x.disk.now).faults (state b.disk.now).faults) → OnlyRead state stop a y
only_read state stop a b x y was now stays later fault = subst (λ z. OnlyRead state stop z y) was (subst (λ z. OnlyRead state stop x z) (sym now)
    (let here : OnlyRead state stop x b = record { stays = stays; later = later; fault = fault } in here))

-- ---- all files

module _ {M E : Type 0} {N : NamesGhosts M} {H : DiskGhosts E} (types words : M → List (List ℕ)) (version : M → ℕ) (state_second : E → DiskState) where
  abbrev view_of : Merger M E N H → SecondView
  view_of w = second_by types words version state_second w.second

  view_same : (js js' : List Merged) (w v : Merger M E N H) → MovesOn types words version state_second js js' w v → view_of v ≡ view_of w
  view_same js js' w v went = λ i. record {
    version = ap (λ n. version n.now) went.second_is.names i;
    texts = ap (λ n. texts_by types words n.now) went.second_is.names i;
    told = went.second_is.rests.seen i;
    segments = ap (λ s. s.now) went.second_is.segments i;
  }

  -- what was stopped stays so
  not_before : (js js' : List Merged) (a v : Merger M E N H) → MovesOn types words version state_second js js' a v → v.stop ≡ None → a.stop ≡ None
  not_before js js' a v went none = by_stop a.stop refl
    where
      by_stop : (o : Option Stopped) → a.stop ≡ o → a.stop ≡ None
      by_stop None is = is
      by_stop (Some s) is = let same : v.stop ≡ a.stop = went.stop_is (λ no. absurd (cc (no, is))) in absurd (cc (same, is, none))

module _ {D : Type 0} {d : DiskGhosts D} (before : Journal D d) (types_reader words_reader : BookPass) (t u : ℕ) where
  abbrev opened : StoreView D
  opened = opened_over before types_reader words_reader t u

  list_before : journal_seen (list_of d.state opened) ≡ told_entries (state_of before)
  list_before = seen_list (d.state before.disk.now).seen before.count None

  list_now : (store : StoreView D) → journal_seen (list_of d.state store) ≡ journal_of (state_by d.state store)
  list_now store = seen_list (d.state store.disk).seen store.count store.stopped

  -- a list with the mark is of a store that was stopped
  marked : (store : StoreView D) (now : ℕ) (front : List StoreEntry) → IsPrefix (front ++ Mark now ∷ []) (list_of d.state store) → store.stopped ≡ Some now
  marked store now front on = stopped_by (state_by d.state store) front on.0 now (sym (append_assoc front (Mark now ∷ []) on.0) ∙ on.1)

  -- so the disk's count of faults rose
  rose_by : (after : Journal D d) (store : StoreView D) → Kept (state_by d.state store) → store.opened ≡ before.disk.now → store.disk ≡ after.disk.now → (now : ℕ) (front : List StoreEntry) → IsPrefix (front ++ Mark now ∷ []) (list_of d.state store)
      → Rose (state_of before).disk.faults (state_of after).disk.faults
  rose_by after store kept opened_is disk_is now front on =
      let fault = kept.fault now (marked store now front on) in
      subst (λ (x : D). Rose (d.state before.disk.now).faults (d.state x).faults) disk_is
      (subst (λ (x : D). Rose (d.state x).faults (d.state store.disk).faults) opened_is
      (⊎_elim
      (λ (lt : (d.state store.opened).faults < now). let le = fault.1 in let more : Rose (d.state store.opened).faults (d.state store.disk).faults = inl (omega arith) in more)
      (λ (most : 2 ^ 64 - 1 ≤ now). let le = fault.1 in let more : Rose (d.state store.opened).faults (d.state store.disk).faults = inr (omega arith) in more)
      fault.0))

  -- to that of the mark
  count_by : (after : Journal D d) (store : StoreView D) → Kept (state_by d.state store) → store.disk ≡ after.disk.now → (now : ℕ) (front : List StoreEntry) → IsPrefix (front ++ Mark now ∷ []) (list_of d.state store)
      → now ≡ (state_of after).disk.faults
  count_by after store kept disk_is now front on = (kept.fault now (marked store now front on)).1 ∙ ap (λ (x : D). (d.state x).faults) disk_is

  pub as_it_was : (after : Journal D d) (store : StoreView D) (o : StoreView D) → o ≡ opened → IsStillStore d.state o store → IsJournalOf store after → Kept (state_by d.state store) → IsAsItWas before after
  as_it_was after store o is still back kept = stayed_by (λ (s : Unit {0}). None) (λ s. None) (λ s. 0) before after types_reader words_reader t u store o is still back kept

module _ {M E D : Type 0} {N : NamesGhosts M} {H : DiskGhosts E} {d : DiskGhosts D} (types words : M → List (List ℕ)) (version : M → ℕ) (state_second : E → DiskState) where
  still_number : (a v : Merger M E N H) (j j' : Merged) (k k' : KeeperPass D) → DidFile types words version d.state state_second a j k v j' k' → number_of k' ≡ number_of k
  still_number a v j j' k k' did = by_stop a.stop refl
    where
      by_stop : (o : Option Stopped) → a.stop ≡ o → number_of k' ≡ number_of k
      by_stop None is = (did.moved is).came.added.still.number
      by_stop (Some s) is = ap (λ (x : KeeperPass D). number_of x) (did.waited (λ no. absurd (cc (no, is)))).1

  module _ (before after : Journal D d) (types_reader words_reader : BookPass) (t u : ℕ) (store : StoreView D) where
    has_stored : (first : ℕ) (w w' : Merger M E N H) (js js' : List Merged) → w.first ≡ first → w.stop ≡ None → MayBegin first (version w.second.names.now) before js
        → HasMovedOver types words version d.state state_second first w w' js js' (opened before types_reader words_reader t u) store → IsJournalOf store after → Kept (state_by d.state store)
        → HasStored (view_of types words version state_second w) first w'.stop js js' before after store
    has_stored first w w' js js' same_first fresh begin h back kept = record {
      left_by = left_by (λ (s : Unit {0}). None) (λ s. None) (λ s. 0) before after types_reader words_reader t u store h.fixed back kept;
      fresh = journal_seen (list_behind d.state (opened before types_reader words_reader t u) store);
      grown = sym (list_now before types_reader words_reader t u store) ∙ all_now;
      counted = h.moved.done.jobs;
      each = file;
      others = all_from (IsOfFiles js) (journal_seen (list_behind d.state (opened before types_reader words_reader t u) store)) (seen_from (IsOfFiles js) (list_behind d.state (opened before types_reader words_reader t u) store) each);
    }
      where
        behind : list_behind d.state (opened before types_reader words_reader t u) store ≡ h.front.0
        behind = ap (drop (length (list_of d.state (opened before types_reader words_reader t u)))) (sym h.front.1) ∙ drop_front (list_of d.state (opened before types_reader words_reader t u)) h.front.0

        all_now : journal_seen (list_of d.state store) ≡ told_entries (state_of before) ++ journal_seen (list_behind d.state (opened before types_reader words_reader t u) store)
        all_now = ap journal_seen (sym h.front.1) ∙ (seen_joined (list_of d.state (opened before types_reader words_reader t u)) h.front.0
            ∙ (ap (λ l. l ++ journal_seen h.front.0) (list_before before types_reader words_reader t u) ∙ ap (λ l. told_entries (state_of before) ++ journal_seen l) (sym behind)))

        number_at : (i : ℕ) (job : Merged) (q : KeeperPass D) → slice_get js i ≡ Some job → slice_get h.passes' i ≡ Some q → number_of q ≡ job.file
        number_at i job q at is = let even = h.counted in let lt = slice_get_within js i job at in let p = there_is h.passes i (omega (arith, even, lt)) in
            let f = h.moved.done.each i job p.0 at p.1 in let same : f.keeper ≡ q = cc (f.keeper_is, is) in
            ap (λ (x : KeeperPass D). number_of x) (sym same) ∙ (still_number f.before f.after job f.job p.0 f.keeper f.did_it ∙ ((h.opened i p.0 p.1).number ∙ sym (begin.new i job at).file_is))

        each : (k : ℕ) (x : StoreEntry) → slice_get (list_behind d.state (opened before types_reader words_reader t u) store) k ≡ Some x → OfEntry (IsOfFiles js) x
        each k x at = let here : slice_get (list_of d.state store) (length (list_of d.state (opened before types_reader words_reader t u)) + k) ≡ Some x
            = ap (λ l. slice_get l (length (list_of d.state (opened before types_reader words_reader t u)) + k)) (sym h.front.1) ∙ (at_right (list_of d.state (opened before types_reader words_reader t u)) h.front.0 k ∙ (ap (λ l. slice_get l k) (sym behind) ∙ at)) in
            let a = h.added (length (list_of d.state (opened before types_reader words_reader t u)) + k) x (omega arith) here in
            let counts = h.moved.done.keepers in let even = h.counted in let lt = slice_get_within h.passes' a.place a.pass a.is in let job = there_is js a.place (omega (arith, counts, even, lt)) in
            of_files js a.place job.0 (number_of a.pass) x job.1 (sym (number_at a.place job.0 a.pass job.1 a.is)) a.allowed

        file : (i : ℕ) (job : Merged) → slice_get js i ≡ Some job → (new : Merged) × (slice_get js' i ≡ Some new) × IsMovedFile (view_of types words version state_second w) first w'.stop before (journal_seen (list_behind d.state (opened before types_reader words_reader t u) store)) job new
        file i job at = (f.job, f.job_is, by_stop f.before.stop refl)
          where
            even : length h.passes ≡ length js
            even = h.counted

            pass : (p : KeeperPass D) × (slice_get h.passes i ≡ Some p)
            pass = let lt = slice_get_within js i job at in there_is h.passes i (omega (arith, even, lt))

            p : KeeperPass D
            p = pass.0

            f : Done (MovesOn types words version state_second) (DidFile types words version d.state state_second) (w ∷ []) (w' ∷ []) js js' h.passes' i job p
            f = h.moved.done.each i job p at pass.1

            o : IsPassOf d.state first (opened before types_reader words_reader t u) i p
            o = h.opened i p pass.1

            number : number_of p ≡ job.file
            number = o.number ∙ sym (begin.new i job at).file_is

            went : MovesOn types words version state_second f.front f.front' w f.before
            went = subst (λ x. MovesOn types words version state_second f.front f.front' x f.before) (sym (one_is w f.first f.place f.first_is)) f.came

            goes : MovesOn types words version state_second f.rest f.rest' f.after w'
            goes = subst (λ x. MovesOn types words version state_second f.rest f.rest' f.after x) (sym (one_is w' f.last f.place f.last_is)) f.goes

            picked : filter_map (in_file job.file) (journal_seen (list_behind d.state (opened before types_reader words_reader t u) store)) ≡ filter_map (in_file job.file) (journal_seen (entries_in (own_list f.keeper)))
            picked = subst (λ (x : ℕ). filter_map (in_file x) (journal_seen (list_behind d.state (opened before types_reader words_reader t u) store)) ≡ filter_map (in_file x) (journal_seen (entries_in (own_list f.keeper)))) (number_at i job f.keeper at f.keeper_is)
                (sym (picked_seen (number_of f.keeper) (list_behind d.state (opened before types_reader words_reader t u) store)) ∙ (h.files i f.keeper f.keeper_is ∙ picked_seen (number_of f.keeper) (entries_in (own_list f.keeper))))

            seen_on : IsPrefix (journal_seen (seen f.keeper)) (told_entries (state_of before) ++ journal_seen (list_behind d.state (opened before types_reader words_reader t u) store))
            seen_on = subst (λ es. IsPrefix (journal_seen (seen f.keeper)) es) all_now (seen_front (seen f.keeper) (list_of d.state store) (h.seen_on i f.keeper f.keeper_is))

            numbers : (k : ℕ) (j : Merged) → slice_get js k ≡ Some j → j.file ≡ first + k
            numbers k j there = (begin.new k j there).file_is

            low : (s : Stopped) → IsOneOf f.front s → s.file < job.file
            low = front_low first js f.of_piece.before f.front f.rest f.of_piece.behind job i f.of_piece.cut numbers f.of_piece.place (numbers i job at)

            high : (s : Stopped) → IsOneOf f.rest s → job.file < s.file
            high = rest_high first js f.of_piece.before f.front f.rest f.of_piece.behind job i f.of_piece.cut numbers f.of_piece.place (numbers i job at)

            -- what stopped it here did so to the end
            to_end : (s : Stopped) → f.after.stop ≡ Some s → w'.stop ≡ Some s
            to_end s is = goes.stop_is (λ no. absurd (cc (no, is))) ∙ is

            done_here : f.before.stop ≡ None → (o : Option Stopped) → f.after.stop ≡ o → IsDone w'.stop job.file → is_none f.after.stop ≡ true
            done_here ran None is done = ap is_none is
            done_here ran (Some s) is done =
                let before_it : job.file < s.file = subst (λ o. IsDone o job.file) (to_end s is) done in
                let same = ((f.did_it.moved ran).stopped s is).file in
                absurd (omega (arith, before_it, same))

            not_here : f.before.stop ≡ None → (o : Option Stopped) → f.after.stop ≡ o → (why : Stopped) → w'.stop ≡ Some why → why.file ≤ job.file → is_none f.after.stop ≡ false
            not_here ran None is why some le = let later = high why (goes.stopped_by is why some) in absurd (omega (arith, later, le))
            not_here ran (Some s) is why some le = ap is_none is

            none_here : f.before.stop ≡ None → (o : Option Stopped) → f.after.stop ≡ o → (why : Stopped) → w'.stop ≡ Some why → why.file < job.file → ⊥
            none_here ran None is why some lt = let later = high why (goes.stopped_by is why some) in omega (arith, later, lt)
            none_here ran (Some s) is why some lt =
                let end = to_end s is in
                let one : s ≡ why = cc (end, some) in
                let same = ((f.did_it.moved ran).stopped s is).file in
                let file = ap (λ (x : Stopped). x.file) one in
                omega (arith, lt, same, file)

            by_stop : (s : Option Stopped) → f.before.stop ≡ s → IsMovedFile (view_of types words version state_second w) first w'.stop before (journal_seen (list_behind d.state (opened before types_reader words_reader t u) store)) job f.job
            by_stop None is = let moved = f.did_it.moved is in
                moved_file (view_of types words version state_second w) first w'.stop before (journal_seen (list_behind d.state (opened before types_reader words_reader t u) store)) job f.job p f.keeper (record { first = first; start = length (list_of d.state (opened before types_reader words_reader t u)); fixed = fixed_of (opened before types_reader words_reader t u) }) moved.places (is_none f.after.stop)
                (subst (λ v. CameOver d.state v.version v.texts moved.places v.told (is_none f.after.stop) p f.keeper job f.job) (view_same types words version state_second f.front f.front' w f.before went) moved.came)
                (subst (λ (n : ℕ). IsNonDecreasingBy file_at w.second.segments.now → moved.places ≡ filter (is_of (job.file - n)) w.second.segments.now) (went.first_is ∙ same_first)
                (subst (λ s. IsNonDecreasingBy file_at s.now → moved.places ≡ filter (is_of (job.file - f.before.first)) s.now) went.second_is.segments moved.are))
                (done_here is f.after.stop refl) (not_here is f.after.stop refl) (none_here is f.after.stop refl) number o.about_is refl refl o.own_is picked seen_on
            by_stop (Some s) is = let waited = f.did_it.waited (λ no. absurd (cc (no, is))) in
                subst (λ x. IsMovedFile (view_of types words version state_second w) first w'.stop before (journal_seen (list_behind d.state (opened before types_reader words_reader t u) store)) job x) (sym waited.0)
                (waited_file (view_of types words version state_second w) first w'.stop before (journal_seen (list_behind d.state (opened before types_reader words_reader t u) store)) job (first + i) f.keeper (begin.new i job at)
                (λ done.
                let after_is : f.after.stop ≡ Some s = waited.2 ∙ is in
                let before_it : job.file < s.file = subst (λ o. IsDone o job.file) (to_end s after_is) done in
                let there = low s (went.stopped_by fresh s is) in
                omega (arith, before_it, there))
                (ap (λ (x : KeeperPass D). own_list x) waited.1 ∙ o.own_is) picked)

    pub stored_by : (o : StoreView D) (f first : ℕ) (w w' : Merger M E N H) (js js' : List Merged) → o ≡ (opened before types_reader words_reader t u) → f ≡ first → w.first ≡ first → w.stop ≡ None → MayBegin first (version w.second.names.now) before js
        → HasMovedOver types words version d.state state_second f w w' js js' o store → IsJournalOf store after → Kept (state_by d.state store)
        → HasStored (view_of types words version state_second w) first w'.stop js js' before after store
    stored_by o f first w w' js js' is same same_first fresh begin h back kept = has_stored first w w' js js' same_first fresh begin
        (subst (λ (n : ℕ). HasMovedOver types words version d.state state_second n w w' js js' (opened before types_reader words_reader t u) store) same (subst (λ (x : StoreView D). HasMovedOver types words version d.state state_second f w w' js js' x store) is h)) back kept

  module _ (before after : Journal D d) (types_reader words_reader : BookPass) (t u : ℕ) (store : StoreView D) (first : ℕ) (w w' : Merger M E N H) (js js' : List Merged) (begin : MayBegin first (version w.second.names.now) before js)
      (h : HasMovedOver types words version d.state state_second first w w' js js' (opened before types_reader words_reader t u) store) where
    abbrev FileDone : ℕ → Merged → KeeperPass D → Type 0
    FileDone = Done (MovesOn types words version state_second) (DidFile types words version d.state state_second) (w ∷ []) (w' ∷ []) js js' h.passes'

    -- the file that stopped it, with its pass
    pub record StoppedAt (why : Stopped) : Type 0 where
      pub place : ℕ
      pub job : Merged
      pub is : slice_get js place ≡ Some job
      pub file : why.file ≡ job.file
      pub p : KeeperPass D
      pub p_is : slice_get h.passes place ≡ Some p
      pub done : FileDone place job p
      pub ran : done.before.stop ≡ None
      pub stopped : done.after.stop ≡ Some why
      pub went : MovesOn types words version state_second done.front done.front' w done.before
      pub goes : MovesOn types words version state_second done.rest done.rest' done.after w'

    stopped_at : w.stop ≡ None → (why : Stopped) → w'.stop ≡ Some why → StoppedAt why
    stopped_at none why some = record { place = i; job = job; is = at; file = file; p = pass.0; p_is = pass.1; done = f; ran = ran f.before.stop refl; stopped = stopped f.after.stop refl; went = went; goes = goes }
      where
        of : IsOneOf js why
        of = h.moved.went.stopped_by none why some

        i : ℕ
        i = of.0

        job : Merged
        job = of.1

        at : slice_get js i ≡ Some job
        at = of.2

        file : why.file ≡ job.file
        file = of.3

        pass : (p : KeeperPass D) × (slice_get h.passes i ≡ Some p)
        pass = let even = h.counted in let lt = slice_get_within js i job at in there_is h.passes i (omega (arith, even, lt))

        f : FileDone i job pass.0
        f = h.moved.done.each i job pass.0 at pass.1

        went : MovesOn types words version state_second f.front f.front' w f.before
        went = subst (λ x. MovesOn types words version state_second f.front f.front' x f.before) (sym (one_is w f.first f.place f.first_is)) f.came

        goes : MovesOn types words version state_second f.rest f.rest' f.after w'
        goes = subst (λ x. MovesOn types words version state_second f.rest f.rest' f.after x) (sym (one_is w' f.last f.place f.last_is)) f.goes

        -- no other file did
        others : (x : Stopped) (k : ℕ) (j : Merged) → slice_get js k ≡ Some j → x.file ≡ j.file → w'.stop ≡ Some x → k ≡ i
        others x k j here same is =
            let one : x ≡ why = cc (is, some) in
            let a = (begin.new k j here).file_is in
            let b = (begin.new i job at).file_is in
            let c = ap (λ (s : Stopped). s.file) one in
            omega (arith, a, b, c, same, file)

        front_at : (k : ℕ) (j : Merged) → slice_get f.front k ≡ Some j → slice_get js (length f.of_piece.before + k) ≡ Some j
        front_at k j here = ap (λ l. slice_get l (length f.of_piece.before + k)) f.of_piece.cut ∙ (at_right f.of_piece.before (f.front ++ (job ∷ (f.rest ++ f.of_piece.behind))) k
            ∙ (in_left f.front (job ∷ (f.rest ++ f.of_piece.behind)) k (slice_get_within f.front k j here) ∙ here))

        rest_at : (k : ℕ) (j : Merged) → slice_get f.rest k ≡ Some j → slice_get js (length f.of_piece.before + (length f.front + suc k)) ≡ Some j
        rest_at k j here = ap (λ l. slice_get l (length f.of_piece.before + (length f.front + suc k))) f.of_piece.cut ∙ (at_right f.of_piece.before (f.front ++ (job ∷ (f.rest ++ f.of_piece.behind))) (length f.front + suc k)
            ∙ (at_right f.front (job ∷ (f.rest ++ f.of_piece.behind)) (suc k) ∙ (in_left f.rest f.of_piece.behind k (slice_get_within f.rest k j here) ∙ here)))

        ran : (o : Option Stopped) → f.before.stop ≡ o → f.before.stop ≡ None
        ran None is = is
        ran (Some x) is =
            let waited = f.did_it.waited (λ no. absurd (cc (no, is))) in
            let after_is : f.after.stop ≡ Some x = waited.2 ∙ is in
            let end_is : w'.stop ≡ Some x = goes.stop_is (λ no. absurd (cc (no, after_is))) ∙ after_is in
            let one = went.stopped_by none x is in
            let there = others x (length f.of_piece.before + one.0) one.1 (front_at one.0 one.1 one.2) one.3 end_is in
            let here = f.of_piece.place in
            let lt = slice_get_within f.front one.0 one.1 one.2 in
            absurd (omega (arith, there, here, lt))

        stopped : (o : Option Stopped) → f.after.stop ≡ o → f.after.stop ≡ Some why
        stopped None is =
            let one = goes.stopped_by is why some in
            let there = others why (length f.of_piece.before + (length f.front + suc one.0)) one.1 (rest_at one.0 one.1 one.2) one.3 some in
            let here = f.of_piece.place in
            absurd (omega (arith, there, here))
        stopped (Some y) is = sym (goes.stop_is (λ no. absurd (cc (no, is)))) ∙ some

    abbrev view : SecondView
    view = view_of types words version state_second w

    pub fault_of : w.stop ≡ None → (why : Stopped) → w'.stop ≡ Some why → why.cause ≡ SecondFault → Rose (state_second w.second.disk.now).faults (state_second w'.second.disk.now).faults
    fault_of none why some is =
        let s = stopped_at none why some in
        let low = s.went.later in
        let high = s.goes.later in
        ⊎_elim (λ (lt : (state_second s.done.before.second.disk.now).faults < (state_second s.done.after.second.disk.now).faults).
        let more : Rose (state_second w.second.disk.now).faults (state_second w'.second.disk.now).faults = inl (omega (arith, low, high, lt)) in more)
        (λ (most : 2 ^ 64 - 1 ≤ (state_second s.done.after.second.disk.now).faults).
        let more : Rose (state_second w.second.disk.now).faults (state_second w'.second.disk.now).faults = inr (omega (arith, high, most)) in more)
        (((s.done.did_it.moved s.ran).stopped why s.stopped).fault is)

    -- what the moments before and after a file say of its cause, told of the journals
    cause_of : (books : Books) (file done i : ℕ) (places : List SegmentPlace) (p q : KeeperPass D) (b : BookPasses) → (IsNonDecreasingBy file_at view.segments → places ≡ filter (is_of (file - first)) view.segments) → IsPassOf d.state first (opened before types_reader words_reader t u) i p → number_of p ≡ file → IsPrefix (seen p) (seen q) → IsPrefix (seen q) (list_of d.state store) → IsJournalOf store after → Kept (state_by d.state store)
        → ((book : Which) → IsMore (book_of (books_by (pass_in b.types) (pass_in b.words)) book) (book_of books book)) → (cause : MergeCause)
        → (cause ≡ SecondDamaged → All IsFairType view.texts.types → All IsFairWord view.texts.words → (all : SoFar) → ¬ HasRun view (file - first) all)
        → HasMoveCause d.state view.version view.texts places view.told done p q (books_of b) cause → HasStopCause (λ book count. WasFull (Contains (old_texts view book)) count (book_of books book)) (WereKnown books) view first file done before after cause
    cause_of books file done i places p q b are o number since on back kept more (Full WhichTypes count) damaged has = record {
      limit = has.most ∙ sym (more WhichTypes).limit;
      front = seen (pass_in b.types);
      begins = (more WhichTypes).front;
      all = has.all;
      text = has.text;
      is = has.is;
      new = has.new;
    }
    cause_of books file done i places p q b are o number since on back kept more (Full WhichWords count) damaged has = record {
      limit = has.most ∙ sym (more WhichWords).limit;
      front = seen (pass_in b.words);
      begins = (more WhichWords).front;
      all = has.all;
      text = has.text;
      is = has.is;
      new = has.new;
    }
    cause_of books file done i places p q b are o number since on back kept more (ArchiveFull end need) damaged has = (
      has.full.past _ o.about_is,
      told_both (is_some (state_of before).disk.seen)
          (λ ends needs. record {
            place = has.place;
            there = λ sorted. subst (λ l. Contains l has.place) (are sorted) has.there;
            front = journal_seen (seen q);
            between = (
              subst (λ l. IsPrefix l (journal_seen (seen q))) (ap journal_seen o.seen_is ∙ list_before before types_reader words_reader t u) (seen_front (seen p) (seen q) since),
              subst (IsPrefix (journal_seen (seen q))) (list_now before types_reader words_reader t u store ∙ ap₂ (λ (x : D) n. journal_in (d.state x).seen n) (sym back.disk) (sym back.count)) (seen_front (seen q) (list_of d.state store) on),
            );
            ends = ends;
            types = noted has.types;
            words = noted has.words;
            has_types = prefix_trans (noted has.types) (seen (pass_in b.types)) (book_of books WhichTypes).texts has.types_on (more WhichTypes).front;
            has_words = prefix_trans (noted has.words) (seen (pass_in b.words)) (book_of books WhichWords).texts has.words_on (more WhichWords).front;
            segment = segment_of has.draft;
            numbers = has.draft.words;
            file_is = has.file ∙ number;
            next = has.next;
            at = has.at;
            marks = has.marks;
            rows = has.rows;
            rows_are = has.rows_are;
            messages = has.messages;
            source = has.source;
            canonical = all_canonical view.version has.draft.columns.rows has.before.types has.before.words (noted has.types) (noted has.words) has.messages has.full.types_on has.full.words_on has.canonical;
            numbers_are = has.numbers ∙ ap sorted_set (same_numbers view.version has.draft.columns.rows has.before.types has.before.words (noted has.types) has.messages has.full.types_on has.canonical);
            needs = needs;
          }) (has.full.ends _ o.about_is) (has.full.needs _ o.about_is),
    )
    cause_of books file done i places p q b are o number since on back kept more (FirstFault was now) damaged has = let marked = prefix_trans _ (seen q) (list_of d.state store) has.mark.1 on in (
      has.fault.opened _ o.about_is,
      subst (λ n. Rose n (state_of after).disk.faults) (sym (has.fault.opened _ o.about_is))
          (rose_by before types_reader words_reader t u after store kept (ap (λ (x : StoreFixed D). x.opened) h.fixed) (sym back.disk) now has.mark.0 marked),
      count_by before types_reader words_reader t u after store kept (sym back.disk) now has.mark.0 marked,
    )
    cause_of books file done i places p q b are o number since on back kept more SecondFault damaged has = tt
    cause_of books file done i places p q b are o number since on back kept more SecondDamaged damaged has = damaged refl
    cause_of books file done i places p q b are o number since on back kept more OutOfMemory damaged has = tt

    why_stopped : (books : Books) → w.first ≡ first → w.stop ≡ None → IsJournalOf store after → Kept (state_by d.state store)
        → ((book : Which) → IsMore (book_of (books_by (pass_in (passes_of w').types) (pass_in (passes_of w').words)) book) (book_of books book))
        → (why : Stopped) → w'.stop ≡ Some why → HasStopped (λ book count. WasFull (Contains (old_texts view book)) count (book_of books book)) (WereKnown books) view first js' before after why
    why_stopped books same_first none back kept more why some = record {
      place = s.place;
      file = s.done.job;
      is = s.done.job_is;
      file_is = s.file ∙ sym moved.came.same_file;
      not_done = not_done;
      cause = subst (λ n. HasStopCause (λ book count. WasFull (Contains (old_texts view book)) count (book_of books book)) (WereKnown books) view first n s.done.job.messages before after why.cause) (sym moved.came.same_file) cause;
    }
      where
        s : StoppedAt why
        s = stopped_at none why some

        moved : HasMoved types words version d.state state_second s.done.before s.job s.p s.done.after s.done.job s.done.keeper
        moved = s.done.did_it.moved s.ran

        stop : IsStopFor types words version d.state state_second s.done.before s.job s.p s.done.after s.done.job s.done.keeper moved.places why
        stop = moved.stopped why s.stopped

        same : view_of types words version state_second s.done.before ≡ view
        same = view_same types words version state_second s.done.front s.done.front' w s.done.before s.went

        are : IsNonDecreasingBy file_at view.segments → moved.places ≡ filter (is_of (s.job.file - first)) view.segments
        are = subst (λ (n : ℕ). IsNonDecreasingBy file_at view.segments → moved.places ≡ filter (is_of (s.job.file - n)) view.segments) (s.went.first_is ∙ same_first)
            (subst (λ (v : SecondView). IsNonDecreasingBy file_at v.segments → moved.places ≡ filter (is_of (s.job.file - s.done.before.first)) v.segments) same moved.are)

        came : CameOver d.state view.version view.texts moved.places view.told (is_none s.done.after.stop) s.p s.done.keeper s.job s.done.job
        came = subst (λ (v : SecondView). CameOver d.state v.version v.texts moved.places v.told (is_none s.done.after.stop) s.p s.done.keeper s.job s.done.job) same moved.came

        not_done : (all : SoFar) → HasRun view (s.done.job.file - first) all → IsNotDone (places_for view (s.done.job.file - first)) s.done.job
        not_done all later =
            let run : HasRun view (s.job.file - first) all = subst (λ n. HasRun view (n - first) all) came.same_file later in
            let here = came.not_done (ap is_none s.stopped) run.bytes all run.told_is (subst (λ l. HoldRun view.version view.texts run.bytes l nothing_so_far all) (sym (are run.sorted)) run.run) in
            subst (λ n. IsNotDone (places_for view (n - first)) s.done.job) (sym came.same_file) (subst (λ l. IsNotDone l s.done.job) (are run.sorted) here)

        NoRun : SecondView → Type 0
        NoRun v = (bytes : List ℕ) (all : SoFar) → v.told ≡ Some bytes → All IsFairType v.texts.types → All IsFairWord v.texts.words → ¬ HoldRun v.version v.texts bytes moved.places nothing_so_far all

        damaged : why.cause ≡ SecondDamaged → All IsFairType view.texts.types → All IsFairWord view.texts.words → (all : SoFar) → ¬ HasRun view (s.job.file - first) all
        damaged is fair_types fair_words all run = subst NoRun same (stop.damaged is) run.bytes all run.told_is fair_types fair_words
            (subst (λ l. HoldRun view.version view.texts run.bytes l nothing_so_far all) (sym (are run.sorted)) run.run)

        more_after : (book : Which) → IsMore (book_of (books_by (pass_in (passes_of s.done.after).types) (pass_in (passes_of s.done.after).words)) book) (book_of books book)
        more_after book = more_then _ _ (book_of books book)
            (books_on (pass_in (passes_of s.done.after).types) (pass_in (passes_of w').types) (pass_in (passes_of s.done.after).words) (pass_in (passes_of w').words) s.goes.adds.types.goes s.goes.adds.words.goes book) (more book)

        cause : HasStopCause (λ book count. WasFull (Contains (old_texts view book)) count (book_of books book)) (WereKnown books) view first s.job.file s.done.job.messages before after why.cause
        cause = cause_of books s.job.file s.done.job.messages s.place moved.places s.p s.done.keeper (passes_of s.done.after) are (h.opened s.place s.p s.p_is) ((h.opened s.place s.p s.p_is).number ∙ sym (begin.new s.place s.job s.is).file_is) moved.came.added.seen_on (h.seen_on s.place s.done.keeper s.done.keeper_is) back kept more_after why.cause damaged
            (subst (λ (v : SecondView). HasMoveCause d.state v.version v.texts moved.places v.told s.done.job.messages s.p s.done.keeper (books_of (passes_of s.done.after)) why.cause) same stop.cause)

    -- what was reached of a piece of the files, up to the last of it, was reached of them
    further : (bf fs bh : List Merged) (done end : ℕ) → js' ≡ bf ++ (fs ++ bh) → length bf + length fs ≤ end + 1 → (place : SegmentPlace)
        → IsReachedOf view.version view.texts view.told view.segments first done fs place → IsReachedOf view.version view.texts view.told view.segments first end js' place
    further bf fs bh done end cut short place r = let within = slice_get_within fs r.number r.file r.is in record {
      number = length bf + r.number;
      file = r.file;
      is = ap (λ l. slice_get l (length bf + r.number)) cut ∙ (at_right bf (fs ++ bh) r.number ∙ (in_left fs bh r.number within ∙ r.is));
      upto = omega (arith, within, short);
      there = r.there;
      reached = r.reached;
    }

    -- what rows need that were reached up to the file that stopped it is all that was named
    named : w.first ≡ first → w.stop ≡ None → (o : Option Stopped) → w'.stop ≡ o → PassesAdd (needed_of view first (done_of first (length js') o) js') (passes_of w) (passes_of w')
    named same_first none None is = subst (λ n. PassesAdd (needed_of view n (length js') js') (passes_of w) (passes_of w')) same_first h.moved.went.adds
    named same_first none (Some why) is = passes_then here (passes_of w) (passes_of s.done.before) (passes_of w') in_front
        (subst (PassesAdd here (passes_of s.done.before)) (sym (s.goes.passes_are (λ no. absurd (cc (no, s.stopped))))) this)
      where
        s : StoppedAt why
        s = stopped_at none why is

        here : Which → List ℕ → Type 0
        here = needed_of view first (why.file - first) js'

        last : why.file - first ≡ s.place
        last = let a = (begin.new s.place s.job s.is).file_is in let b = s.file in omega (arith, a, b)

        in_front : PassesAdd here (passes_of w) (passes_of s.done.before)
        in_front = passes_wider (needed_of view first (length s.done.front') s.done.front') here
            (λ book text (place, r, is). (
              place,
              further s.done.of_piece.before' s.done.front' (s.done.job ∷ (s.done.rest' ++ s.done.of_piece.behind')) (length s.done.front') (why.file - first) s.done.of_piece.cut'
                  (let a = s.done.of_piece.even in let b = s.done.of_piece.same in let c = s.done.of_piece.place in omega (arith, a, b, c, last)) place r,
              is,
            )) (passes_of w) (passes_of s.done.before)
            (subst (λ n. PassesAdd (needed_of view n (length s.done.front') s.done.front') (passes_of w) (passes_of s.done.before)) same_first s.went.adds)

        this : PassesAdd here (passes_of s.done.before) (passes_of s.done.after)
        this = passes_wider (needed_of view first 1 (s.done.job ∷ [])) here
            (λ book text (place, r, is). (
              place,
              further (s.done.of_piece.before' ++ s.done.front') (s.done.job ∷ []) (s.done.rest' ++ s.done.of_piece.behind') 1 (why.file - first)
                  (s.done.of_piece.cut' ∙ sym (append_assoc s.done.of_piece.before' s.done.front' (s.done.job ∷ (s.done.rest' ++ s.done.of_piece.behind'))))
                  (let a = s.done.of_piece.even in let b = s.done.of_piece.same in let c = s.done.of_piece.place in omega (arith, length-append s.done.of_piece.before' s.done.front', a, b, c, last)) place r,
              is,
            )) (passes_of s.done.before) (passes_of s.done.after)
            (subst (λ n. PassesAdd (needed_of view n 1 (s.done.job ∷ [])) (passes_of s.done.before) (passes_of s.done.after)) (s.went.first_is ∙ same_first)
            (subst (λ v. PassesAdd (needed_of v s.done.before.first 1 (s.done.job ∷ [])) (passes_of s.done.before) (passes_of s.done.after))
            (view_same types words version state_second s.done.front s.done.front' w s.done.before s.went) (s.done.did_it.moved s.ran).adds))

  module _ (before after : Journal D d) (types_reader words_reader : BookPass) (t u : ℕ) (store : StoreView D) where
    pub named_by : (o : StoreView D) (f first : ℕ) (w w' : Merger M E N H) (js js' : List Merged) → o ≡ opened before types_reader words_reader t u → f ≡ first → w.first ≡ first → w.stop ≡ None → MayBegin first (version w.second.names.now) before js
        → HasMovedOver types words version d.state state_second f w w' js js' o store
        → PassesAdd (needed_of (view_of types words version state_second w) first (done_of first (length js') w'.stop) js') (passes_of w) (passes_of w')
    named_by o f first w w' js js' is same same_first none begin h = named before after types_reader words_reader t u store first w w' js js' begin
        (subst (λ (n : ℕ). HasMovedOver types words version d.state state_second n w w' js js' (opened before types_reader words_reader t u) store) same
        (subst (λ (x : StoreView D). HasMovedOver types words version d.state state_second f w w' js js' x store) is h)) same_first none w'.stop refl

    pub why_by : (o : StoreView D) (f first : ℕ) (w w' : Merger M E N H) (js js' : List Merged) (books : Books) → o ≡ opened before types_reader words_reader t u → f ≡ first → w.first ≡ first → w.stop ≡ None → MayBegin first (version w.second.names.now) before js
        → HasMovedOver types words version d.state state_second f w w' js js' o store → IsJournalOf store after → Kept (state_by d.state store)
        → ((book : Which) → IsMore (book_of (books_by (pass_in (passes_of w').types) (pass_in (passes_of w').words)) book) (book_of books book))
        → (why : Stopped) → w'.stop ≡ Some why
        → HasStopped (λ book count. WasFull (Contains (old_texts (view_of types words version state_second w) book)) count (book_of books book)) (WereKnown books) (view_of types words version state_second w) first js' before after why
    why_by o f first w w' js js' books is same same_first none begin h = why_stopped before after types_reader words_reader t u store first w w' js js' begin
        (subst (λ (n : ℕ). HasMovedOver types words version d.state state_second n w w' js js' (opened before types_reader words_reader t u) store) same
        (subst (λ (x : StoreView D). HasMovedOver types words version d.state state_second f w w' js js' x store) is h)) books same_first none

    pub fault_by : (o : StoreView D) (f first : ℕ) (w w' : Merger M E N H) (js js' : List Merged) → o ≡ opened before types_reader words_reader t u → f ≡ first → w.stop ≡ None → MayBegin first (version w.second.names.now) before js
        → HasMovedOver types words version d.state state_second f w w' js js' o store
        → (why : Stopped) → w'.stop ≡ Some why → why.cause ≡ SecondFault → Rose (state_second w.second.disk.now).faults (state_second w'.second.disk.now).faults
    fault_by o f first w w' js js' is same none begin h = fault_of before after types_reader words_reader t u store first w w' js js' begin
        (subst (λ (n : ℕ). HasMovedOver types words version d.state state_second n w w' js js' (opened before types_reader words_reader t u) store) same
        (subst (λ (x : StoreView D). HasMovedOver types words version d.state state_second f w w' js js' x store) is h)) none

  module _ (before : Journal D d) (types_reader words_reader : BookPass) (t u : ℕ) where
    -- each file may be moved
    may_move : (first : ℕ) (w : Merger M E N H) (js : List Merged) → w.first ≡ first → MayBegin first (version w.second.names.now) before js
        → (lock_of (pass_in (passes_of w).types) ≡ lock_of types_reader) × (lock_of (pass_in (passes_of w).words) ≡ lock_of words_reader) → MayMoveAt types words version d.state first (opened_over before types_reader words_reader t u) w js
    may_move first w js same_first begin locks ks even passes n i v job k worker at pass = subst (λ x. MayMoveFile types words version d.state x job k) (one_is w v n worker) (record {
      above = let file = new.file_is in omega (arith, same_first, file);
      new = record {
        number = new.file_is ∙ sym o.number;
        messages_none = new.messages_none;
        not_whole = new.not_whole;
        so_far = λ a is. subst (λ (x : About (StoreFixed D)). IfTold (is_some (d.state x.fixed.opened).seen) (Holds x.fixed.header (journal_seen (seen k)) (number_of k) [] false false)) (same a is)
            (subst (λ es. IfTold (is_some (d.state before.disk.now).seen) (Holds before.header es (number_of k) [] false false)) (sym (ap journal_seen o.seen_is ∙ seen_list (d.state before.disk.now).seen before.count None))
            (subst (λ (x : ℕ). IfTold (is_some (d.state before.disk.now).seen) (Holds before.header (told_entries (state_of before)) x [] false false)) (new.file_is ∙ sym o.number) new.empty));
      };
      ready = (passes i k pass).1;
      opening = λ a is. let start = ap (λ (x : About (StoreFixed D)). x.start) (same a is) in let long = ap length o.seen_is in omega (arith, start, long);
      types_lock = λ a is. locks.0 ∙ ap (λ (x : About (StoreFixed D)). x.fixed.types) (same a is);
      words_lock = λ a is. locks.1 ∙ ap (λ (x : About (StoreFixed D)). x.fixed.words) (same a is);
      version_is = λ a is. begin.version_is ∙ ap (λ (x : About (StoreFixed D)). x.fixed.header.version) (same a is);
    })
      where
        o : IsPassOf d.state first (opened_over before types_reader words_reader t u) i k
        o = (passes i k pass).0

        new : IsNewIn (state_of before) (first + i) job
        new = begin.new i job at

        same : (a : About (StoreFixed D)) → about k ≡ Some a → (let x : About (StoreFixed D) = record { first = first; start = length (list_of d.state (opened_over before types_reader words_reader t u)); fixed = fixed_of (opened_over before types_reader words_reader t u) } in x) ≡ a
        same a is = let was = o.about_is in cc (was, is)

    pub may_move_by : (o : StoreView D) (f first : ℕ) (w : Merger M E N H) (js : List Merged) → o ≡ opened_over before types_reader words_reader t u → f ≡ first → w.first ≡ first → MayBegin first (version w.second.names.now) before js
        → (lock_of (pass_in (passes_of w).types) ≡ lock_of types_reader) × (lock_of (pass_in (passes_of w).words) ≡ lock_of words_reader) → MayMoveAt types words version d.state f o w js
    may_move_by o f first w js is same same_first begin locks = subst (λ (n : ℕ). MayMoveAt types words version d.state n o w js) (sym same)
        (subst (λ (x : StoreView D). MayMoveAt types words version d.state first x w js) (sym is) (may_move first w js same_first begin locks))
