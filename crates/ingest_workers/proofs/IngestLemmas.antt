-- What an ingest leaves, from what its workers did over the store.
use Rattle.std.proofs.Common.{◌≡◌, ℕ, zero, suc, ◌+◌, ◌-◌, ◌^◌, ◌<◌, ◌≤◌, Bool, false, List, [], ◌∷◌, ◌++◌, length, map, drop, take, sym, refl, ap, ap₂, ◌∙◌, subst, ⊎_elim, inl, inr, arith, Option, None, Some, is_some, slice_get, All, append-nil, append_assoc}
use Rattle.std.specs.List.{filter_map, cons_option}
use Rattle.std.proofs.lemmas.Option.{slice_get_within, slice_get-get_or}
use Rattle.std.proofs.lemmas.Bool.{cases_lt}
use mathlib.Core.List.{IsPrefix}
use Rattle.log_seams.specs.declared.disk.Disk.{Ghosts as DiskGhosts}
use Rattle.log_seams.specs.Disk.{DiskState}
use Rattle.log_seams.specs.Outside.{Rose}
use Rattle.record_format.specs.declared.header.Header.{Header}
use Rattle.record_format.specs.Header.{IsHeader}
use Rattle.archive_meaning.specs.Stands.{IsLegal}
use Rattle.turn_lock.specs.declared.board.About.{About}
use Rattle.turn_lock.specs.declared.grows.Grows.{Ghosts}
use Rattle.turn_lock.specs.Words.{lock_of, made_by, seen, own_list, about, number_of, IsReady, IsFreshOf, IsStillBy}
use Rattle.ingest_fork.specs.Passes.{Fresh}
use Rattle.ingest_fork.specs.Picked.{entries_in, AddedByOne}
use Rattle.ingest_fork.specs.Works.{Done}
use Rattle.ingest_fork.proofs.PlaceLemmas.{at_right, there_is}
use Rattle.dict_core.specs.Books.{BookState}
use Rattle.dict_core.specs.declared.grows.TheConstants.{WORDS_FIRST}
use Rattle.dict_lock.specs.Shared.{BookPass}
use Rattle.disk_journal.specs.declared.journal.Journal.{Journal}
use Rattle.disk_journal.specs.Journal.{state_of}
use Rattle.disk_journal.specs.State.{JournalState}
use Rattle.archive_meaning.specs.declared.entry.JournalEntry.{JournalEntry}
use Rattle.archive_meaning.specs.declared.entry.JournalEntry.TheVariants.{Files, Types, Words, Segment}
use Rattle.disk_seal.specs.declared.entry.StoreEntry.{StoreEntry}
use Rattle.disk_seal.specs.declared.entry.StoreEntry.TheVariants.{Entry, Blank, Stopped}
use Rattle.disk_seal.specs.declared.fixed.StoreFixed.{StoreFixed}
use Rattle.disk_seal.specs.Told.{IfTold, journal_in, recorded, blanks, mark, IsMark}
use Rattle.disk_seal.specs.View.{StoreView, StoreState, journal_state, state_by, journal_of, Kept, KnowsBook}
use Rattle.disk_seal.specs.Opening.{MayOpen}
use Rattle.disk_seal.specs.Fixed.{fixed_of, KeeperPass}
use Rattle.disk_seal.specs.May.{MayAdd}
use Rattle.disk_seal.specs.Draft.{journal_seen}
use Rattle.disk_seal.proofs.MarkLemmas.{stopped_by}
use Rattle.disk_seal.proofs.ToldLemmas.{told_map}
use Rattle.ingest_workers.specs.declared.job.Job.{Job}
use Rattle.ingest_workers.specs.declared.worker.Plan.{Plan}
use Rattle.ingest_workers.specs.declared.worker.Worker.{Worker}
use Rattle.ingest_workers.specs.JobDone.{IsDone}
use Rattle.ingest_workers.specs.Journal.{Holds}
use Rattle.ingest_workers.specs.Worker.{DidJob, DidOnly, IsIdle, books_in, types_of as types_pass, words_of as words_pass}
use Rattle.ingest_workers.specs.StartedWorkers.{BookMaker, HavePlan, HasEnrolled}
use Rattle.ingest_meaning.specs.Parts.{in_file}
use Rattle.ingest_workers.specs.Locked.{file_segment, list_of, list_behind, IsPassOf, IsStillStore, MayDoAt, HasWorked}
use Rattle.ingest_workers.specs.Ingested.{first_file, told_entries, AreNew, IsOfJobs, OpensBook, opened_over, IsLeftBy, IsAsItWas, IsFileOf, HadNoRoomOver, HasStored, HasItsCause, HaveCausesIn, grounds_over}
use Rattle.ingest_workers.specs.NoRoom.{FoundNoRoom, IsBetween, WereKnown}
use Rattle.ingest_meaning.specs.Room.{HadNoRoom}
use Rattle.ingest_workers.proofs.NoRoomLemmas.{no_room_on}
use Rattle.row_codec.specs.declared.namer.Which.{Which}
use Rattle.row_codec.specs.Naming.{Known}
use Rattle.turn_lock.proofs.FrontLemmas.{prefix_trans}
use Rattle.ingest_workers.specs.Causes.{grounds_of, log_of}
use Rattle.ingest_meaning.specs.Given.{AreFirstOf, IsNextOf}
use Rattle.ingest_workers.specs.Full.{Books, IsMore, WasFullBehind, book_of}
use Rattle.ingest_workers.proofs.FullLemmas.{books_on, full_wider}
use Rattle.ingest_workers.proofs.CauseLemmas.{cause_on}
use Rattle.ingest_workers.specs.ClosedStore.{IsJournalOf}
use Rattle.ingest_workers.proofs.FileLemmas.{file_of}
use Rattle.ingest_workers.proofs.JournalLemmas.{seen_front, seen_joined}
use Rattle.ingest_workers.proofs.CrewLemmas.{map_at}
use Rattle.ingest_workers.proofs.LockLemmas.{did_at}

-- what is drawn behind a front is the rest
drop_front : {X : Type 0} (xs ys : List X) → drop (length xs) (xs ++ ys) ≡ ys
drop_front [] ys = refl
drop_front (x ∷ xs) ys = drop_front xs ys

all_from : {X : Type 0} (P : X → Type 0) (xs : List X) → ((i : ℕ) (x : X) → slice_get xs i ≡ Some x → P x) → All P xs
all_from P xs f i d lt = f i _ (slice_get-get_or xs i d lt)

-- the entries of a store's list
seen_blanks : (n : ℕ) → journal_seen (blanks n) ≡ []
seen_blanks zero = refl
seen_blanks (suc n) = seen_blanks n

seen_entries : (es : List JournalEntry) → journal_seen (map Entry es) ≡ es
seen_entries [] = refl
seen_entries (e ∷ es) = ap (λ l. e ∷ l) (seen_entries es)

seen_mark : (o : Option ℕ) → journal_seen (mark o) ≡ []
seen_mark None = refl
seen_mark (Some n) = refl

seen_recorded : (told : Option (List ℕ)) (n : ℕ) → journal_seen (recorded told n) ≡ journal_in told n
seen_recorded None n = seen_blanks n
seen_recorded (Some bytes) n = seen_entries (journal_in (Some bytes) n)

pub seen_list : (told : Option (List ℕ)) (n : ℕ) (o : Option ℕ) → journal_seen (recorded told n ++ mark o) ≡ journal_in told n
seen_list told n o = seen_joined (recorded told n) (mark o) ∙ (ap (λ l. journal_seen (recorded told n) ++ l) (seen_mark o) ∙ (append-nil (journal_seen (recorded told n)) ∙ seen_recorded told n))

-- what is picked of a store's list is picked of its entries
picked_seen : (n : ℕ) (es : List StoreEntry) → filter_map (file_segment n) es ≡ filter_map (in_file n) (journal_seen es)
picked_seen n [] = refl
picked_seen n (Entry e ∷ es) = ap (cons_option (in_file n e)) (picked_seen n es)
picked_seen n (Blank ∷ es) = picked_seen n es
picked_seen n (Stopped now ∷ es) = picked_seen n es

-- a store's entry is told of by what holds of the journal's entry in it
abbrev OfEntry : (JournalEntry → Type 0) → StoreEntry → Type 0
OfEntry P (Entry e) = P e
OfEntry P Blank = Unit {0}
OfEntry P (Stopped now) = Unit {0}

of_mark : (P : JournalEntry → Type 0) (x : StoreEntry) → IsMark x → OfEntry P x
of_mark P (Entry e) is = absurd is
of_mark P Blank is = tt
of_mark P (Stopped now) is = tt

-- an entry that stands in the journal stands in the list
seen_from : (P : JournalEntry → Type 0) (es : List StoreEntry) → ((i : ℕ) (x : StoreEntry) → slice_get es i ≡ Some x → OfEntry P x) → (i : ℕ) (e : JournalEntry) → slice_get (journal_seen es) i ≡ Some e → P e
seen_from P [] f i e at = absurd (cc (at))
seen_from P (Entry x ∷ es) f zero e at = let same : x ≡ e = cc (at) in subst P same (f 0 (Entry x) refl)
seen_from P (Entry x ∷ es) f (suc i) e at = seen_from P es (λ n y is. f (suc n) y is) i e at
seen_from P (Blank ∷ es) f i e at = seen_from P es (λ n y is. f (suc n) y is) i e at
seen_from P (Stopped now ∷ es) f i e at = seen_from P es (λ n y is. f (suc n) y is) i e at

module _ {S : Type 0} where
  -- an entry that a pass of one of the jobs may add
  of_jobs : (js : List (Job S)) (i : ℕ) (job : Job S) (n : ℕ) (x : StoreEntry) → slice_get js i ≡ Some job → job.file ≡ n → MayAdd n x → OfEntry (IsOfJobs js) x
  of_jobs js i job n (Entry (Files names)) at file may = may
  of_jobs js i job n (Entry (Types first texts)) at file may = tt
  of_jobs js i job n (Entry (Words first texts)) at file may = tt
  of_jobs js i job n (Entry (Segment s)) at file may = (i, job, at, file ∙ sym may)
  of_jobs js i job n Blank at file may = tt
  of_jobs js i job n (Stopped now) at file may = tt

-- a store is stopped only where the count of faults rose
not_stopped : (s : StoreState) → Kept s → ¬ Rose s.opened.faults s.disk.faults → s.stopped ≡ None
not_stopped s kept steady = by_mark s.stopped (λ n is. kept.fault n is)
  where
    by_mark : (o : Option ℕ) → ((n : ℕ) → o ≡ Some n → Rose s.opened.faults n × (n ≡ s.disk.faults)) → o ≡ None
    by_mark None f = refl
    by_mark (Some n) f = let r = f n refl in absurd (steady (subst (λ (m : ℕ). Rose s.opened.faults m) r.1 r.0))

-- a store that runs may be opened again
opens_again : (s : StoreState) → Kept s → s.stopped ≡ None → MayOpen (journal_state s)
opens_again s kept runs = let going = kept.going runs in record {
  ends = record { closed = kept.closed; ends = going.1 };
  header = kept.header;
  spelled = kept.spelled;
  legal = subst (λ b. IfTold b (IsLegal s.header (journal_of s))) (sym kept.tells_still)
      (subst (λ es. IfTold (is_some s.opened.seen) (IsLegal s.header es)) (ap (λ l. journal_of s ++ l) going.0 ∙ append-nil (journal_of s)) kept.legal);
}

opens_as : {D : Type 0} {d : DiskGhosts D} (after : Journal D d) (store : StoreView D) → IsJournalOf store after → MayOpen (journal_state (state_by d.state store)) → MayOpen (state_of after)
opens_as {D} {d} after store back may =
    subst (λ b. At after.disk.ghost_name after.disk.now after.header after.place after.count b) (sym back.closed)
    (subst (λ c. At after.disk.ghost_name after.disk.now after.header after.place c store.closed) (sym back.count)
    (subst (λ p. At after.disk.ghost_name after.disk.now after.header p store.count store.closed) (sym back.place)
    (subst (λ h. At after.disk.ghost_name after.disk.now h store.place store.count store.closed) (sym back.header)
    (subst (λ x. At after.disk.ghost_name x store.header store.place store.count store.closed) (sym back.disk)
    (subst (λ n. At n store.disk store.header store.place store.count store.closed) (sym back.name) may)))))
  where
    At : ℕ → D → Header → ℕ → ℕ → Bool → Type 0
    At n x h p c b = MayOpen (record { name = n; disk = d.state x; header = h; place = p; count = c; closed = b })

more_then : (a b c : Known) → IsMore a b → IsMore b c → IsMore a c
more_then a b c one two = record { front = prefix_trans a.texts b.texts c.texts one.front two.front; limit = two.limit ∙ one.limit }

-- what a worker knew of the books before it did more jobs is known at the end
pub known_on : {S : Type 0} (left : S → Option (List ℕ)) (js js' : List (Job S)) (a v : Worker) (books : Books) → DidOnly left js js' a v → ((book : Which) → IsMore (book_of (books_in v) book) (book_of books book))
    → (book : Which) → IsMore (book_of (books_in a) book) (book_of books book)
known_on left js js' a v books goes more book = more_then (book_of (books_in a) book) (book_of (books_in v) book) (book_of books book)
    (books_on (types_pass a) (types_pass v) (words_pass a) (words_pass v) goes.names.types.goes goes.names.words.goes book) (more book)

-- a job was done by the plan of all workers
pub done_by : {S D : Type 0} (state : D → DiskState) (left name : S → Option (List ℕ)) (faults : S → ℕ) (plan : Plan) (ws ws' : List Worker) (js js' : List (Job S)) (ks' : List (KeeperPass D)) (i : ℕ) (j : Job S) (k : KeeperPass D)
    (f : Done (DidOnly left) (DidJob state left name faults) ws ws' js js' ks' i j k) → HavePlan plan ws → IsDone state left name faults plan.rows plan.version (books_in f.after) j k f.job f.keeper
done_by state left name faults plan ws ws' js js' ks' i j k f planned = subst (λ (x : Plan). IsDone state left name faults x.rows x.version (books_in f.after) j k f.job f.keeper)
    (f.came.plan ∙ planned f.place f.first f.first_is) f.did_it.done

module _ {S D : Type 0} {d : DiskGhosts D} (left name : S → Option (List ℕ)) (faults : S → ℕ) where
  module _ (before after : Journal D d) (types words : BookPass) (t w : ℕ) (store : StoreView D) where
    abbrev opened : StoreView D
    opened = opened_over before types words t w

    pub left_by : fixed_of store ≡ fixed_of opened → IsJournalOf store after → Kept (state_by d.state store) → IsLeftBy store before after
    left_by fixed back kept = record {
      name = back.name ∙ ap (λ (f : StoreFixed D). f.name) fixed;
      opened = ap (λ (f : StoreFixed D). f.opened) fixed;
      disk = sym back.disk;
      header = ap (λ (f : StoreFixed D). f.header) fixed;
      first = ap (λ (f : StoreFixed D). f.first) fixed;
      header_now = back.header ∙ ap (λ (f : StoreFixed D). f.header) fixed;
      place = back.place;
      count = back.count;
      closed = back.closed;
      kept = kept;
      again = λ steady. let risen : Rose (d.state store.opened).faults (d.state store.disk).faults → ⊥ = λ r. steady (subst (λ (x : D). Rose (d.state before.disk.now).faults (d.state x).faults) (sym back.disk)
          (subst (λ (x : D). Rose (d.state x).faults (d.state store.disk).faults) (ap (λ (f : StoreFixed D). f.opened) fixed) r)) in
          let runs = not_stopped (state_by d.state store) kept risen in (runs, opens_as after store back (opens_again (state_by d.state store) kept runs));
    }

    list_before : journal_seen (list_of d.state opened) ≡ told_entries (state_of before)
    list_before = seen_list (d.state before.disk.now).seen before.count None

    list_now : journal_seen (list_of d.state store) ≡ journal_of (state_by d.state store)
    list_now = seen_list (d.state store.disk).seen store.count store.stopped

    pub ingested : (first : ℕ) (plan : Plan) (ws ws' : List Worker) (js js' : List (Job S)) → AreNew first (state_of before) js → HavePlan plan ws
        → HasWorked d.state left name faults first ws ws' js js' opened store → IsJournalOf store after → Kept (state_by d.state store)
        → HasStored left plan js js' before after store
    ingested first plan ws ws' js js' new planned h back kept = record {
      left_by = left_by h.fixed back kept;
      fresh = journal_seen (list_behind d.state opened store);
      grown = sym list_now ∙ (ap journal_seen (sym h.front.1) ∙ (seen_joined (list_of d.state opened) h.front.0
          ∙ (ap (λ l. l ++ journal_seen h.front.0) list_before ∙ ap (λ l. told_entries (state_of before) ++ journal_seen l) (sym behind))));
      counted = h.done.jobs;
      files = file;
      others = all_from (IsOfJobs js) (journal_seen (list_behind d.state opened store)) (seen_from (IsOfJobs js) (list_behind d.state opened store) each);
    }
      where
        behind : list_behind d.state opened store ≡ h.front.0
        behind = ap (drop (length (list_of d.state opened))) (sym h.front.1) ∙ drop_front (list_of d.state opened) h.front.0

        number_at : (i : ℕ) (job : Job S) (q : KeeperPass D) → slice_get js i ≡ Some job → slice_get h.passes' i ≡ Some q → number_of q ≡ job.file
        number_at i job q at is = let r = did_at d.state left name faults ws ws' js js' h.passes h.passes' h.counted h.done i q is in
            r.2.added.still.number ∙ ((h.opened i r.0 r.1).number ∙ sym (new i job at).file_is)

        each : (k : ℕ) (x : StoreEntry) → slice_get (list_behind d.state opened store) k ≡ Some x → OfEntry (IsOfJobs js) x
        each k x at = let here : slice_get (list_of d.state store) (length (list_of d.state opened) + k) ≡ Some x
            = ap (λ l. slice_get l (length (list_of d.state opened) + k)) (sym h.front.1) ∙ (at_right (list_of d.state opened) h.front.0 k ∙ (ap (λ l. slice_get l k) (sym behind) ∙ at)) in
            ⊎_elim
            (λ (is_mark : IsMark x). of_mark (IsOfJobs js) x is_mark)
            (λ (a : AddedByOne MayAdd h.passes' (length (list_of d.state opened) + k) x).
            let counts = h.done.keepers in let even = h.counted in let lt = slice_get_within h.passes' a.place a.pass a.is in let job = there_is js a.place (omega arith) in
            of_jobs js a.place job.0 (number_of a.pass) x job.1 (sym (number_at a.place job.0 a.pass job.1 a.is)) a.allowed)
            (h.added (length (list_of d.state opened) + k) x (omega arith) here)

        all_now : journal_seen (list_of d.state store) ≡ told_entries (state_of before) ++ journal_seen (list_behind d.state opened store)
        all_now = ap journal_seen (sym h.front.1) ∙ (seen_joined (list_of d.state opened) h.front.0
            ∙ (ap (λ l. l ++ journal_seen h.front.0) list_before ∙ ap (λ l. told_entries (state_of before) ++ journal_seen l) (sym behind)))

        file : (i : ℕ) (job : Job S) → slice_get js i ≡ Some job → (new : Job S) × (slice_get js' i ≡ Some new) × IsFileOf left plan before (journal_seen (list_behind d.state opened store)) job new
        file i job at = let even = h.counted in let lt = slice_get_within js i job at in let p = there_is h.passes i (omega arith) in
            let f = h.done.each i job p.0 at p.1 in let o = h.opened i p.0 p.1 in let n = number_at i job f.keeper at f.keeper_is in
            let done = done_by d.state left name faults plan ws ws' js js' h.passes' i job p.0 f planned in
            let number : number_of p.0 ≡ job.file = o.number ∙ sym (new i job at).file_is in (
              f.job,
              f.job_is,
              file_of left name faults plan before (journal_seen (list_behind d.state opened store)) job f.job p.0 f.keeper (record { first = first; start = length (list_of d.state opened); fixed = fixed_of opened }) (books_in f.after) done number o.about_is refl refl o.own_is
                  (subst (λ (x : ℕ). filter_map (in_file x) (journal_seen (list_behind d.state opened store)) ≡ filter_map (in_file x) (journal_seen (entries_in (own_list f.keeper)))) n
                  (sym (picked_seen (number_of f.keeper) (list_behind d.state opened store)) ∙ (h.files i f.keeper f.keeper_is ∙ picked_seen (number_of f.keeper) (entries_in (own_list f.keeper)))))
                  (subst (λ es. IsPrefix (journal_seen (seen f.keeper)) es) all_now (seen_front (seen f.keeper) (list_of d.state store) (h.seen_on i f.keeper f.keeper_is))),
            )

    -- a list with the mark is of a store that was stopped
    marked : (now : ℕ) (front : List StoreEntry) → IsPrefix (front ++ Stopped now ∷ []) (list_of d.state store) → store.stopped ≡ Some now
    marked now front on = stopped_by (state_by d.state store) front on.0 now (sym (append_assoc front (Stopped now ∷ []) on.0) ∙ on.1)

    -- so the disk's count of faults rose
    pub rose_by : Kept (state_by d.state store) → store.opened ≡ before.disk.now → store.disk ≡ after.disk.now → (now : ℕ) (front : List StoreEntry) → IsPrefix (front ++ Stopped now ∷ []) (list_of d.state store)
        → Rose (state_of before).disk.faults (state_of after).disk.faults
    rose_by kept opened_is disk_is now front on =
        let fault = kept.fault now (marked now front on) in
        subst (λ (x : D). Rose (d.state before.disk.now).faults (d.state x).faults) disk_is
        (subst (λ (x : D). Rose (d.state x).faults (d.state store.disk).faults) opened_is
        (⊎_elim
        (λ (lt : (d.state store.opened).faults < now). let le = fault.1 in let more : Rose (d.state store.opened).faults (d.state store.disk).faults = inl (omega arith) in more)
        (λ (most : 2 ^ 64 - 1 ≤ now). let le = fault.1 in let more : Rose (d.state store.opened).faults (d.state store.disk).faults = inr (omega arith) in more)
        fault.0))

    -- to that of the mark
    count_by : Kept (state_by d.state store) → store.disk ≡ after.disk.now → (now : ℕ) (front : List StoreEntry) → IsPrefix (front ++ Stopped now ∷ []) (list_of d.state store)
        → now ≡ (state_of after).disk.faults
    count_by kept disk_is now front on = (kept.fault now (marked now front on)).1 ∙ ap (λ (x : D). (d.state x).faults) disk_is

    -- the journal afterwards has what a pass has seen
    seen_after : (q : KeeperPass D) → IsPrefix (seen q) (list_of d.state store) → IsJournalOf store after → IsPrefix (journal_seen (seen q)) (told_entries (state_of after))
    seen_after q on back = subst (IsPrefix (journal_seen (seen q))) (list_now ∙ ap₂ (λ (x : D) n. journal_in (d.state x).seen n) (sym back.disk) (sym back.count)) (seen_front (seen q) (list_of d.state store) on)

    -- what had no room, told of the journals
    room_over : (first : ℕ) (plan : Plan) (i file : ℕ) (bytes : Option (List ℕ)) (known books : Books) (p q : KeeperPass D) → IsPassOf d.state first opened i p → number_of p ≡ file → IsPrefix (seen q) (list_of d.state store) → IsJournalOf store after
        → ((book : Which) → IsMore (book_of known book) (book_of books book)) → (sealed : List (List ℕ)) (last last' : List (List ℕ) → Type 0) → ((ms : List (List ℕ)) → last ms → last' ms) → (end need : ℕ)
        → FoundNoRoom d.state plan.rows plan.version known (AreFirstOf plan.version bytes) last p q sealed end need → HadNoRoomOver (WereKnown books) plan file bytes before after last' sealed end need
    room_over first plan i file bytes known books p q o number on back more sealed last last' further end need found = (
      found.0 _ o.about_is,
      told_map (is_some (d.state before.disk.now).seen)
          (λ (room : HadNoRoom before.header plan.rows plan.version (number_of p) (IsBetween (journal_seen (seen p)) (journal_seen (seen q))) (WereKnown known) (AreFirstOf plan.version bytes) last sealed end need).
          subst (λ n. HadNoRoom before.header plan.rows plan.version n (IsBetween (told_entries (state_of before)) (told_entries (state_of after))) (WereKnown books) (AreFirstOf plan.version bytes) last' sealed end need) number
          (no_room_on before.header plan.rows plan.version (number_of p) _ _ (WereKnown known) (WereKnown books) (AreFirstOf plan.version bytes) (AreFirstOf plan.version bytes) last last' sealed end need
          (λ es between. (subst (λ l. IsPrefix l es) (ap journal_seen o.seen_is ∙ list_before) between.0, prefix_trans es (journal_seen (seen q)) (told_entries (state_of after)) between.1 (seen_after q on back)))
          (λ es book texts has. prefix_trans texts (book_of known book).texts (book_of books book).texts has (more book).front) (λ ms first. first) further room)) (found.1 _ o.about_is),
    )

    pub have_causes : (books : Books) (first : ℕ) (plan : Plan) (ws ws' : List Worker) (js js' : List (Job S)) → AreNew first (state_of before) js → HavePlan plan ws
        → ((i : ℕ) (v : Worker) → slice_get ws' i ≡ Some v → (book : Which) → IsMore (book_of (books_in v) book) (book_of books book))
        → HasWorked d.state left name faults first ws ws' js js' opened store → IsJournalOf store after → Kept (state_by d.state store) → HaveCausesIn books left name faults plan before after js js'
    have_causes books first plan ws ws' js js' new planned more h back kept = record { counted = h.done.jobs; each = each }
      where
        full : Option (List ℕ) → List (List ℕ) → Which → ℕ → Type 0
        full = WasFullBehind plan.version books

        each : (i : ℕ) (job : Job S) → slice_get js i ≡ Some job → (new : Job S) × (slice_get js' i ≡ Some new) × HasItsCause full (WereKnown books) left name faults plan before after job new
        each i job at = let even = h.counted in let lt = slice_get_within js i job at in let p = there_is h.passes i (omega arith) in
            let f = h.done.each i job p.0 at p.1 in let o = h.opened i p.0 p.1 in
            let done = done_by d.state left name faults plan ws ws' js js' h.passes' i job p.0 f planned in
            let known = known_on left f.rest f.rest' f.after f.last books f.goes (more f.place f.last f.last_is) in
            let log = log_of left faults done.source.before done.source.after in (
              f.job,
              f.job_is,
              record {
                source = done.source;
                sealed = done.came.covered;
                count = done.came.count;
                first = done.came.first;
                cause = cause_on (grounds_of d.state plan.rows plan.version (books_in f.after) (left done.source.before) p.0 f.keeper) (grounds_over full (WereKnown books) plan job.file (left done.source.before) before after) log plan.version done.came.covered f.job.outcome.cause
                    (λ ms. full_wider plan.version (IsNextOf plan.version (left done.source.before) ms) (IsNextOf plan.version (left done.source.before) ms) (λ m is. is) (books_in f.after) books known)
                    (room_over first plan i job.file (left done.source.before) (books_in f.after) books p.0 f.keeper o (o.number ∙ sym (new i job at).file_is) (h.seen_on i f.keeper f.keeper_is) back known done.came.covered)
                    (λ since now has. let on = prefix_trans _ (seen f.keeper) (list_of d.state store) has.mark.1 (h.seen_on i f.keeper f.keeper_is) in (
                      has.fault.opened _ o.about_is,
                      subst (λ n. Rose n (state_of after).disk.faults) (sym (has.fault.opened _ o.about_is))
                          (rose_by kept (ap (λ (x : StoreFixed D). x.opened) h.fixed) (sym back.disk) now has.mark.0 on),
                      count_by kept (sym back.disk) now has.mark.0 on,
                    ))
                    done.came.caused;
              },
            )

    pub causes_by : (books : Books) (o : StoreView D) (f first : ℕ) (plan : Plan) (ws ws' : List Worker) (js js' : List (Job S)) → o ≡ opened → f ≡ first → AreNew first (state_of before) js → HavePlan plan ws
        → ((i : ℕ) (v : Worker) → slice_get ws' i ≡ Some v → (book : Which) → IsMore (book_of (books_in v) book) (book_of books book))
        → HasWorked d.state left name faults f ws ws' js js' o store → IsJournalOf store after → Kept (state_by d.state store) → HaveCausesIn books left name faults plan before after js js'
    causes_by books o f first plan ws ws' js js' is same new planned more h back kept = have_causes books first plan ws ws' js js' new planned more
        (subst (λ (n : ℕ). HasWorked d.state left name faults n ws ws' js js' opened store) same (subst (λ (x : StoreView D). HasWorked d.state left name faults f ws ws' js js' x store) is h)) back kept

    pub ingested_by : (o : StoreView D) (f first : ℕ) (plan : Plan) (ws ws' : List Worker) (js js' : List (Job S)) → o ≡ opened → f ≡ first → AreNew first (state_of before) js → HavePlan plan ws
        → HasWorked d.state left name faults f ws ws' js js' o store → IsJournalOf store after → Kept (state_by d.state store)
        → HasStored left plan js js' before after store
    ingested_by o f first plan ws ws' js js' is same new planned h back kept = ingested first plan ws ws' js js' new planned
        (subst (λ (n : ℕ). HasWorked d.state left name faults n ws ws' js js' opened store) same (subst (λ (x : StoreView D). HasWorked d.state left name faults f ws ws' js js' x store) is h)) back kept

    -- a list without the mark is of a store that runs
    unmarked : (told : Option (List ℕ)) (n : ℕ) (o : Option ℕ) → recorded told n ++ mark o ≡ list_of d.state opened → o ≡ None
    unmarked told n None is = refl
    unmarked told n (Some x) is = absurd (cc (stopped_by (state_by d.state opened) (recorded told n) [] x is))

    pub stayed : IsStillStore d.state opened store → IsJournalOf store after → Kept (state_by d.state store) → IsAsItWas before after
    stayed still back kept = inr (
      store,
      record {
        left_by = left_by still.fixed back kept;
        running = unmarked (d.state store.disk).seen store.count store.stopped still.entries;
        entries = sym list_now ∙ (ap journal_seen still.entries ∙ list_before);
      },
    )

    pub stayed_by : (o : StoreView D) → o ≡ opened → IsStillStore d.state o store → IsJournalOf store after → Kept (state_by d.state store) → IsAsItWas before after
    stayed_by o is still back kept = stayed (subst (λ (x : StoreView D). IsStillStore d.state x store) is still) back kept

  module _ (before : Journal D d) (types words : BookPass) (t w : ℕ) where
    -- each worker may do each job
    pub may_do : (first : ℕ) (plan : Plan) (ws : List Worker) (js : List (Job S)) → AreNew first (state_of before) js → HavePlan plan ws → 1 ≤ plan.rows → plan.rows ≤ 65536 → plan.version ≡ before.header.version → IsHeader before.header
        → ((n : ℕ) (v : Worker) → slice_get ws n ≡ Some v → (lock_of (types_pass v) ≡ lock_of types) × (lock_of (words_pass v) ≡ lock_of words)) → MayDoAt d.state first (opened_over before types words t w) ws js
    may_do first plan ws js new planned least most version header locks ks even passes n i v job k worker at pass = let r = passes i k pass in let o = r.0 in let at_plan = planned n v worker in let l = locks n v worker in record {
      least = subst (λ (p : Plan). 1 ≤ p.rows) (sym at_plan) least;
      most = subst (λ (p : Plan). p.rows ≤ 65536) (sym at_plan) most;
      version = subst (λ (p : Plan). (1 ≤ p.version) × (p.version ≤ 3)) (sym at_plan) (subst (λ (n : ℕ). (1 ≤ n) × (n ≤ 3)) (sym version) (header.least_version, header.most_version));
      fits = record {
        types = λ a is. l.0 ∙ ap (λ (x : About (StoreFixed D)). x.fixed.types) (same k a o is);
        words = λ a is. l.1 ∙ ap (λ (x : About (StoreFixed D)). x.fixed.words) (same k a o is);
        version = λ a is. ap (λ (p : Plan). p.version) at_plan ∙ (version ∙ ap (λ (x : About (StoreFixed D)). x.fixed.header.version) (same k a o is));
      };
      new = record {
        outcome = (new i job at).outcome;
        file = (new i job at).file_is ∙ sym o.number;
        ready = r.1;
        opening = λ a is. let start = ap (λ (x : About (StoreFixed D)). x.start) (same k a o is) in let long = ap length o.seen_is in omega arith;
        own = o.own_is;
        so_far = λ a is. subst (λ (x : About (StoreFixed D)). IfTold (is_some (d.state x.fixed.opened).seen) (Holds x.fixed.header (journal_seen (seen k)) (number_of k) [] false false)) (same k a o is)
            (subst (λ es. IfTold (is_some (d.state before.disk.now).seen) (Holds before.header es (number_of k) [] false false)) (sym (ap journal_seen o.seen_is ∙ seen_list (d.state before.disk.now).seen before.count None))
            (subst (λ (x : ℕ). IfTold (is_some (d.state before.disk.now).seen) (Holds before.header (told_entries (state_of before)) x [] false false)) ((new i job at).file_is ∙ sym o.number) (new i job at).empty));
      };
    }
      where
        about_opened : About (StoreFixed D)
        about_opened = record { first = first; start = length (list_of d.state (opened_over before types words t w)); fixed = fixed_of (opened_over before types words t w) }

        same : (k : KeeperPass D) (a : About (StoreFixed D)) {i : ℕ} → IsPassOf d.state first (opened_over before types words t w) i k → about k ≡ Some a → about_opened ≡ a
        same k a o is = let was = o.about_is in cc (was, is)

    pub may_do_by : (o : StoreView D) (f first : ℕ) (plan : Plan) (ws : List Worker) (js : List (Job S)) → o ≡ opened_over before types words t w → f ≡ first → AreNew first (state_of before) js → HavePlan plan ws
        → 1 ≤ plan.rows → plan.rows ≤ 65536 → plan.version ≡ before.header.version → IsHeader before.header
        → ((n : ℕ) (v : Worker) → slice_get ws n ≡ Some v → (lock_of (types_pass v) ≡ lock_of types) × (lock_of (words_pass v) ≡ lock_of words)) → MayDoAt d.state f o ws js
    may_do_by o f first plan ws js is same new planned least most version header locks = subst (λ (n : ℕ). MayDoAt d.state n o ws js) (sym same)
        (subst (λ (x : StoreView D). MayDoAt d.state first x ws js) (sym is) (may_do first plan ws js new planned least most version header locks))

-- The files of jobs have 32 bits.
pub few_jobs : {S : Type 0} (j : JournalState) (js : List (Job S)) → AreNew (first_file js) j js → (first_file js < 4294967296) × (length js ≤ 4294967296)
few_jobs {S} j js new = (first js new, ⊎_elim (λ (lt : 4294967296 < length js). absurd (past lt)) (λ (le : length js ≤ 4294967296). le) (cases_lt 4294967296 (length js)))
  where
    first : (js : List (Job S)) → AreNew (first_file js) j js → first_file js < 4294967296
    first [] new = omega arith
    first (x ∷ js) new = (new 0 x refl).small

    past : 4294967296 < length js → ⊥
    past lt = let job = there_is js 4294967296 lt in let is = (new 4294967296 job.0 job.1).file_is in let small = (new 4294967296 job.0 job.1).small in omega arith

-- The passes of the two books.
module _ {G : Ghosts BookState (List ℕ) ℕ} where
  -- the first pass of a book's lock knows what a store has to know of it
  pub knows : (IsFair : List ℕ → Type 0) (first : ℕ) (told : Bool) (limit : ℕ) (texts : List (List ℕ)) (saved : ℕ) (m : BookMaker G) (p : BookPass) → OpensBook first told limit texts saved m → IsFreshOf m p
      → KnowsBook IsFair first limit told p saved texts
  knows IsFair first told limit texts saved m p o f = let counted = o.has.counted in let seen_is : seen p ≡ o.book.texts = f.seen_is ∙ o.opening.seen_is in let long = ap length seen_is in record {
    ready = f.ready;
    known = record { first = first; start = length o.book.texts; fixed = o.book.limit };
    is = f.about_is ∙ o.opening.about_is;
    starts = refl;
    number = f.number _ o.opening.about_is ∙ (let none = o.opening.made in let n : first + made_by m ≡ first = omega arith in n);
    within = told_map told (λ both. both.1) o.has.are;
    from = omega arith;
    low = omega arith;
    own = f.own_is;
    fair = λ i d lt. absurd (none IsFair (seen p) saved i (omega arith) lt);
    front = told_map told (λ both. whole (seen p) saved (omega arith) ∙ (seen_is ∙ both.0)) o.has.are;
  }
    where
      none : (P : List ℕ → Type 0) (xs : List (List ℕ)) (n i : ℕ) → length xs ≤ n → i < length (drop n xs) → ⊥
      none P [] zero i le lt = omega arith
      none P [] (suc n) i le lt = omega arith
      none P (x ∷ xs) zero i le lt = omega arith
      none P (x ∷ xs) (suc n) i le lt = none P xs n i (omega arith) lt

      whole : (xs : List (List ℕ)) (n : ℕ) → length xs ≤ n → take n xs ≡ xs
      whole [] zero le = refl
      whole [] (suc n) le = refl
      whole (x ∷ xs) zero le = absurd (omega arith)
      whole (x ∷ xs) (suc n) le = ap (λ l. x ∷ l) (whole xs n (omega arith))

  -- a later pass is of the same lock, with a number behind the first
  pub later : (first : ℕ) (told : Bool) (limit : ℕ) (texts : List (List ℕ)) (saved : ℕ) (m m1 m2 : BookMaker G) (reader p : BookPass) (ps : List BookPass) (count i : ℕ) → OpensBook first told limit texts saved m
      → IsFreshOf m reader → IsStillBy m m1 → made_by m1 ≡ made_by m + 1 → Fresh m1 m2 ps count → slice_get ps i ≡ Some p
      → (lock_of p ≡ lock_of reader) × (number_of p ≡ first + (1 + i)) × IsReady p
  later first told limit texts saved m m1 m2 reader p ps count i o f still made fresh at = let e = fresh.each i p at in let none = o.opening.made in (
    e.lock ∙ (still.lock ∙ sym f.lock),
    e.number _ (still.about_is ∙ o.opening.about_is) ∙ (let n : first + (made_by m1 + i) ≡ first + (1 + i) = omega arith in n),
    e.ready,
  )

  -- workers that were enrolled after the readers' passes were made are idle, and have passes of the same locks
  pub crew : (told : Bool) (t_limit w_limit : ℕ) (t_texts w_texts : List (List ℕ)) (t_saved w_saved : ℕ) (types t1 t2 words w1 w2 : BookMaker G) (t_reader w_reader : BookPass) (plan : Plan) (vs : List Worker) (count : ℕ)
      → OpensBook 0 told t_limit t_texts t_saved types → OpensBook WORDS_FIRST told w_limit w_texts w_saved words → IsFreshOf types t_reader → IsFreshOf words w_reader
      → IsStillBy types t1 → made_by t1 ≡ made_by types + 1 → IsStillBy words w1 → made_by w1 ≡ made_by words + 1 → HasEnrolled t1 t2 w1 w2 plan vs count → count ≤ 64
      → (n : ℕ) (v : Worker) → slice_get vs n ≡ Some v → IsIdle v × ((lock_of (types_pass v) ≡ lock_of t_reader) × (lock_of (words_pass v) ≡ lock_of w_reader))
  crew told t_limit w_limit t_texts w_texts t_saved w_saved types t1 t2 words w1 w2 t_reader w_reader plan vs count to wo tf wf ts tm ws wm e few n v at =
      let counted = e.counted in let lt = slice_get_within vs n v at in
      let t = later 0 told t_limit t_texts t_saved types t1 t2 t_reader (types_pass v) (map types_pass vs) count n to tf ts tm e.of_types (map_at types_pass vs n v at) in
      let w = later WORDS_FIRST told w_limit w_texts w_saved words w1 w2 w_reader (words_pass v) (map words_pass vs) count n wo wf ws wm e.of_words (map_at words_pass vs n v at) in
      let t_number = t.1 in let w_number = w.1 in (
        record { types_ready = t.2; words_ready = w.2; adds_types = omega arith; adds_words = omega arith },
        (t.0, w.0),
      )
