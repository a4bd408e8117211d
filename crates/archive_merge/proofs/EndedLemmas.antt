-- The passes of both books, from their making to their end.
use Rattle.std.proofs.Common.{◌≡◌, ◌≤◌, ◌⊎◌, ℕ, zero, suc, ◌+◌, Bool, true, false, List, [], ◌∷◌, ◌++◌, sym, refl, ap, ◌∙◌, subst, arith, Option, None, Some, is_some, slice_get, All, ap₂, drop, length}
use Rattle.std.specs.List.{Contains}
use Rattle.std.proofs.lemmas.List.Elements.{All-nil}
use Rattle.std.proofs.lemmas.Option.{slice_get_within}
use Rattle.log_seams.specs.declared.disk.Disk.{Ghosts as DiskGhosts}
use Rattle.logtype_text.specs.Fair.{IsFairType, IsFairWord}
use Rattle.turn_lock.proofs.FrontLemmas.{prefix_get}
use Rattle.turn_lock.specs.declared.grows.Grows.{Ghosts}
use Rattle.turn_lock.specs.History.{StandsIn}
use Rattle.turn_lock.specs.Words.{IsAllOwned, IsFreshOf, IsStill, IsStillBy, lock_of, made_by, number_of, own_list, seen_by}
use Rattle.dict_core.specs.declared.grows.TheConstants.{WORDS_FIRST}
use Rattle.dict_core.specs.Books.{BookState}
use Rattle.dict_core.specs.Fair.{IsFair}
use Rattle.dict_lock.specs.Cached.{pass_in}
use Rattle.dict_lock.specs.Shared.{BookPass}
use Rattle.disk_journal.specs.declared.journal.Journal.{Journal}
use Rattle.disk_journal.specs.Journal.{state_of}
use Rattle.archive_meaning.specs.declared.entry.JournalEntry.{JournalEntry}
use Rattle.archive_meaning.specs.Spelled.{types_of}
use Rattle.ingest_meaning.specs.WordsIn.{words_of}
use Rattle.ingest_fork.specs.Passes.{AreStill, Fresh, Joined}
use Rattle.ingest_fork.proofs.PassLemmas.{fresh_more, fresh_none}
use Rattle.ingest_fork.proofs.PlaceLemmas.{in_left, there_is}
use Rattle.disk_seal.specs.Told.{IfTold, journal_in}
use Rattle.disk_seal.specs.View.{KnowsBook, StoreState, journal_of, state_by}
use Rattle.ingest_workers.specs.Ingested.{HasBook, OpensBook, told_entries, books_at, known_at}
use Rattle.ingest_workers.specs.Naming.{AddsOnly}
use Rattle.ingest_workers.specs.StartedWorkers.{BookMaker, EndsBook}
use Rattle.ingest_workers.proofs.ClosingLemmas.{ends_book, own_texts, texts_given, types_joined, words_joined}
use Rattle.ingest_workers.proofs.IngestLemmas.{later}
use Rattle.plain_list.specs.Texts.{AreDistinct, IsNew}
use Rattle.row_codec.specs.declared.namer.Which.{Which}
use Rattle.row_codec.specs.declared.namer.Which.TheVariants.{Types as WhichTypes, Words as WhichWords}
use Rattle.row_codec.specs.Naming.{Known}
use Rattle.disk_seal.specs.Known.{known_of, limit_in}
use Rattle.ingest_workers.specs.Full.{IsMore, WasFull, book_of, books_by}
use Rattle.ingest_workers.proofs.GivenLemmas.{full_given, noted_behind, texts_behind}
use Rattle.ingest_workers.proofs.SealLemmas.{if_told, of_told}
use Rattle.archive_merge.specs.declared.cause.MergeCause.{MergeCause}
use Rattle.archive_merge.specs.declared.cause.MergeCause.TheVariants.{ArchiveFull, FirstFault, Full, OutOfMemory, SecondDamaged, SecondFault}
use Rattle.std.specs.Prelude.{min}
use mathlib.Core.List.{IsPrefix}
use Rattle.segment_format.specs.Layout.{sorted_set}
use Rattle.ingest_meaning.specs.Dictionaries.{IsFullBy, book_texts}
use Rattle.ingest_meaning.specs.Room.{record_need, texts_need}
use Rattle.ingest_workers.specs.NoRoom.{WereKnown}
use Rattle.ingest_workers.proofs.JournalLemmas.{all_canonical}
use Rattle.ingest_workers.proofs.OpenSegmentLemmas.{same_numbers}
use Rattle.archive_merge.specs.declared.file.Merged.{Merged}
use Rattle.archive_merge.specs.declared.merger.BookPasses.{BookPasses}
use Rattle.archive_merge.specs.declared.merger.Stopped.{Stopped}
use Rattle.archive_merge.specs.Behind.{HasMerged, done_of, needed_of, SecondView, HasStopCause, IsFullByBoth, old_texts, AreOfBoth, LackedRoom}
use Rattle.archive_merge.specs.Ended.{AreOf, WereMovedOver, HasEnded}
use Rattle.archive_merge.specs.Merger.{MayName, PassesAdd}

one_still : (P : List ℕ → Type 0) (p q : BookPass) → AddsOnly P p q → AreStill (p ∷ []) (q ∷ [])
one_still P p q adds = record { counted = refl; each = at }
  where
    at : (i : ℕ) (a b : BookPass) → slice_get (p ∷ []) i ≡ Some a → slice_get (q ∷ []) i ≡ Some b → IsStill a b
    at zero a b one two = let first : p ≡ a = cc (one) in let second : q ≡ b = cc (two) in
        subst (λ x. IsStill x b) first (subst (λ x. IsStill p x) second adds.goes.still)
    at (suc i) a b one two = absurd (cc (one))

one_texts : (P : List ℕ → Type 0) (p q : BookPass) → AddsOnly P p q → own_list p ≡ [] → (i : ℕ) (x : BookPass) → slice_get (q ∷ []) i ≡ Some x → (j : ℕ) (t : List ℕ) → StandsIn (own_list x) j t → P t
one_texts P p q adds none zero x at j t own = let same : q ≡ x = cc (at) in own_texts P p q adds none j t (subst (λ y. StandsIn (own_list y) j t) (sym same) own)
one_texts P p q adds none (suc i) x at j t own = absurd (cc (at))

module _ {G : Ghosts BookState (List ℕ) ℕ} where
  -- a pass that was made after the reader's
  one_fresh : (m m' : BookMaker G) (p : BookPass) → IsStillBy m m' → made_by m' ≡ made_by m + 1 → IsFreshOf m p → Fresh m m' (p ∷ []) 1
  one_fresh m m' p still made fresh = fresh_more m m m' [] 0 p (fresh_none m) still made fresh

  -- the reader's pass was the first, and it ended before the one that names
  pub book_ends : (P : List ℕ → Type 0) (first : ℕ) (told : Bool) (limit : ℕ) (texts : List (List ℕ)) (saved : ℕ) (m m1 m2 later end : BookMaker G) (reader p q : BookPass) → OpensBook first told limit texts saved m
      → IsStillBy m m1 → made_by m1 ≡ made_by m + 1 → IsStillBy m1 m2 → made_by m2 ≡ made_by m1 + 1 → IsFreshOf m1 p → AddsOnly P p q
      → Joined m2 later (reader ∷ []) 0 → number_of reader ≡ first → own_list reader ≡ [] → Joined later end (q ∷ []) 0 → EndsBook P m end reader
  book_ends P first told limit texts saved m m1 m2 later end reader p q o still made still2 made2 fresh adds read number own joined =
      ends_book P first told limit texts saved m m1 m2 later end reader (p ∷ []) (q ∷ []) 1 o still made (one_fresh m1 m2 p still2 made2 fresh) (one_still P p q adds)
      read number own joined (one_texts P p q adds fresh.own_is)

  -- passes that were made after the readers' may name, and are of the same locks
  pub may_name : (told : Bool) (t_limit w_limit : ℕ) (t_texts w_texts : List (List ℕ)) (t_saved w_saved : ℕ) (types t1 t2 words w1 w2 : BookMaker G) (t_reader w_reader : BookPass) (b : BookPasses)
      → OpensBook 0 told t_limit t_texts t_saved types → OpensBook WORDS_FIRST told w_limit w_texts w_saved words → IsFreshOf types t_reader → IsFreshOf words w_reader
      → IsStillBy types t1 → made_by t1 ≡ made_by types + 1 → IsStillBy words w1 → made_by w1 ≡ made_by words + 1
      → IsStillBy t1 t2 → made_by t2 ≡ made_by t1 + 1 → IsStillBy w1 w2 → made_by w2 ≡ made_by w1 + 1 → IsFreshOf t1 (pass_in b.types) → IsFreshOf w1 (pass_in b.words)
      → MayName b × ((lock_of (pass_in b.types) ≡ lock_of t_reader) × (lock_of (pass_in b.words) ≡ lock_of w_reader))
  may_name told t_limit w_limit t_texts w_texts t_saved w_saved types t1 t2 words w1 w2 t_reader w_reader b to wo tf wf ts tm ws wm ts2 tm2 ws2 wm2 t_fresh w_fresh =
      let t = later 0 told t_limit t_texts t_saved types t1 t2 t_reader (pass_in b.types) (pass_in b.types ∷ []) 1 0 to tf ts tm (one_fresh t1 t2 (pass_in b.types) ts2 tm2 t_fresh) refl in
      let w = later WORDS_FIRST told w_limit w_texts w_saved words w1 w2 w_reader (pass_in b.words) (pass_in b.words ∷ []) 1 0 wo wf ws wm (one_fresh w1 w2 (pass_in b.words) ws2 wm2 w_fresh) refl in
      let t_number = t.1 in let w_number = w.1 in (
        record { types_ready = t.2; words_ready = w.2; adds_types = omega (arith, t_number); adds_words = omega (arith, w_number) },
        (t.0, w.0),
      )

  -- once the maker has joined the pass that names, it knows what that one does of the book
  pub known_more : (P : List ℕ → Type 0) (m1 m2 later end : BookMaker G) (reader p q : BookPass) → IsStillBy m1 m2 → IsFreshOf m1 p → AddsOnly P p q → Joined m2 later (reader ∷ []) 0 → Joined later end (q ∷ []) 0
      → IsMore (known_of q) (known_at end)
  known_more P m1 m2 later end reader p q still fresh adds read joined = record {
    front = (joined.each 0 q (omega arith) refl).seen_on;
    limit = ap limit_in ((joined.about_is ∙ (read.about_is ∙ still.about_is)) ∙ (sym fresh.about_is ∙ sym adds.goes.still.about_is));
  }

  pub both_more : (P : Which → List ℕ → Type 0) (t1 t2 t_end w1 w2 w_end : BookMaker G) (t_reader w_reader : BookPass) (b c : BookPasses) → IsStillBy t1 t2 → IsStillBy w1 w2 → IsFreshOf t1 (pass_in b.types) → IsFreshOf w1 (pass_in b.words) → PassesAdd P b c
      → HasEnded t2 t_end w2 w_end t_reader w_reader c → (book : Which) → IsMore (book_of (books_by (pass_in c.types) (pass_in c.words)) book) (book_of (books_at t_end w_end) book)
  both_more P t1 t2 t_end w1 w2 w_end t_reader w_reader b c ts ws t_fresh w_fresh adds ended WhichTypes = known_more (P WhichTypes) t1 t2 ended.types_middle t_end t_reader (pass_in b.types) (pass_in c.types) ts t_fresh adds.types ended.types_read ended.types_ended
  both_more P t1 t2 t_end w1 w2 w_end t_reader w_reader b c ts ws t_fresh w_fresh adds ended WhichWords = known_more (P WhichWords) w1 w2 ended.words_middle w_end w_reader (pass_in b.words) (pass_in c.words) ws w_fresh adds.words ended.words_read ended.words_ended

  -- passes that named are of the makers' locks
  pub are_of : (P : Which → List ℕ → Type 0) (t1 t2 w1 w2 : BookMaker G) (b c : BookPasses) → PassesAdd P b c → IsStillBy t1 t2 → IsStillBy w1 w2 → IsFreshOf t1 (pass_in b.types) → IsFreshOf w1 (pass_in b.words) → AreOf t2 w2 c
  are_of P t1 t2 w1 w2 b c adds ts ws t_fresh w_fresh = record {
    of_types = adds.types.goes.still.lock ∙ (t_fresh.lock ∙ sym ts.lock);
    of_words = adds.words.goes.still.lock ∙ (w_fresh.lock ∙ sym ws.lock);
  }

-- where nothing is told there is no entry
none_in : (o : Option (List ℕ)) (n : ℕ) → is_some o ≡ false → journal_in o n ≡ []
none_in None n is = refl
none_in (Some bytes) n is = absurd (cc (is))

by_told : (b : Bool) (X : Type 0) → IfTold b X → (b ≡ false → X) → X
by_told true X x f = x
by_told false X x f = f refl

book_front : (book : Which) (xs ys : List JournalEntry) → IsPrefix xs ys → IsPrefix (book_texts book xs) (book_texts book ys)
book_front WhichTypes xs ys on = (types_of on.0, sym (types_joined xs on.0) ∙ ap types_of on.1)
book_front WhichWords xs ys on = (words_of on.0, sym (words_joined xs on.0) ∙ ap words_of on.1)

-- what is drawn behind a front is the rest
drop_front : {X : Type 0} (xs ys : List X) → drop (length xs) (xs ++ ys) ≡ ys
drop_front [] ys = refl
drop_front (x ∷ xs) ys = drop_front xs ys

-- a text that met a full book is none of those that it had before
new_too : (next : List ℕ → Type 0) (texts more : List (List ℕ)) (count : ℕ) (known : Known) → (full : WasFull next count known) → IsPrefix full.front (texts ++ more) → length texts ≤ count → WasFull (λ t. next t × IsNew texts t) count known
new_too next texts more count known full on few = record {
  limit = full.limit;
  front = full.front;
  begins = full.begins;
  all = full.all;
  text = full.text;
  is = (full.is, λ i at. not_there i at);
  new = full.new;
}
  where
    not_there : (i : ℕ) → slice_get texts i ≡ Some full.text → ⊥
    not_there i at =
        let lt = slice_get_within texts i full.text at in
        let x = there_is full.front i (omega (arith, lt, few, full.all)) in
        let one : slice_get (texts ++ more) i ≡ Some full.text = in_left texts more i lt ∙ at in
        let two : slice_get (texts ++ more) i ≡ Some x.0 = prefix_get full.front (texts ++ more) i x.0 on x.1 in
        let same : x.0 ≡ full.text = cc (one, two) in
        full.new i (x.1 ∙ ap (λ (t : List ℕ). Some t) same)

-- a book has no more texts than it may
few_texts : (told : Bool) (limit : ℕ) (texts : List (List ℕ)) (saved : ℕ) (b : BookState) → HasBook told limit texts saved b → told ≡ true → length b.texts ≤ b.limit → {count : ℕ} → count ≡ limit → length texts ≤ count
few_texts told limit texts saved b has told_is low is =
    let are = of_told told _ told_is has.are in let long = ap length are.0 in let most = are.1 in
    omega (arith, low, long, most, is)

-- the same cause, where more is told of a full book, and of the texts of a book
module _ {D : Type 0} {d : DiskGhosts D} (view : SecondView) (first file done : ℕ) (before after : Journal D d) (full full' : Which → ℕ → Type 0) (has has' : List JournalEntry → Which → List (List ℕ) → Type 0) where
  cause_on : ((book : Which) (count : ℕ) → full book count → full' book count)
      → ((end need : ℕ) → IfTold (is_some (state_of before).disk.seen) (LackedRoom has view first file done before after end need) → IfTold (is_some (state_of before).disk.seen) (LackedRoom has' view first file done before after end need))
      → (cause : MergeCause) → HasStopCause full has view first file done before after cause → HasStopCause full' has' view first file done before after cause
  cause_on more room (Full book count) was = more book count was
  cause_on more room (ArchiveFull end need) was = (was.0, room end need was.1)
  cause_on more room (FirstFault opened now) was = was
  cause_on more room SecondFault was = tt
  cause_on more room SecondDamaged was = was
  cause_on more room OutOfMemory was = tt

module _ {D : Type 0} {d : DiskGhosts D} {G : Ghosts BookState (List ℕ) ℕ} (view : SecondView) (first : ℕ) (stop : Option Stopped) (js js' : List Merged) (before after : Journal D d) (types types' words words' : BookMaker G) where
  -- the texts that rows need that were reached
  abbrev needs : Which → List ℕ → Type 0
  needs = needed_of view first (done_of first (length js') stop) js'

  pub has_merged : (t_saved w_saved : ℕ)
      → (to : OpensBook 0 (is_some (state_of before).disk.seen) before.header.types_limit (types_of (told_entries (state_of before))) t_saved types)
      → (wo : OpensBook WORDS_FIRST (is_some (state_of before).disk.seen) before.header.words_limit (words_of (told_entries (state_of before))) w_saved words)
      → length to.book.texts ≤ to.book.limit → length wo.book.texts ≤ wo.book.limit
      → WereMovedOver view first stop js js' before after types types' words words' → IsAllOwned IsFair types' → IsAllOwned IsFair words' → AreDistinct (seen_by types') → AreDistinct (seen_by words') → HasMerged view first stop js js' before after
  has_merged t_saved w_saved to wo t_low w_low h t_owned w_owned t_apart w_apart = record {
    store = h.store;
    stored = h.stored;
    types = by_told told (All (needs WhichTypes) (types_of fresh))
        (texts_given (needs WhichTypes) IsFairType 0 told before.header.types_limit s.header.types_limit (types_of (told_entries (state_of before))) (types_of (journal_of s)) (types_of fresh)
        t_saved s.types_saved types types' s.types to h.of_types t_owned (subst (λ b. KnowsBook IsFairType 0 s.header.types_limit b s.types s.types_saved (types_of (journal_of s))) same_told h.stored.left_by.kept.types)
        (ap types_of h.stored.grown ∙ types_joined (told_entries (state_of before)) fresh))
        (λ untold. subst (λ es. All (needs WhichTypes) (types_of es)) (sym (no_more untold)) (All-nil (needs WhichTypes)));
    words = by_told told (All (needs WhichWords) (words_of fresh))
        (texts_given (needs WhichWords) IsFairWord WORDS_FIRST told before.header.words_limit s.header.words_limit (words_of (told_entries (state_of before))) (words_of (journal_of s)) (words_of fresh)
        w_saved s.words_saved words words' s.words wo h.of_words w_owned (subst (λ b. KnowsBook IsFairWord WORDS_FIRST s.header.words_limit b s.words s.words_saved (words_of (journal_of s))) same_told h.stored.left_by.kept.words)
        (ap words_of h.stored.grown ∙ words_joined (told_entries (state_of before)) fresh))
        (λ untold. subst (λ es. All (needs WhichWords) (words_of es)) (sym (no_more untold)) (All-nil (needs WhichWords)));
    why = λ one is. let was = h.why one is in record {
      place = was.place;
      file = was.file;
      is = was.is;
      file_is = was.file_is;
      not_done = was.not_done;
      cause = cause_on view first was.file.file was.file.messages before after (λ book count. WasFull (Contains (old_texts view book)) count (book_of (books_at types' words') book)) (IsFullByBoth needs view before) (WereKnown (books_at types' words')) (AreOfBoth needs) full
          (λ end need lacked. if_told told _ (λ told_is. room was.file.file was.file.messages end need told_is (of_told told _ told_is lacked))) one.cause was.cause;
    };
  }
    where
      told : Bool
      told = is_some (state_of before).disk.seen

      fresh : List JournalEntry
      fresh = h.stored.fresh

      s : StoreState
      s = state_by d.state h.store

      same_told : is_some (d.state h.store.opened).seen ≡ told
      same_told = ap (λ (x : D). is_some (d.state x).seen) h.stored.left_by.opened

      these_types : KnowsBook IsFairType 0 s.header.types_limit told s.types s.types_saved (types_of (journal_of s))
      these_types = subst (λ b. KnowsBook IsFairType 0 s.header.types_limit b s.types s.types_saved (types_of (journal_of s))) same_told h.stored.left_by.kept.types

      these_words : KnowsBook IsFairWord WORDS_FIRST s.header.words_limit told s.words s.words_saved (words_of (journal_of s))
      these_words = subst (λ b. KnowsBook IsFairWord WORDS_FIRST s.header.words_limit b s.words s.words_saved (words_of (journal_of s))) same_told h.stored.left_by.kept.words

      -- a book was full of texts of before and needed ones, and one more was met
      full_types : told ≡ true → (next : List ℕ → Type 0) (count : ℕ) → WasFull next count (known_at types')
          → (count ≡ before.header.types_limit) × IsFullBy (λ t. Contains (types_of (told_entries (state_of before))) t ⊎ needs WhichTypes t) next count
      full_types told_is = full_given (needs WhichTypes) IsFairType 0 told before.header.types_limit s.header.types_limit (types_of (told_entries (state_of before))) (types_of (journal_of s)) (types_of fresh)
          t_saved s.types_saved types types' s.types to h.of_types t_owned these_types (ap types_of h.stored.grown ∙ types_joined (told_entries (state_of before)) fresh) told_is t_apart

      full_words : told ≡ true → (next : List ℕ → Type 0) (count : ℕ) → WasFull next count (known_at words')
          → (count ≡ before.header.words_limit) × IsFullBy (λ t. Contains (words_of (told_entries (state_of before))) t ⊎ needs WhichWords t) next count
      full_words told_is = full_given (needs WhichWords) IsFairWord WORDS_FIRST told before.header.words_limit s.header.words_limit (words_of (told_entries (state_of before))) (words_of (journal_of s)) (words_of fresh)
          w_saved s.words_saved words words' s.words wo h.of_words w_owned these_words (ap words_of h.stored.grown ∙ words_joined (told_entries (state_of before)) fresh) told_is w_apart

      full : (book : Which) (count : ℕ) → WasFull (Contains (old_texts view book)) count (book_of (books_at types' words') book) → IsFullByBoth needs view before book count
      full WhichTypes count is = if_told told _ (λ told_is.
          let grown = ap types_of h.stored.grown ∙ types_joined (told_entries (state_of before)) fresh in
          let on = noted_behind (needs WhichTypes) IsFairType 0 told before.header.types_limit s.header.types_limit (types_of (told_entries (state_of before))) (types_of (journal_of s)) (types_of fresh)
          t_saved s.types_saved types types' s.types to h.of_types t_owned these_types grown told_is (types_of (told_entries (state_of before))) is.front (types_of fresh, sym grown) is.begins in
          full_types told_is (λ t. Contains view.texts.types t × IsNew (types_of (told_entries (state_of before))) t) count
          (new_too (Contains view.texts.types) (types_of (told_entries (state_of before))) _ count (known_at types') is on
          (few_texts told before.header.types_limit (types_of (told_entries (state_of before))) t_saved to.book to.has told_is t_low (full_types told_is (Contains view.texts.types) count is).0)))
      full WhichWords count is = if_told told _ (λ told_is.
          let grown = ap words_of h.stored.grown ∙ words_joined (told_entries (state_of before)) fresh in
          let on = noted_behind (needs WhichWords) IsFairWord WORDS_FIRST told before.header.words_limit s.header.words_limit (words_of (told_entries (state_of before))) (words_of (journal_of s)) (words_of fresh)
          w_saved s.words_saved words words' s.words wo h.of_words w_owned these_words grown told_is (words_of (told_entries (state_of before))) is.front (words_of fresh, sym grown) is.begins in
          full_words told_is (λ t. Contains view.texts.words t × IsNew (words_of (told_entries (state_of before))) t) count
          (new_too (Contains view.texts.words) (words_of (told_entries (state_of before))) _ count (known_at words') is on
          (few_texts told before.header.words_limit (words_of (told_entries (state_of before))) w_saved wo.book wo.has told_is w_low (full_words told_is (Contains view.texts.words) count is).0)))

      after_is : told_entries (state_of after) ≡ journal_of s
      after_is = ap₂ (λ (x : D) n. journal_in (d.state x).seen n) (sym h.stored.left_by.disk) h.stored.left_by.count

      -- what had no room were rows and texts of the second archive
      room : (file done end need : ℕ) → told ≡ true → LackedRoom (WereKnown (books_at types' words')) view first file done before after end need → LackedRoom (AreOfBoth needs) view first file done before after end need
      room file done end need told_is r =
          let since = r.between.0 in
          let on = subst (IsPrefix r.front) after_is r.between.1 in
          let before_types = types_of r.front in let before_words = words_of r.front in
          let more_types = drop (length before_types) r.types in let more_words = drop (length before_words) r.words in
          let grown_types = ap types_of h.stored.grown ∙ types_joined (told_entries (state_of before)) fresh in
          let grown_words = ap words_of h.stored.grown ∙ words_joined (told_entries (state_of before)) fresh in
          let on_types = noted_behind (needs WhichTypes) IsFairType 0 told before.header.types_limit s.header.types_limit (types_of (told_entries (state_of before))) (types_of (journal_of s)) (types_of fresh)
          t_saved s.types_saved types types' s.types to h.of_types t_owned these_types grown_types told_is before_types r.types (book_front WhichTypes r.front (journal_of s) on) r.has_types in
          let on_words = noted_behind (needs WhichWords) IsFairWord WORDS_FIRST told before.header.words_limit s.header.words_limit (words_of (told_entries (state_of before))) (words_of (journal_of s)) (words_of fresh)
          w_saved s.words_saved words words' s.words wo h.of_words w_owned these_words grown_words told_is before_words r.words (book_front WhichWords r.front (journal_of s) on) r.has_words in record {
            place = r.place;
            there = r.there;
            front = r.front;
            between = r.between;
            ends = r.ends;
            types = before_types ++ more_types;
            words = before_words ++ more_words;
            has_types = texts_behind (needs WhichTypes) IsFairType 0 told before.header.types_limit s.header.types_limit (types_of (told_entries (state_of before))) (types_of (journal_of s)) (types_of fresh)
                t_saved s.types_saved types types' s.types to h.of_types t_owned these_types grown_types told_is t_apart before_types r.types
                (book_front WhichTypes (told_entries (state_of before)) r.front since) (book_front WhichTypes r.front (journal_of s) on) r.has_types;
            has_words = texts_behind (needs WhichWords) IsFairWord WORDS_FIRST told before.header.words_limit s.header.words_limit (words_of (told_entries (state_of before))) (words_of (journal_of s)) (words_of fresh)
                w_saved s.words_saved words words' s.words wo h.of_words w_owned these_words grown_words told_is w_apart before_words r.words
                (book_front WhichWords (told_entries (state_of before)) r.front since) (book_front WhichWords r.front (journal_of s) on) r.has_words;
            segment = r.segment;
            numbers = r.numbers;
            file_is = r.file_is;
            next = r.next;
            at = r.at;
            marks = r.marks;
            rows = r.rows;
            rows_are = r.rows_are;
            messages = r.messages;
            source = r.source;
            canonical = all_canonical view.version r.segment.rows r.types r.words (before_types ++ more_types) (before_words ++ more_words) r.messages on_types on_words r.canonical;
            numbers_are = r.numbers_are ∙ ap sorted_set (same_numbers view.version r.segment.rows r.types r.words (before_types ++ more_types) r.messages on_types r.canonical);
            needs = r.needs ∙ ap₂ (λ t w. min (texts_need (length before_types) t + (texts_need (length before_words) w + record_need r.segment r.numbers)) 18446744073709551615) (sym (drop_front before_types more_types)) (sym (drop_front before_words more_words));
          }

      no_more : told ≡ false → fresh ≡ []
      no_more untold = let now : journal_of s ≡ [] = none_in s.disk.seen s.count (h.stored.left_by.kept.tells_still ∙ (same_told ∙ untold)) in
          let was : told_entries (state_of before) ≡ [] = none_in (state_of before).disk.seen (state_of before).count untold in
          sym (ap (λ l. l ++ fresh) was) ∙ (sym h.stored.grown ∙ now)
