-- A book that was full has, once it is closed, the journal's texts and such as the jobs gave.
use Rattle.std.proofs.Common.{◌≡◌, ℕ, ◌+◌, ◌<◌, ◌≤◌, ◌⊎◌, ⊎_elim, inl, inr, Bool, true, List, [], ◌∷◌, ◌++◌, length, drop, take, get_or, sym, refl, ap, ap₂, ◌∙◌, subst, arith, Option, Some, is_some, slice_get, All, append-nil, take-append-drop}
use Rattle.std.specs.Prelude.{min}
use Rattle.std.specs.List.{Contains}
use Rattle.std.proofs.lemmas.Bool.{cases_lt}
use Rattle.std.proofs.lemmas.Option.{slice_get_within, slice_get-get_or, get_or_from_slice_get}
use mathlib.Core.List.{IsPrefix}
use Rattle.log_seams.specs.declared.disk.Disk.{Ghosts as DiskGhosts}
use Rattle.turn_lock.specs.declared.grows.Grows.{Ghosts}
use Rattle.turn_lock.specs.Words.{about_by, seen, seen_by, IsAllOwned}
use Rattle.turn_lock.proofs.FrontLemmas.{prefix_get, prefix_length, prefix_self, prefix_trans}
use Rattle.ingest_fork.proofs.PickLemmas.{each_added}
use Rattle.ingest_fork.proofs.PlaceLemmas.{at_right, there_is}
use Rattle.dict_core.specs.Books.{BookState}
use Rattle.dict_core.specs.Fair.{IsFair}
use Rattle.dict_core.specs.declared.grows.TheConstants.{WORDS_FIRST}
use Rattle.dict_lock.specs.Shared.{BookPass}
use Rattle.logtype_text.specs.Fair.{IsFairType, IsFairWord}
use Rattle.row_codec.specs.declared.namer.Which.{Which}
use Rattle.row_codec.specs.declared.namer.Which.TheVariants.{Types as WhichTypes, Words as WhichWords}
use Rattle.plain_list.specs.Texts.{AreDistinct}
use Rattle.disk_journal.specs.declared.journal.Journal.{Journal}
use Rattle.disk_journal.specs.Journal.{state_of}
use Rattle.segment_format.specs.Layout.{sorted_set}
use Rattle.archive_meaning.specs.declared.entry.JournalEntry.{JournalEntry}
use Rattle.archive_meaning.specs.Spelled.{types_of as texts_of_types}
use Rattle.disk_seal.specs.Known.{limit_in}
use Rattle.ingest_meaning.specs.Room.{texts_need}
use Rattle.ingest_meaning.specs.Room.{record_need}
use Rattle.disk_seal.specs.Told.{journal_in}
use Rattle.ingest_meaning.specs.WordsIn.{words_of as texts_of_words}
use Rattle.disk_seal.specs.View.{KnowsBook, StoreState, state_by, journal_of}
use Rattle.ingest_workers.specs.declared.job.Job.{Job}
use Rattle.ingest_workers.specs.declared.worker.Plan.{Plan}
use Rattle.ingest_workers.specs.Causes.{log_of}
use Rattle.ingest_workers.specs.StartedWorkers.{BookMaker, EndsBook}
use Rattle.ingest_meaning.specs.Given.{AreFirstOf, IsNextOf}
use Rattle.ingest_meaning.specs.Dictionaries.{IsFullBy, IsTextOf}
use Rattle.ingest_workers.specs.Full.{WasFull, WasFullBehind}
use Rattle.ingest_workers.specs.Ingested.{HadNoRoomOver, HasEndedBooks, HaveCauses, HaveCausesIn, IsFullByGiven, IsTypeGiven, IsWordGiven, OpensBook, WereGiven, books_at, grounds_over, known_at, told_entries}
use Rattle.ingest_meaning.specs.Dictionaries.{HasTextsBehind, book_texts}
use Rattle.ingest_workers.specs.InTurn.{WasFilledBy}
use Rattle.ingest_meaning.specs.Room.{HadNoRoom}
use Rattle.ingest_workers.specs.NoRoom.{IsBetween, WereKnown}
use Rattle.ingest_meaning.specs.Parts.{part_in}
use Rattle.ingest_meaning.specs.Parts.{IsCut, IsOpen}
use Rattle.ingest_workers.proofs.CauseLemmas.{cause_on}
use Rattle.ingest_workers.proofs.ClosingLemmas.{types_joined, words_joined}
use Rattle.ingest_workers.proofs.OpenSegmentLemmas.{same_numbers}
use Rattle.ingest_workers.proofs.JournalLemmas.{all_canonical}
use Rattle.ingest_workers.proofs.SealLemmas.{if_told, of_told}

contained : (texts : List (List ℕ)) (i : ℕ) (t : List ℕ) → slice_get texts i ≡ Some t → Contains texts t
contained texts i t at = (i, slice_get_within texts i t at, get_or_from_slice_get texts i t t at)

-- what is drawn behind a front is the rest
drop_front : {X : Type 0} (xs ys : List X) → drop (length xs) (xs ++ ys) ≡ ys
drop_front [] ys = refl
drop_front (x ∷ xs) ys = drop_front xs ys

-- two fronts of a list: the first, with what the second has more, is one, and begins with the second
both_fronts : {X : Type 0} (xs ys all : List X) → IsPrefix xs all → IsPrefix ys all → IsPrefix (xs ++ drop (length xs) ys) all × IsPrefix ys (xs ++ drop (length xs) ys)
both_fronts [] ys all a b = (b, prefix_self ys)
both_fronts (x ∷ xs) [] all a b = (subst (λ l. IsPrefix l all) (sym (append-nil (x ∷ xs))) a, ((x ∷ xs) ++ [], refl))
both_fronts (x ∷ xs) (y ∷ ys) [] a b = absurd (cc (a.1))
both_fronts {X} (x ∷ xs) (y ∷ ys) (z ∷ all) a b =
    let x_is : x ≡ z = cc (a.1) in let y_is : y ≡ z = cc (b.1) in
    let rest = both_fronts xs ys all (a.0, cc (a.1)) (b.0, cc (b.1)) in (
      (rest.0.0, ap₂ (λ (u : X) l. u ∷ l) x_is rest.0.1),
      (rest.1.0, ap₂ (λ (u : X) l. u ∷ l) (y_is ∙ sym x_is) rest.1.1),
    )

book_front : (book : Which) (xs ys : List JournalEntry) → IsPrefix xs ys → IsPrefix (book_texts book xs) (book_texts book ys)
book_front WhichTypes xs ys on = (texts_of_types on.0, sym (types_joined xs on.0) ∙ ap texts_of_types on.1)
book_front WhichWords xs ys on = (texts_of_words on.0, sym (words_joined xs on.0) ∙ ap texts_of_words on.1)

distinct_front : (front texts : List (List ℕ)) → IsPrefix front texts → AreDistinct texts → AreDistinct front
distinct_front front texts on apart i j t at_i at_j = apart i j t (prefix_get front texts i t on at_i) (prefix_get front texts j t on at_j)

module _ {G : Ghosts BookState (List ℕ) ℕ} (P F : List ℕ → Type 0) (first : ℕ) (told : Bool) (limit limit' : ℕ) (texts texts' more : List (List ℕ)) (saved saved' : ℕ) (m end : BookMaker G) (reader : BookPass) (o : OpensBook first told limit texts saved m)
    (e : EndsBook P m end reader) (owned : IsAllOwned IsFair end) (k : KnowsBook F first limit' told reader saved' texts') (is : texts' ≡ texts ++ more) (told_is : told ≡ true) where
  has : (o.book.texts ≡ texts) × (o.book.limit ≡ limit)
  has = of_told told _ told_is o.has.are

  about_is : about_by end ≡ Some (record { first = first; start = length o.book.texts; fixed = o.book.limit })
  about_is = e.about_is ∙ o.opening.about_is

  ends : IsPrefix texts' (seen_by end)
  ends = subst (λ l. IsPrefix l (seen_by end)) (of_told told _ told_is k.front)
      (prefix_trans (take saved' (seen reader)) (seen reader) (seen_by end) (drop saved' (seen reader), take-append-drop saved' (seen reader)) e.seen_on)

  begins : IsPrefix texts (seen_by end)
  begins = prefix_trans texts texts' (seen_by end) (more, sym is) ends

  -- each text that stands where those of before do is one of them
  there_below : (i : ℕ) (t : List ℕ) → i < length texts → slice_get (seen_by end) i ≡ Some t → Contains texts t
  there_below i t lt at = let x = there_is texts i lt in
      let same : x.0 ≡ t = some_is x.0 t (sym (prefix_get texts (seen_by end) i x.0 begins x.1) ∙ at) in
      contained texts i t (x.1 ∙ ap (λ (y : List ℕ). Some y) same)
    where
      some_is : (x y : List ℕ) → Some x ≡ Some y → x ≡ y
      some_is x y e = cc (e)

  -- each text behind those of before was given
  given_behind : (i : ℕ) (t : List ℕ) → length texts ≤ i → slice_get (seen_by end) i ≡ Some t → P t
  given_behind i t le at =
      let long = ap length has.0 in
      let a = each_added IsFair end e.middle e.passes owned e.joined e.none (record { first = first; start = length o.book.texts; fixed = o.book.limit }) i t about_is (omega arith) at in
      e.each a.place a.pass a.is i t a.own

  -- so each text of the closed book is one of before, or was given
  there_or_given : (i : ℕ) (t : List ℕ) → slice_get (seen_by end) i ≡ Some t → Contains texts t ⊎ P t
  there_or_given i t at = ⊎_elim
      (λ (lt : i < length texts). inl (there_below i t lt at))
      (λ (le : length texts ≤ i). inr (given_behind i t le at)) (cases_lt i (length texts))

  -- so where a journal had these texts, and a pass had seen those
  pub texts_behind : AreDistinct (seen_by end) → (these noted : List (List ℕ)) → IsPrefix texts these → IsPrefix these texts' → IsPrefix noted (seen_by end) → HasTextsBehind P these (these ++ drop (length these) noted)
  texts_behind apart these noted since on seen_so =
      let rest = drop (length these) noted in
      let front = (both_fronts these noted (seen_by end) (prefix_trans these texts' (seen_by end) on ends) seen_so).0 in
      let low = prefix_length texts these since in record {
        begins = (rest, refl);
        distinct = distinct_front (these ++ rest) (seen_by end) front apart;
        others = subst (λ l. All P l) (sym (drop_front these rest))
            (λ i d lt. given_behind (length these + i) (get_or rest i d) (omega arith) (prefix_get (these ++ rest) (seen_by end) (length these + i) (get_or rest i d) front (at_right these rest i ∙ slice_get-get_or rest i d lt)));
      }

  pub noted_behind : (these noted : List (List ℕ)) → IsPrefix these texts' → IsPrefix noted (seen_by end) → IsPrefix noted (these ++ drop (length these) noted)
  noted_behind these noted on seen_so = (both_fronts these noted (seen_by end) (prefix_trans these texts' (seen_by end) on ends) seen_so).1

  full_of : AreDistinct (seen_by end) → (Q next : List ℕ → Type 0) (count : ℕ) → ((i : ℕ) (t : List ℕ) → i < count → slice_get (seen_by end) i ≡ Some t → Contains texts t ⊎ Q t) → WasFull next count (known_at end)
      → (count ≡ limit) × IsFullBy (λ t. Contains texts t ⊎ Q t) next count
  full_of apart Q next count which full = (
    full.limit ∙ (ap limit_in about_is ∙ has.1),
    record {
      texts = full.front;
      all = sym full.all;
      distinct = distinct_front full.front (seen_by end) full.begins apart;
      each = λ i d lt. which i (get_or full.front i d) (omega (arith, full.all, lt)) (prefix_get full.front (seen_by end) i (get_or full.front i d) full.begins (slice_get-get_or full.front i d lt));
      text = full.text;
      is = full.is;
      new = full.new;
    },
  )

  -- it was full of texts of before and given ones, and one more was met
  pub full_given : AreDistinct (seen_by end) → (next : List ℕ → Type 0) (count : ℕ) → WasFull next count (known_at end) → (count ≡ limit) × IsFullBy (λ t. Contains texts t ⊎ P t) next count
  full_given apart next count full = full_of apart P next count (λ i t lt at. there_or_given i t at) full

  -- so it was where those that passes added are such texts
  pub full_filled : AreDistinct (seen_by end) → (Q next : List ℕ → Type 0) (count : ℕ) → WasFilledBy Q next count end → (count ≡ limit) × IsFullBy (λ t. Contains texts t ⊎ Q t) next count
  full_filled apart Q next count filled = full_of apart Q next count (λ i t lt at. by_place i t lt at) filled.full
    where
      by_place : (i : ℕ) (t : List ℕ) → i < count → slice_get (seen_by end) i ≡ Some t → Contains texts t ⊎ Q t
      by_place i t lt at = ⊎_elim
          (λ (low : i < length texts). inl (there_below i t low at))
          (λ (le : length texts ≤ i). let long = ap length has.0 in
          let a = owned (record { first = first; start = length o.book.texts; fixed = o.book.limit }) i t about_is (omega arith) at in
          inr (filled.each a.0 i t a.1 a.3 lt)) (cases_lt i (length texts))

module _ {S D : Type 0} {d : DiskGhosts D} {G : Ghosts BookState (List ℕ) ℕ} (left name : S → Option (List ℕ)) (faults : S → ℕ) (plan : Plan) (js js' : List (Job S)) (before after : Journal D d) (types types' words words' : BookMaker G) where
  pub causes_given : (t_saved w_saved : ℕ)
      → OpensBook 0 (is_some (state_of before).disk.seen) before.header.types_limit (texts_of_types (told_entries (state_of before))) t_saved types
      → OpensBook WORDS_FIRST (is_some (state_of before).disk.seen) before.header.words_limit (texts_of_words (told_entries (state_of before))) w_saved words
      → HasEndedBooks left plan js js' before after types types' words words' → IsAllOwned IsFair types' → IsAllOwned IsFair words' → AreDistinct (seen_by types') → AreDistinct (seen_by words')
      → HaveCausesIn (books_at types' words') left name faults plan before after js js' → HaveCauses left name faults plan before after js js'
  causes_given t_saved w_saved to wo h t_owned w_owned t_apart w_apart causes = record {
    counted = causes.counted;
    each = λ i job at. let c = causes.each i job at in (
      c.0,
      c.1,
      record {
        source = c.2.source;
        sealed = c.2.sealed;
        count = c.2.count;
        first = c.2.first;
        cause = cause_on (grounds_over was (WereKnown (books_at types' words')) plan job.file (left c.2.source.before) before after) (grounds_over (IsFullByGiven left plan js before) (WereGiven left plan js) plan job.file (left c.2.source.before) before after) (log_of left faults c.2.source.before c.2.source.after) plan.version c.2.sealed c.0.outcome.cause
            (full (left c.2.source.before)) (room job.file (left c.2.source.before) c.2.sealed) (λ since now has. has) c.2.cause;
      },
    );
  }
    where
      was : Option (List ℕ) → List (List ℕ) → Which → ℕ → Type 0
      was = WasFullBehind plan.version (books_at types' words')

      told : Bool
      told = is_some (state_of before).disk.seen

      s : StoreState
      s = state_by d.state h.store

      same_told : is_some (d.state h.store.opened).seen ≡ told
      same_told = ap (λ (x : D). is_some (d.state x).seen) h.stored.left_by.opened

      full : (bytes : Option (List ℕ)) (sealed : List (List ℕ)) (book : Which) (count : ℕ) → was bytes sealed book count → IsFullByGiven left plan js before bytes sealed book count
      full bytes sealed WhichTypes count is = if_told told _ (λ told_is.
          full_given (IsTypeGiven left plan.version js) IsFairType 0 told before.header.types_limit s.header.types_limit (texts_of_types (told_entries (state_of before))) (texts_of_types (journal_of s)) (texts_of_types h.stored.fresh)
          t_saved s.types_saved types types' s.types to h.of_types t_owned (subst (λ b. KnowsBook IsFairType 0 s.header.types_limit b s.types s.types_saved (texts_of_types (journal_of s))) same_told h.stored.left_by.kept.types)
          (ap texts_of_types h.stored.grown ∙ types_joined (told_entries (state_of before)) h.stored.fresh) told_is t_apart (IsTextOf plan.version (IsNextOf plan.version bytes sealed) WhichTypes) count is)
      full bytes sealed WhichWords count is = if_told told _ (λ told_is.
          full_given (IsWordGiven left plan.version js) IsFairWord WORDS_FIRST told before.header.words_limit s.header.words_limit (texts_of_words (told_entries (state_of before))) (texts_of_words (journal_of s)) (texts_of_words h.stored.fresh)
          w_saved s.words_saved words words' s.words wo h.of_words w_owned (subst (λ b. KnowsBook IsFairWord WORDS_FIRST s.header.words_limit b s.words s.words_saved (texts_of_words (journal_of s))) same_told h.stored.left_by.kept.words)
          (ap texts_of_words h.stored.grown ∙ words_joined (told_entries (state_of before)) h.stored.fresh) told_is w_apart (IsTextOf plan.version (IsNextOf plan.version bytes sealed) WhichWords) count is)

      these_types : KnowsBook IsFairType 0 s.header.types_limit told s.types s.types_saved (texts_of_types (journal_of s))
      these_types = subst (λ b. KnowsBook IsFairType 0 s.header.types_limit b s.types s.types_saved (texts_of_types (journal_of s))) same_told h.stored.left_by.kept.types

      these_words : KnowsBook IsFairWord WORDS_FIRST s.header.words_limit told s.words s.words_saved (texts_of_words (journal_of s))
      these_words = subst (λ b. KnowsBook IsFairWord WORDS_FIRST s.header.words_limit b s.words s.words_saved (texts_of_words (journal_of s))) same_told h.stored.left_by.kept.words

      after_is : told_entries (state_of after) ≡ journal_of s
      after_is = ap₂ (λ (x : D) n. journal_in (d.state x).seen n) (sym h.stored.left_by.disk) h.stored.left_by.count

      -- what had no room were the rows and the texts of given messages
      room : (file : ℕ) (bytes : Option (List ℕ)) (sealed : List (List ℕ)) (last last' : List (List ℕ) → Type 0) → ((ms : List (List ℕ)) → last ms → last' ms) → (end need : ℕ)
          → HadNoRoomOver (WereKnown (books_at types' words')) plan file bytes before after last sealed end need → HadNoRoomOver (WereGiven left plan js) plan file bytes before after last' sealed end need
      room file bytes sealed last last' further end need had = (had.0, if_told told _ (λ told_is. given told_is (of_told told _ told_is had.1)))
        where
          given : told ≡ true → HadNoRoom before.header plan.rows plan.version file (IsBetween (told_entries (state_of before)) (told_entries (state_of after))) (WereKnown (books_at types' words')) (AreFirstOf plan.version bytes) last sealed end need
              → HadNoRoom before.header plan.rows plan.version file (IsBetween (told_entries (state_of before)) (told_entries (state_of after))) (WereGiven left plan js) (AreFirstOf plan.version bytes) last' sealed end need
          given told_is r =
              let since = r.was_so.0 in
              let on = subst (IsPrefix r.front) after_is r.was_so.1 in
              let before_types = texts_of_types r.front in let before_words = texts_of_words r.front in
              let more_types = drop (length before_types) r.types in let more_words = drop (length before_words) r.words in
              let grown_types = ap texts_of_types h.stored.grown ∙ types_joined (told_entries (state_of before)) h.stored.fresh in
              let grown_words = ap texts_of_words h.stored.grown ∙ words_joined (told_entries (state_of before)) h.stored.fresh in
              let on_types = noted_behind (IsTypeGiven left plan.version js) IsFairType 0 told before.header.types_limit s.header.types_limit (texts_of_types (told_entries (state_of before))) (texts_of_types (journal_of s)) (texts_of_types h.stored.fresh)
              t_saved s.types_saved types types' s.types to h.of_types t_owned these_types grown_types told_is before_types r.types (book_front WhichTypes r.front (journal_of s) on) r.has_types in
              let on_words = noted_behind (IsWordGiven left plan.version js) IsFairWord WORDS_FIRST told before.header.words_limit s.header.words_limit (texts_of_words (told_entries (state_of before))) (texts_of_words (journal_of s)) (texts_of_words h.stored.fresh)
              w_saved s.words_saved words words' s.words wo h.of_words w_owned these_words grown_words told_is before_words r.words (book_front WhichWords r.front (journal_of s) on) r.has_words in record {
                front = r.front;
                was_so = r.was_so;
                ends = r.ends;
                past = r.past;
                types = before_types ++ more_types;
                words = before_words ++ more_words;
                has_types = texts_behind (IsTypeGiven left plan.version js) IsFairType 0 told before.header.types_limit s.header.types_limit (texts_of_types (told_entries (state_of before))) (texts_of_types (journal_of s)) (texts_of_types h.stored.fresh)
                    t_saved s.types_saved types types' s.types to h.of_types t_owned these_types grown_types told_is t_apart before_types r.types
                    (book_front WhichTypes (told_entries (state_of before)) r.front since) (book_front WhichTypes r.front (journal_of s) on) r.has_types;
                has_words = texts_behind (IsWordGiven left plan.version js) IsFairWord WORDS_FIRST told before.header.words_limit s.header.words_limit (texts_of_words (told_entries (state_of before))) (texts_of_words (journal_of s)) (texts_of_words h.stored.fresh)
                    w_saved s.words_saved words words' s.words wo h.of_words w_owned these_words grown_words told_is w_apart before_words r.words
                    (book_front WhichWords (told_entries (state_of before)) r.front since) (book_front WhichWords r.front (journal_of s) on) r.has_words;
                segment = r.segment;
                numbers = r.numbers;
                messages = r.messages;
                file_is = r.file_is;
                next = r.next;
                follows = r.follows;
                cut = ⊎_elim (λ (cut : IsCut plan.rows (part_in r.segment r.messages)). inl cut)
                    (λ (open_end : IsOpen plan.rows (part_in r.segment r.messages) × last (sealed ++ r.messages)). inr (open_end.0, further (sealed ++ r.messages) open_end.1)) r.cut;
                canonical = all_canonical plan.version r.segment.rows r.types r.words (before_types ++ more_types) (before_words ++ more_words) r.messages on_types on_words r.canonical;
                numbers_are = r.numbers_are ∙ ap sorted_set (same_numbers plan.version r.segment.rows r.types r.words (before_types ++ more_types) r.messages on_types r.canonical);
                needs = r.needs ∙ ap₂ (λ t w. min (texts_need (length before_types) t + (texts_need (length before_words) w + record_need r.segment r.numbers)) 18446744073709551615) (sym (drop_front before_types more_types)) (sym (drop_front before_words more_words));
              }
