-- What the passes of a book added, once all ended.
use Rattle.std.proofs.Common.{◌≡◌, ℕ, zero, suc, ◌+◌, ◌<◌, ◌≤◌, Bool, true, false, List, [], ◌∷◌, ◌++◌, length, map, drop, take, get_or, sym, refl, ap, ◌∙◌, subst, ⊎_elim, arith, Option, None, Some, is_some, slice_get, All, append_assoc, take-append-drop}
use Rattle.std.specs.List.{Contains}
use Rattle.std.proofs.lemmas.List.Elements.{All-nil}
use Rattle.std.proofs.lemmas.Option.{slice_get_within, slice_get-get_or, get_or_from_slice_get}
use Rattle.turn_lock.specs.declared.board.About.{About}
use Rattle.turn_lock.specs.declared.grows.Grows.{Ghosts}
use Rattle.turn_lock.specs.History.{Has, StandsIn}
use Rattle.turn_lock.specs.Words.{lock_by, lock_of, made_by, about_by, seen_by, ended_by, own_by, seen, own_list, number_of, IsReady, IsStill, IsStillBy, IsAllOwned}
use Rattle.turn_lock.proofs.FrontLemmas.{prefix_get, prefix_trans}
use Rattle.ingest_fork.specs.Passes.{Fresh, AreStill, Joined, IsOneOf}
use Rattle.ingest_fork.specs.Picked.{NoneAdded}
use Rattle.ingest_fork.specs.Works.{AllWent}
use Rattle.ingest_fork.proofs.PassLemmas.{all_joined, joined_none, joined_more, Joins}
use Rattle.ingest_fork.proofs.PickLemmas.{each_added}
use Rattle.ingest_fork.proofs.PlaceLemmas.{at_right, there_is}
use Rattle.dict_core.specs.Books.{BookState}
use Rattle.dict_core.specs.Fair.{IsFair}
use Rattle.dict_lock.specs.Shared.{BookPass}
use Rattle.logtype_text.specs.Fair.{IsFairType, IsFairWord}
use Rattle.dict_core.specs.declared.grows.TheConstants.{WORDS_FIRST}
use Rattle.log_seams.specs.declared.disk.Disk.{Ghosts as DiskGhosts}
use Rattle.disk_journal.specs.declared.journal.Journal.{Journal}
use Rattle.disk_journal.specs.Journal.{state_of}
use Rattle.archive_meaning.specs.declared.entry.JournalEntry.{JournalEntry}
use Rattle.archive_meaning.specs.Spelled.{types_in, types_of as texts_of_types}
use Rattle.ingest_meaning.specs.WordsIn.{words_in, words_of as texts_of_words}
use Rattle.disk_seal.specs.Told.{IfTold, journal_in}
use Rattle.disk_seal.specs.View.{KnowsBook, StoreState, state_by, journal_of}
use Rattle.ingest_workers.specs.declared.job.Job.{Job}
use Rattle.ingest_workers.specs.declared.worker.Plan.{Plan}
use Rattle.ingest_workers.specs.declared.worker.Worker.{Worker}
use Rattle.ingest_workers.specs.Naming.{AddsOnly}
use Rattle.ingest_workers.specs.Worker.{IsIdle, IsGiven, DidOnly, books_in, types_of, words_of}
use Rattle.ingest_workers.specs.WorkerLaws.{wider}
use Rattle.ingest_workers.specs.StartedWorkers.{BookMaker, HasEnded, HasEnrolled, MayDismiss, EndsBook}
use Rattle.ingest_workers.specs.Ingested.{OpensBook, IsTypeGiven, IsWordGiven, HasEndedBooks, HasIngested, books_at, told_entries}
use Rattle.disk_seal.specs.Known.{limit_in}
use Rattle.row_codec.specs.declared.namer.Which.{Which}
use Rattle.row_codec.specs.declared.namer.Which.TheVariants.{Types as WhichTypes, Words as WhichWords}
use Rattle.ingest_meaning.specs.Given.{IsAmongFirst, IsOneOf as IsMessageOf}
use Rattle.ingest_workers.specs.Full.{IsMore, book_of}
use Rattle.ingest_workers.specs.JobDone.{in_source}
use Rattle.ingest_workers.specs.Met.{WasMet}
use Rattle.ingest_workers.specs.Outcome.{met_by}
use Rattle.ingest_workers.proofs.CrewLemmas.{map_at, map_back, map_count}

module _ {G : Ghosts BookState (List ℕ) ℕ} where
  pub joined_one : (m m' : BookMaker G) (p : BookPass) → Joins m m' p → Joined m m' (p ∷ []) 0
  joined_one m m' p j = joined_more m m m' (p ∷ []) 0 p refl (joined_none m (p ∷ [])) j

  -- a maker that joined a pass first which added nothing has joined none that did
  pub none_added : (m later : BookMaker G) (reader : BookPass) → ended_by m ≡ [] → Joined m later (reader ∷ []) 0 → own_list reader ≡ [] → NoneAdded later
  none_added m later reader empty read own n has = ⊎_elim
      (λ (old : Has (ended_by m) n). absurd (subst (λ l. Has l n) empty old))
      (λ (one : IsOneOf (reader ∷ []) 0 n). by_place one.0 one.1 one.3 one.4) (read.only n has)
    where
      by_place : (i : ℕ) (p : BookPass) → slice_get (reader ∷ []) i ≡ Some p → number_of p ≡ n → own_by later n ≡ []
      by_place zero p at is = let same : reader ≡ p = cc (at) in ap (own_by later) (sym is ∙ ap (λ (x : BookPass). number_of x) (sym same)) ∙ ((read.each 0 reader (omega arith) refl).own_is ∙ own)
      by_place (suc i) p at is = absurd (cc (at))

  -- the reader's pass was the first, and it ended before the others
  pub ends_book : (P : List ℕ → Type 0) (first : ℕ) (told : Bool) (limit : ℕ) (texts : List (List ℕ)) (saved : ℕ) (m m1 m2 later end : BookMaker G) (reader : BookPass) (ps qs : List BookPass) (count : ℕ)
      → OpensBook first told limit texts saved m → IsStillBy m m1 → made_by m1 ≡ made_by m + 1 → Fresh m1 m2 ps count → AreStill ps qs
      → Joined m2 later (reader ∷ []) 0 → number_of reader ≡ first → own_list reader ≡ [] → Joined later end qs 0
      → ((i : ℕ) (p : BookPass) → slice_get qs i ≡ Some p → (j : ℕ) (t : List ℕ) → StandsIn (own_list p) j t → P t) → EndsBook P m end reader
  ends_book P first told limit texts saved m m1 m2 later end reader ps qs count o s made fresh still read number own joined each = record {
    lock = joined.lock ∙ (read.lock ∙ (fresh.still.lock ∙ s.lock));
    about_is = joined.about_is ∙ (read.about_is ∙ (fresh.still.about_is ∙ s.about_is));
    all = all_joined m1 m2 later end ps qs count fresh still (record { about_is = read.about_is; made = read.made; others = others }) joined;
    seen_on = prefix_trans (seen reader) (seen_by later) (seen_by end) (read.each 0 reader (omega arith) refl).seen_on joined.seen_on;
    middle = later;
    passes = qs;
    joined = joined;
    none = none_added m2 later reader (fresh.still.ended ∙ (s.ended ∙ o.opening.ended)) read own;
    each = each;
  }
    where
      others : (a : About ℕ) (n : ℕ) → about_by m1 ≡ Some a → a.first ≤ n → n < a.first + made_by m1 → Has (ended_by later) n
      others a n is low high = let known = s.about_is ∙ o.opening.about_is in let start : a.first ≡ first = ap (λ (x : About ℕ). x.first) (let same : a ≡ record { first = first; start = length o.book.texts; fixed = o.book.limit } = cc (is, known) in same) in
          let zero_made = o.opening.made in let place : number_of reader ≡ n = omega arith in
          subst (λ (x : ℕ). Has (ended_by later) x) place (read.each 0 reader (omega arith) refl).ended

  -- each text that the journal has past those of the opening was added by one of the passes
  pub texts_given : (P F : List ℕ → Type 0) (first : ℕ) (told : Bool) (limit limit' : ℕ) (texts texts' more : List (List ℕ)) (saved saved' : ℕ) (m end : BookMaker G) (reader : BookPass)
      → OpensBook first told limit texts saved m → EndsBook P m end reader → IsAllOwned IsFair end → KnowsBook F first limit' told reader saved' texts' → texts' ≡ texts ++ more → IfTold told (All P more)
  texts_given P F first told limit limit' texts texts' more saved saved' m end reader o e owned k is = by_told told o.has.are k.front
    where
      at_place : (book : BookState) → about_by m ≡ Some (record { first = first; start = length book.texts; fixed = book.limit }) → book.texts ≡ texts → take saved' (seen reader) ≡ texts' → All P more
      at_place book about_m same front i d lt = let at : slice_get more i ≡ Some (get_or more i d) = slice_get-get_or more i d lt in
          let here : slice_get (texts ++ more) (length texts + i) ≡ Some (get_or more i d) = at_right texts more i ∙ at in
          let in_front : slice_get (take saved' (seen reader)) (length texts + i) ≡ Some (get_or more i d) = subst (λ l. slice_get l (length texts + i) ≡ Some (get_or more i d)) (sym (front ∙ is)) here in
          let in_seen : slice_get (seen reader) (length texts + i) ≡ Some (get_or more i d) = prefix_get (take saved' (seen reader)) (seen reader) (length texts + i) (get_or more i d) (drop saved' (seen reader), take-append-drop saved' (seen reader)) in_front in
          let in_book : slice_get (seen_by end) (length texts + i) ≡ Some (get_or more i d) = prefix_get (seen reader) (seen_by end) (length texts + i) (get_or more i d) e.seen_on in_seen in
          let long : length book.texts ≡ length texts = ap length same in let low : length book.texts ≤ length texts + i = omega (arith, long) in
          let a = each_added IsFair end e.middle e.passes owned e.joined e.none (record { first = first; start = length book.texts; fixed = book.limit }) (length texts + i) (get_or more i d) (e.about_is ∙ about_m) low in_book in
          e.each a.place a.pass a.is (length texts + i) (get_or more i d) a.own

      by_told : (b : Bool) → IfTold b ((o.book.texts ≡ texts) × (o.book.limit ≡ limit)) → IfTold b (take saved' (seen reader) ≡ texts') → IfTold b (All P more)
      by_told false are front = tt
      by_told true are front = at_place o.book o.opening.about_is are.0 front

-- what a pass added has such texts alone
pub own_texts : (P : List ℕ → Type 0) (p q : BookPass) → AddsOnly P p q → own_list p ≡ [] → (j : ℕ) (t : List ℕ) → StandsIn (own_list q) j t → P t
own_texts P p q adds none j t (i, at) = let grown = adds.grown in
    let texts : map (λ x. x.1) (own_list q) ≡ grown.more = grown.added ∙ ap (λ l. map (λ x. x.1) l ++ grown.more) none in
    let here : slice_get grown.more i ≡ Some t = subst (λ l. slice_get l i ≡ Some t) texts (map_at (λ (x : ℕ × List ℕ). x.1) (own_list q) i (j, t) at) in
    let lt = slice_get_within grown.more i t here in subst P (get_or_from_slice_get grown.more i t t here) (grown.allowed i t lt)

-- one of the first messages is one of them
among_taken : (n : ℕ) (messages : List (List ℕ)) (m : List ℕ) → Contains (take n messages) m → Contains messages m
among_taken n messages m (k, lt, is) =
    let here : slice_get (take n messages) k ≡ Some m = slice_get-get_or (take n messages) k m lt ∙ ap (λ (x : List ℕ). Some x) is in
    let at = prefix_get (take n messages) messages k m (drop n messages, take-append-drop n messages) here in
    (k, slice_get_within messages k m at, get_or_from_slice_get messages k m m at)

one_of_first : (version n : ℕ) (bytes : Option (List ℕ)) (m : List ℕ) → IsAmongFirst version bytes n m → IsMessageOf version bytes m
one_of_first version n None m is = tt
one_of_first version n (Some b) m is = λ messages ended of. among_taken n messages m (is messages ended of)

-- a message that a job met is one of its source
pub met_given : {S : Type 0} (left : S → Option (List ℕ)) (rows version : ℕ) (js js' : List (Job S)) (m : List ℕ) → WasMet left rows version js js' m → IsGiven left version js m
met_given left rows version js js' m met = (met.0, met.1, met.3, one_of_first version (met_by rows met.2.outcome) (in_source left met.1.source) m met.5)

module _ {S : Type 0} (left : S → Option (List ℕ)) {G : Ghosts BookState (List ℕ) ℕ} (plan : Plan) (js js' : List (Job S)) (t1 t2 w1 w2 : BookMaker G) (ws ws' : List Worker) (count : ℕ) (e : HasEnrolled t1 t2 w1 w2 plan ws count) (went : AllWent IsIdle (DidOnly left) js js' ws ws') where
  -- a worker at the end is the one at its place at the beginning
  worker_at : (i : ℕ) (v : Worker) → slice_get ws' i ≡ Some v → (w : Worker) × (slice_get ws i ≡ Some w) × IsIdle v × DidOnly left js js' w v
  worker_at i v at = let even = went.workers in let lt = slice_get_within ws' i v at in let w = there_is ws i (omega arith) in let g = went.each i w.0 w.1 in
      let same : g.worker ≡ v = cc (g.worker_is, at) in
      (w.0, w.1, subst IsIdle same g.ready_now, subst (λ (x : Worker). DidOnly left js js' w.0 x) same (wider left js js' g.piece g.piece' w.0 g.worker g.are g.went_to))

  pub may_dismiss : (types words : BookMaker G) → lock_by types ≡ lock_by t2 → lock_by words ≡ lock_by w2 → MayDismiss types words ws'
  may_dismiss types words t_same w_same = record {
    of_types = λ i p at. let v = map_back types_of ws' i p at in let r = worker_at i v.0 v.1 in let f = e.of_types.each i (types_of r.0) (map_at types_of ws i r.0 r.1) in
        subst (λ (x : BookPass). (lock_of x ≡ lock_by types) × IsReady x) v.2 (r.3.names.types.goes.still.lock ∙ (f.lock ∙ (sym e.of_types.still.lock ∙ sym t_same)), r.2.types_ready);
    of_words = λ i p at. let v = map_back words_of ws' i p at in let r = worker_at i v.0 v.1 in let f = e.of_words.each i (words_of r.0) (map_at words_of ws i r.0 r.1) in
        subst (λ (x : BookPass). (lock_of x ≡ lock_by words) × IsReady x) v.2 (r.3.names.words.goes.still.lock ∙ (f.lock ∙ (sym e.of_words.still.lock ∙ sym w_same)), r.2.words_ready);
  }

  pub types_still : AreStill (map types_of ws) (map types_of ws')
  types_still = record {
    counted = map_count types_of ws' ∙ (went.workers ∙ sym (map_count types_of ws));
    each = λ i p q one two. let v = map_back types_of ws' i q two in let r = worker_at i v.0 v.1 in let same : types_of r.0 ≡ p = cc (map_at types_of ws i r.0 r.1, one) in
        subst (λ (x : BookPass). IsStill p x) v.2 (subst (λ (x : BookPass). IsStill x (types_of v.0)) same r.3.names.types.goes.still);
  }

  pub words_still : AreStill (map words_of ws) (map words_of ws')
  words_still = record {
    counted = map_count words_of ws' ∙ (went.workers ∙ sym (map_count words_of ws));
    each = λ i p q one two. let v = map_back words_of ws' i q two in let r = worker_at i v.0 v.1 in let same : words_of r.0 ≡ p = cc (map_at words_of ws i r.0 r.1, one) in
        subst (λ (x : BookPass). IsStill p x) v.2 (subst (λ (x : BookPass). IsStill x (words_of v.0)) same r.3.names.words.goes.still);
  }

  -- once the makers have joined all, they know what each worker does of the books
  pub books_known : (types' words' : BookMaker G) (types_reader words_reader : BookPass) → HasEnded t2 types' w2 words' types_reader words_reader ws' → (i : ℕ) (v : Worker) → slice_get ws' i ≡ Some v
      → (book : Which) → IsMore (book_of (books_in v) book) (book_of (books_at types' words') book)
  books_known types' words' types_reader words_reader ended i v at WhichTypes = let r = worker_at i v at in let f = e.of_types.each i (types_of r.0) (map_at types_of ws i r.0 r.1) in let joined = ended.dismissed.of_types in record {
    front = (joined.each i (types_of v) (omega arith) (map_at types_of ws' i v at)).seen_on;
    limit = ap limit_in ((joined.about_is ∙ (ended.types_read.about_is ∙ e.of_types.still.about_is)) ∙ (sym f.about_is ∙ sym r.3.names.types.goes.still.about_is));
  }
  books_known types' words' types_reader words_reader ended i v at WhichWords = let r = worker_at i v at in let f = e.of_words.each i (words_of r.0) (map_at words_of ws i r.0 r.1) in let joined = ended.dismissed.of_words in record {
    front = (joined.each i (words_of v) (omega arith) (map_at words_of ws' i v at)).seen_on;
    limit = ap limit_in ((joined.about_is ∙ (ended.words_read.about_is ∙ e.of_words.still.about_is)) ∙ (sym f.about_is ∙ sym r.3.names.words.goes.still.about_is));
  }

  pub types_each : (i : ℕ) (p : BookPass) → slice_get (map types_of ws') i ≡ Some p → (j : ℕ) (t : List ℕ) → StandsIn (own_list p) j t → IsTypeGiven left plan.version js t
  types_each i p at j t own = let v = map_back types_of ws' i p at in let r = worker_at i v.0 v.1 in let f = e.of_types.each i (types_of r.0) (map_at types_of ws i r.0 r.1) in
      let mine : StandsIn (own_list (types_of v.0)) j t = subst (λ (x : BookPass). StandsIn (own_list x) j t) (sym v.2) own in
      let has = own_texts _ (types_of r.0) (types_of v.0) r.3.names.types f.own_is j t mine in let at_plan = e.planned i r.0 r.1 in
      subst (λ (x : Plan). IsTypeGiven left x.version js t) at_plan (has.0, met_given left r.0.plan.rows r.0.plan.version js js' has.0 has.1, has.2)

  pub words_each : (i : ℕ) (p : BookPass) → slice_get (map words_of ws') i ≡ Some p → (j : ℕ) (t : List ℕ) → StandsIn (own_list p) j t → IsWordGiven left plan.version js t
  words_each i p at j t own = let v = map_back words_of ws' i p at in let r = worker_at i v.0 v.1 in let f = e.of_words.each i (words_of r.0) (map_at words_of ws i r.0 r.1) in
      let mine : StandsIn (own_list (words_of v.0)) j t = subst (λ (x : BookPass). StandsIn (own_list x) j t) (sym v.2) own in
      let has = own_texts _ (words_of r.0) (words_of v.0) r.3.names.words f.own_is j t mine in let at_plan = e.planned i r.0 r.1 in
      subst (λ (x : Plan). IsWordGiven left x.version js t) at_plan (has.0, met_given left r.0.plan.rows r.0.plan.version js js' has.0 has.1, has.2)

-- where nothing is told there is no entry
none_in : (o : Option (List ℕ)) (n : ℕ) → is_some o ≡ false → journal_in o n ≡ []
none_in None n is = refl
none_in (Some bytes) n is = absurd (cc (is))

by_told : (b : Bool) (X : Type 0) → IfTold b X → (b ≡ false → X) → X
by_told true X x f = x
by_told false X x f = f refl

pub types_joined : (xs ys : List JournalEntry) → texts_of_types (xs ++ ys) ≡ texts_of_types xs ++ texts_of_types ys
types_joined [] ys = refl
types_joined (x ∷ xs) ys = ap (λ l. types_in x ++ l) (types_joined xs ys) ∙ sym (append_assoc (types_in x) (texts_of_types xs) (texts_of_types ys))

pub words_joined : (xs ys : List JournalEntry) → texts_of_words (xs ++ ys) ≡ texts_of_words xs ++ texts_of_words ys
words_joined [] ys = refl
words_joined (x ∷ xs) ys = ap (λ l. words_in x ++ l) (words_joined xs ys) ∙ sym (append_assoc (words_in x) (texts_of_words xs) (texts_of_words ys))

module _ {S D : Type 0} {d : DiskGhosts D} {G : Ghosts BookState (List ℕ) ℕ} (left : S → Option (List ℕ)) (plan : Plan) (js js' : List (Job S)) (before after : Journal D d) (types types' words words' : BookMaker G) where
  pub has_ingested : (t_saved w_saved : ℕ)
      → OpensBook 0 (is_some (state_of before).disk.seen) before.header.types_limit (texts_of_types (told_entries (state_of before))) t_saved types
      → OpensBook WORDS_FIRST (is_some (state_of before).disk.seen) before.header.words_limit (texts_of_words (told_entries (state_of before))) w_saved words
      → HasEndedBooks left plan js js' before after types types' words words' → IsAllOwned IsFair types' → IsAllOwned IsFair words' → HasIngested left plan js js' before after
  has_ingested t_saved w_saved to wo h t_owned w_owned = record {
    store = h.store;
    stored = h.stored;
    types = by_told told (All (IsTypeGiven left plan.version js) (texts_of_types fresh))
        (texts_given (IsTypeGiven left plan.version js) IsFairType 0 told before.header.types_limit s.header.types_limit (texts_of_types (told_entries (state_of before))) (texts_of_types (journal_of s)) (texts_of_types fresh)
        t_saved s.types_saved types types' s.types to h.of_types t_owned (subst (λ b. KnowsBook IsFairType 0 s.header.types_limit b s.types s.types_saved (texts_of_types (journal_of s))) same_told h.stored.left_by.kept.types)
        (ap texts_of_types h.stored.grown ∙ types_joined (told_entries (state_of before)) fresh))
        (λ untold. subst (λ es. All (IsTypeGiven left plan.version js) (texts_of_types es)) (sym (no_more untold)) (All-nil (IsTypeGiven left plan.version js)));
    words = by_told told (All (IsWordGiven left plan.version js) (texts_of_words fresh))
        (texts_given (IsWordGiven left plan.version js) IsFairWord WORDS_FIRST told before.header.words_limit s.header.words_limit (texts_of_words (told_entries (state_of before))) (texts_of_words (journal_of s)) (texts_of_words fresh)
        w_saved s.words_saved words words' s.words wo h.of_words w_owned (subst (λ b. KnowsBook IsFairWord WORDS_FIRST s.header.words_limit b s.words s.words_saved (texts_of_words (journal_of s))) same_told h.stored.left_by.kept.words)
        (ap texts_of_words h.stored.grown ∙ words_joined (told_entries (state_of before)) fresh))
        (λ untold. subst (λ es. All (IsWordGiven left plan.version js) (texts_of_words es)) (sym (no_more untold)) (All-nil (IsWordGiven left plan.version js)));
  }
    where
      told : Bool
      told = is_some (state_of before).disk.seen

      fresh : List JournalEntry
      fresh = h.stored.fresh

      s : StoreState
      s = state_by d.state h.store

      same_told : is_some (d.state h.store.opened).seen ≡ told
      same_told = ap (λ (x : D). is_some (d.state x).seen) h.stored.left_by.opened

      no_more : told ≡ false → fresh ≡ []
      no_more untold = let now : journal_of s ≡ [] = none_in s.disk.seen s.count (h.stored.left_by.kept.tells_still ∙ (same_told ∙ untold)) in
          let was : told_entries (state_of before) ≡ [] = none_in (state_of before).disk.seen (state_of before).count untold in
          sym (ap (λ l. l ++ fresh) was) ∙ (sym h.stored.grown ∙ now)
