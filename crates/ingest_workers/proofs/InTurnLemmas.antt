-- One worker does the jobs in their order: which texts fill a book then.
use Rattle.std.proofs.Common.{◌≡◌, ℕ, ◌+◌, ◌-◌, ◌<◌, ◌≤◌, Bool, List, [], ◌∷◌, ◌++◌, length, map, take, sym, refl, ap, ◌∙◌, subst, ⊎_elim, arith, Option, None, Some, is_some, slice_get, append_assoc, length-append}
use Rattle.std.proofs.lemmas.Bool.{cases_lt}
use Rattle.std.proofs.lemmas.List.{take_at}
use Rattle.std.proofs.lemmas.Option.{slice_get_within, get_or_from_slice_get}
use Rattle.log_seams.specs.declared.disk.Disk.{Ghosts as DiskGhosts}
use Rattle.log_seams.specs.Disk.{DiskState}
use Rattle.turn_lock.specs.declared.grows.Grows.{Ghosts}
use Rattle.turn_lock.specs.History.{Has, StandsIn}
use Rattle.turn_lock.specs.Words.{ended_by, own_by, own_list, number_of, seen, seen_by, IsAllOwned, IsStillBy}
use Rattle.turn_lock.proofs.FrontLemmas.{prefix_get, prefix_length}
use Rattle.ingest_fork.specs.Passes.{IsOneOf, Joined}
use Rattle.ingest_fork.specs.Picked.{NoneAdded}
use Rattle.ingest_fork.specs.Works.{ArePieces, Done, IsInPiece}
use Rattle.ingest_fork.proofs.PlaceLemmas.{at_seam, in_left, in_right, there_is}
use Rattle.dict_core.specs.Books.{BookState}
use Rattle.dict_core.specs.Fair.{IsFair}
use Rattle.dict_core.specs.declared.grows.TheConstants.{WORDS_FIRST}
use Rattle.dict_lock.specs.Shared.{BookPass, OwnsBehind}
use Rattle.logtype_text.specs.Fair.{IsFairType, IsFairWord}
use Rattle.row_codec.specs.declared.namer.Which.{Which}
use Rattle.row_codec.specs.declared.namer.Which.TheVariants.{Types, Words}
use Rattle.plain_list.specs.Texts.{AreDistinct}
use Rattle.archive_meaning.specs.Spelled.{types_of as texts_of_types}
use Rattle.disk_journal.specs.declared.journal.Journal.{Journal}
use Rattle.disk_journal.specs.Journal.{state_of}
use Rattle.disk_seal.specs.Fixed.{KeeperPass}
use Rattle.disk_seal.specs.View.{KnowsBook, StoreState, StoreView, state_by, journal_of}
use Rattle.ingest_meaning.specs.WordsIn.{words_of as texts_of_words}
use Rattle.ingest_workers.specs.declared.job.Job.{Job}
use Rattle.ingest_workers.specs.declared.outcome.Cause.TheVariants.{Full}
use Rattle.ingest_workers.specs.declared.worker.Plan.{Plan}
use Rattle.ingest_workers.specs.declared.worker.Worker.{Worker}
use Rattle.ingest_workers.specs.Causes.{HasJobCause, grounds_of, log_of}
use Rattle.ingest_workers.specs.StartedWorkers.{BookMaker, HasEnded, HasEnrolled}
use Rattle.ingest_workers.specs.Full.{Books, IsMore, WasFullBehind, book_of}
use Rattle.ingest_meaning.specs.Given.{IsMessageAt, IsNextOf}
use Rattle.ingest_workers.specs.Ingested.{HasEndedBooks, IsTypeGiven, IsWordGiven, OpensBook, books_at, told_entries}
use Rattle.ingest_workers.specs.InTurn.{AreFullInTurn, IsFullInTurn, IsMetBy, IsNextFor, WasFilled, WereFilled}
use Rattle.ingest_workers.specs.JobDone.{IsDone, in_source}
use Rattle.ingest_workers.specs.Locked.{HasWorked}
use Rattle.ingest_workers.specs.Met.{WasMet, WasMetBy}
use Rattle.ingest_workers.specs.Naming.{AddsOnly}
use Rattle.ingest_workers.specs.Worker.{DidJob, DidOnly, NamesOnly, books_in, passes_of, types_of, words_of}
use Rattle.ingest_workers.specs.WorkerLaws.{met_wider, names_at, names_then, names_wider, wider}
use Rattle.ingest_workers.proofs.ClosingLemmas.{books_known, none_added, own_texts, types_joined, words_joined}
use Rattle.ingest_workers.proofs.CrewLemmas.{map_at, map_count}
use Rattle.ingest_workers.proofs.FullLemmas.{full_wider}
use Rattle.ingest_workers.proofs.GivenLemmas.{full_filled}
use Rattle.ingest_workers.proofs.IngestLemmas.{done_by, known_on}
use Rattle.ingest_workers.proofs.SealLemmas.{if_told}

-- ---- the jobs up to one

-- the jobs before a piece, those of the piece before a job, and the job
take_to : {X : Type 0} (all before front rest : List X) (x : X) (i : ℕ) → all ≡ before ++ (front ++ (x ∷ rest)) → i ≡ length before + length front → take (i + 1) all ≡ before ++ (front ++ x ∷ [])
take_to all before front rest x i cut place =
    let inner = length-append front (x ∷ []) in let outer = length-append before (front ++ x ∷ []) in
    ap (take (i + 1)) (cut ∙ (ap (λ l. before ++ l) (sym (append_assoc front (x ∷ []) rest)) ∙ sym (append_assoc before (front ++ x ∷ []) rest)))
    ∙ take_at (before ++ (front ++ x ∷ [])) rest (i + 1) (omega arith)

module _ {J : Type 0} (js js' : List J) (i : ℕ) (j j' : J) (front front' rest rest' : List J) (p : IsInPiece js js' i j j' front front' rest rest') where
  place_then : i ≡ length p.before' + length front'
  place_then = let place = p.place in let even = p.even in let same = p.same in omega arith

  -- those before it in its piece are some of the jobs up to it
  front_piece : ArePieces (take (i + 1) js) (take (i + 1) js') front front'
  front_piece = record {
    before = p.before;
    before' = p.before';
    behind = j ∷ [];
    behind' = j' ∷ [];
    cut = take_to js p.before front (rest ++ p.behind) j i p.cut p.place;
    cut' = take_to js' p.before' front' (rest' ++ p.behind') j' i p.cut' place_then;
    even = p.even;
    same = p.same;
  }

  -- so is it
  last_piece : ArePieces (take (i + 1) js) (take (i + 1) js') (j ∷ []) (j' ∷ [])
  last_piece = record {
    before = p.before ++ front;
    before' = p.before' ++ front';
    behind = [];
    behind' = [];
    cut = take_to js p.before front (rest ++ p.behind) j i p.cut p.place ∙ sym (append_assoc p.before front (j ∷ []));
    cut' = take_to js' p.before' front' (rest' ++ p.behind') j' i p.cut' place_then ∙ sym (append_assoc p.before' front' (j' ∷ []));
    even = let even = p.even in let same = p.same in let one = length-append p.before front in let two = length-append p.before' front' in omega arith;
    same = refl;
  }

module _ {S D : Type 0} (state : D → DiskState) (left name : S → Option (List ℕ)) (faults : S → ℕ) (ws ws' : List Worker) (js js' : List (Job S)) (ks' : List (KeeperPass D)) (i : ℕ) (j : Job S) (k : KeeperPass D)
    (f : Done (DidOnly left) (DidJob state left name faults) ws ws' js js' ks' i j k) where
  -- all that the worker named from the beginning to behind a job are texts of messages that jobs up to it met
  named_to : (plan : Plan) → f.first.plan ≡ plan → NamesOnly plan.version (WasMet left plan.rows plan.version (take (i + 1) js) (take (i + 1) js')) (passes_of f.first) (passes_of f.after)
  named_to plan planned =
      let upto = take (i + 1) js in let upto' = take (i + 1) js' in
      let came = wider left upto upto' f.front f.front' f.first f.before (front_piece js js' i j f.job f.front f.front' f.rest f.rest' f.of_piece) f.came in
      let was = f.before.plan in
      let now = names_wider was.version (WasMetBy left was.rows was.version j f.job.outcome) (WasMet left was.rows was.version upto upto') (passes_of f.before) (passes_of f.after)
      (λ m met. met_wider left was.rows was.version upto upto' (j ∷ []) (f.job ∷ []) m (last_piece js js' i j f.job f.front f.front' f.rest f.rest' f.of_piece) (0, j, f.job, refl, refl, met)) f.did_it.names in
      names_at left f.first.plan plan upto upto' (passes_of f.first) (passes_of f.after) planned
      (names_then f.first.plan.version (WasMet left f.first.plan.rows f.first.plan.version upto upto') (passes_of f.first) (passes_of f.before) (passes_of f.after) came.names
      (names_at left f.before.plan f.first.plan upto upto' (passes_of f.before) (passes_of f.after) f.came.plan now))

-- ---- the own list of the one worker's pass

-- what a pass added below the end of what it had seen, it had added then
stands_before : (a v : BookPass) → OwnsBehind a v → (k : ℕ) (t : List ℕ) → StandsIn (own_list v) k t → k < length (seen a) → StandsIn (own_list a) k t
stands_before a v own k t (n, at) low =
    let here : slice_get (own_list a ++ own.more) n ≡ Some (k, t) = subst (λ l. slice_get l n ≡ Some (k, t)) own.is at in
    ⊎_elim
    (λ (lt : n < length (own_list a)). (n, sym (in_left (own_list a) own.more n lt) ∙ here))
    (λ (le : length (own_list a) ≤ n). absurd (late (n - length (own_list a)) (sym (in_right (own_list a) own.more n le) ∙ here))) (cases_lt n (length (own_list a)))
  where
    late : (x : ℕ) → slice_get own.more x ≡ Some (k, t) → ⊥
    late x there =
        let far : length (seen a) ≤ k = subst (λ (y : ℕ × List ℕ). length (seen a) ≤ y.0) (get_or_from_slice_get own.more x (k, t) (k, t) there) (own.behind x (k, t) (slice_get_within own.more x (k, t) there)) in
        omega (arith, far, low)

module _ {G : Ghosts BookState (List ℕ) ℕ} where
  -- a maker that joined one pass that added something knows what that one added
  one_added : (later end : BookMaker G) (ps : List BookPass) (v : BookPass) → length ps ≡ 1 → slice_get ps 0 ≡ Some v → NoneAdded later → Joined later end ps 0
      → (n k : ℕ) (t : List ℕ) → Has (ended_by end) n → StandsIn (own_by end n) k t → StandsIn (own_list v) k t
  one_added later end ps v one here none joined n k t has own = ⊎_elim
      (λ (old : Has (ended_by later) n). nothing (subst (λ l. StandsIn l k t) ((joined.before n old).1 ∙ none n old) own))
      (λ (of : IsOneOf ps 0 n). by_place of.0 of.1 of.2 of.3 of.4) (joined.only n has)
    where
      nothing : StandsIn {E = List ℕ} [] k t → StandsIn (own_list v) k t
      nothing s = absurd (cc (s.1))

      by_place : (i : ℕ) (p : BookPass) → 0 ≤ i → slice_get ps i ≡ Some p → number_of p ≡ n → StandsIn (own_list v) k t
      by_place i p le at is =
          let lt = slice_get_within ps i p at in let first : i ≡ 0 = omega (arith, lt, one) in
          let there : slice_get ps 0 ≡ Some p = subst (λ (x : ℕ). slice_get ps x ≡ Some p) first at in
          let same : p ≡ v = cc (there, here) in
          subst (λ (x : BookPass). StandsIn (own_list x) k t) same (subst (λ l. StandsIn l k t) (ap (own_by end) (sym is) ∙ (joined.each i p le at).own_is) own)

  -- so below the end of what it had seen behind a job it added such texts alone
  each_such : (P : List ℕ → Type 0) (first after last : BookPass) (m later end : BookMaker G) (reader : BookPass) (ps : List BookPass) (count : ℕ) → own_list first ≡ [] → AddsOnly P first after → OwnsBehind after last → count ≤ length (seen after)
      → length ps ≡ 1 → slice_get ps 0 ≡ Some last → ended_by m ≡ [] → own_list reader ≡ [] → Joined m later (reader ∷ []) 0 → Joined later end ps 0
      → (n k : ℕ) (t : List ℕ) → Has (ended_by end) n → StandsIn (own_by end n) k t → k < count → P t
  each_such P first after last m later end reader ps count none adds behind few one here empty own read joined n k t has stands lt =
      own_texts P first after adds none k t (stands_before after last behind k t (one_added later end ps last one here (none_added m later reader empty read own) joined n k t has stands) (omega (arith, few, lt)))

-- ---- a book that a job filled

next_at : (version : ℕ) (bytes : Option (List ℕ)) (sealed : List (List ℕ)) (m : List ℕ) → IsNextOf version bytes sealed m → IsMessageAt version bytes (length sealed) m
next_at version None sealed m is = tt
next_at version (Some b) sealed m is = λ messages ended of. prefix_get (sealed ++ m ∷ []) messages (length sealed) m (is messages ended of) (at_seam sealed [] m)

-- what a full book says where a job's cause is that
full_at : {S D : Type 0} (state : D → DiskState) (left name : S → Option (List ℕ)) (faults : S → ℕ) (rows version : ℕ) (books : Books) (j j' : Job S) (p q : KeeperPass D) (done : IsDone state left name faults rows version books j p j' q)
    (book : Which) (count : ℕ) → j'.outcome.cause ≡ Some (Full book count) → WasFullBehind version books (left done.source.before) done.came.covered book count
full_at state left name faults rows version books j j' p q done book count is =
    let bytes = left done.source.before in
    (subst (HasJobCause (grounds_of state rows version books bytes p q) (log_of left faults done.source.before done.source.after) version done.came.covered) is done.came.caused).1

-- it was of as many texts as were known of the book
few_known : (version : ℕ) (books : Books) (bytes : Option (List ℕ)) (sealed : List (List ℕ)) (book : Which) (count : ℕ) → WasFullBehind version books bytes sealed book count → count ≤ length (book_of books book).texts
few_known version books bytes sealed book count full = omega (arith, full.all, prefix_length full.front (book_of books book).texts full.begins)

module _ {S D : Type 0} {d : DiskGhosts D} {G : Ghosts BookState (List ℕ) ℕ} (left name : S → Option (List ℕ)) (faults : S → ℕ) (plan : Plan) (js js' : List (Job S)) (types t1 t2 types' words w1 w2 words' : BookMaker G) (first : ℕ) (ws ws' : List Worker) (opened store : StoreView D)
    (workers : ℕ) (one : workers ≡ 1) (h : HasWorked d.state left name faults first ws ws' js js' opened store) (e : HasEnrolled t1 t2 w1 w2 plan ws workers) (ended : HasEnded t2 types' w2 words' store.types store.words ws')
    (t_still : IsStillBy types t1) (w_still : IsStillBy words w1) (t_new : ended_by types ≡ []) (w_new : ended_by words ≡ []) (t_reads : own_list store.types ≡ []) (w_reads : own_list store.words ≡ []) where
  one_worker : length ws' ≡ 1
  one_worker = h.went.workers ∙ (e.counted ∙ one)

  module _ (i : ℕ) (old : Job S) (k : KeeperPass D) (f : Done (DidOnly left) (DidJob d.state left name faults) ws ws' js js' h.passes' i old k) where
    at_first : slice_get ws' 0 ≡ Some f.last
    at_first = let lt = slice_get_within ws' f.place f.last f.last_is in let is : f.place ≡ 0 = omega (arith, lt, one_worker) in subst (λ (n : ℕ). slice_get ws' n ≡ Some f.last) is f.last_is

    named : NamesOnly plan.version (WasMet left plan.rows plan.version (take (i + 1) js) (take (i + 1) js')) (passes_of f.first) (passes_of f.after)
    named = named_to d.state left name faults ws ws' js js' h.passes' i old k f plan (e.planned f.place f.first f.first_is)

    done : IsDone d.state left name faults plan.rows plan.version (books_in f.after) old k f.job f.keeper
    done = done_by d.state left name faults plan ws ws' js js' h.passes' i old k f e.planned

    next : (m : List ℕ) → IsNextOf plan.version (left done.source.before) done.came.covered m → IsMessageAt plan.version (in_source left old.source) f.job.outcome.messages m
    next m is = subst (λ s. IsMessageAt plan.version (in_source left s) f.job.outcome.messages m) (sym done.source.had)
        (subst (λ n. IsMessageAt plan.version (left done.source.before) n m) (sym done.came.count) (next_at plan.version (left done.source.before) done.came.covered m is))

    more : (book : Which) → IsMore (book_of (books_in f.after) book) (book_of (books_at types' words') book)
    more = known_on left f.rest f.rest' f.after f.last (books_at types' words') f.goes (books_known left plan js js' t1 t2 w1 w2 ws ws' workers e h.went types' words' store.types store.words ended f.place f.last f.last_is)

    was_filled : (book : Which) (count : ℕ) → f.job.outcome.cause ≡ Some (Full book count) → WasFilled left plan types' words' js js' i old f.job.outcome book count
    was_filled Types count is =
        let full = full_at d.state left name faults plan.rows plan.version (books_in f.after) old f.job k f.keeper done Types count is in record {
          full = full_wider plan.version _ (IsMessageAt plan.version (in_source left old.source) f.job.outcome.messages) next (books_in f.after) (books_at types' words') more Types count full;
          each = each_such _ (types_of f.first) (types_of f.after) (types_of f.last) t2 ended.types_middle types' store.types (map types_of ws') count
              (e.of_types.each f.place (types_of f.first) (map_at types_of ws f.place f.first f.first_is)).own_is named.types f.goes.names.types.own
              (few_known plan.version (books_in f.after) (left done.source.before) done.came.covered Types count full) (map_count types_of ws' ∙ one_worker) (map_at types_of ws' 0 f.last at_first)
              (e.of_types.still.ended ∙ (t_still.ended ∙ t_new)) t_reads ended.types_read ended.dismissed.of_types;
        }
    was_filled Words count is =
        let full = full_at d.state left name faults plan.rows plan.version (books_in f.after) old f.job k f.keeper done Words count is in record {
          full = full_wider plan.version _ (IsMessageAt plan.version (in_source left old.source) f.job.outcome.messages) next (books_in f.after) (books_at types' words') more Words count full;
          each = each_such _ (words_of f.first) (words_of f.after) (words_of f.last) w2 ended.words_middle words' store.words (map words_of ws') count
              (e.of_words.each f.place (words_of f.first) (map_at words_of ws f.place f.first f.first_is)).own_is named.words f.goes.names.words.own
              (few_known plan.version (books_in f.after) (left done.source.before) done.came.covered Words count full) (map_count words_of ws' ∙ one_worker) (map_at words_of ws' 0 f.last at_first)
              (e.of_words.still.ended ∙ (w_still.ended ∙ w_new)) w_reads ended.words_read ended.dismissed.of_words;
        }

  pub were_filled : WereFilled left plan types' words' js js'
  were_filled i old new book count at at_new is =
      let even = h.counted in let lt = slice_get_within js i old at in let p = there_is h.passes i (omega arith) in
      let f = h.done.each i old p.0 at p.1 in
      let same : f.job ≡ new = some_is f.job new (sym f.job_is ∙ at_new) in
      subst (λ (x : Job S). WasFilled left plan types' words' js js' i old x.outcome book count) same
      (was_filled i old p.0 f book count (ap (λ (x : Job S). x.outcome.cause) same ∙ is))
    where
      some_is : (x y : Job S) → Some x ≡ Some y → x ≡ y
      some_is x y e = cc (e)

-- ---- told of the journal

module _ {S D : Type 0} {d : DiskGhosts D} {G : Ghosts BookState (List ℕ) ℕ} (left : S → Option (List ℕ)) (plan : Plan) (js js' : List (Job S)) (before after : Journal D d) (types types' words words' : BookMaker G) where
  pub full_in_turn : (t_saved w_saved : ℕ)
      → OpensBook 0 (is_some (state_of before).disk.seen) before.header.types_limit (texts_of_types (told_entries (state_of before))) t_saved types
      → OpensBook WORDS_FIRST (is_some (state_of before).disk.seen) before.header.words_limit (texts_of_words (told_entries (state_of before))) w_saved words
      → HasEndedBooks left plan js js' before after types types' words words' → IsAllOwned IsFair types' → IsAllOwned IsFair words' → AreDistinct (seen_by types') → AreDistinct (seen_by words')
      → WereFilled left plan types' words' js js' → AreFullInTurn left plan before js js'
  full_in_turn t_saved w_saved to wo h t_owned w_owned t_apart w_apart filled i old new book count at at_new is = by_book book (filled i old new book count at at_new is)
    where
      told : Bool
      told = is_some (state_of before).disk.seen

      s : StoreState
      s = state_by d.state h.store

      same_told : is_some (d.state h.store.opened).seen ≡ told
      same_told = ap (λ (x : D). is_some (d.state x).seen) h.stored.left_by.opened

      by_book : (book : Which) → WasFilled left plan types' words' js js' i old new.outcome book count → IsFullInTurn left plan before js js' i old new.outcome book count
      by_book Types was = if_told told _ (λ told_is.
          full_filled (IsTypeGiven left plan.version js) IsFairType 0 told before.header.types_limit s.header.types_limit (texts_of_types (told_entries (state_of before))) (texts_of_types (journal_of s)) (texts_of_types h.stored.fresh)
          t_saved s.types_saved types types' s.types to h.of_types t_owned (subst (λ b. KnowsBook IsFairType 0 s.header.types_limit b s.types s.types_saved (texts_of_types (journal_of s))) same_told h.stored.left_by.kept.types)
          (ap texts_of_types h.stored.grown ∙ types_joined (told_entries (state_of before)) h.stored.fresh) told_is t_apart (IsMetBy left plan (i + 1) js js' Types) (IsNextFor left plan old new.outcome Types) count was)
      by_book Words was = if_told told _ (λ told_is.
          full_filled (IsWordGiven left plan.version js) IsFairWord WORDS_FIRST told before.header.words_limit s.header.words_limit (texts_of_words (told_entries (state_of before))) (texts_of_words (journal_of s)) (texts_of_words h.stored.fresh)
          w_saved s.words_saved words words' s.words wo h.of_words w_owned (subst (λ b. KnowsBook IsFairWord WORDS_FIRST s.header.words_limit b s.words s.words_saved (texts_of_words (journal_of s))) same_told h.stored.left_by.kept.words)
          (ap texts_of_words h.stored.grown ∙ words_joined (told_entries (state_of before)) h.stored.fresh) told_is w_apart (IsMetBy left plan (i + 1) js js' Words) (IsNextFor left plan old new.outcome Words) count was)
