-- What workers with openers did is what their workers did, and what became of their openers.
use Rattle.std.proofs.Common.{◌≡◌, ℕ, ◌+◌, ◌-◌, List, [], ◌∷◌, ◌++◌, length, reverse, get_or, sym, ap, ◌∙◌, subst, arith, Option, Some, slice_get, append_assoc, length-append}
use Rattle.std.proofs.lemmas.List.{get_or-reverse, length-reverse, map-append, reverse-append, reverse-reverse}
use Rattle.std.proofs.lemmas.Option.{slice_get_within, slice_get-get_or, get_or_from_slice_get}
use Rattle.log_seams.specs.Disk.{DiskState}
use Rattle.turn_lock.specs.declared.grows.Grows.{Ghosts}
use Rattle.turn_lock.specs.Words.{lock_by}
use Rattle.ingest_fork.specs.Works.{AllDone, AllFit, AllReady, AllWent}
use Rattle.dict_core.specs.Books.{BookState}
use Rattle.dict_lock.specs.Cached.{pass_in}
use Rattle.disk_seal.specs.Fixed.{KeeperPass}
use Rattle.ingest_workers.specs.declared.job.Job.{Job}
use Rattle.ingest_workers.specs.declared.open_worker.OpenWorker.{OpenWorker}
use Rattle.ingest_workers.specs.declared.worker.BookPasses.{BookPasses}
use Rattle.ingest_workers.specs.declared.worker.Plan.{Plan}
use Rattle.ingest_workers.specs.declared.worker.Worker.{Worker}
use Rattle.ingest_workers.specs.StartedWorkers.{BookMaker, HasEnrolled, MayDismiss}
use Rattle.ingest_workers.specs.OpenWorker.{AreKnown, HaveGone, IsClosed, KnowsEach, KnowsOf, OpenDidJob, OpenDidOnly, openers_in, workers_in}
use Rattle.ingest_workers.specs.Worker.{DidJob, DidOnly, IsIdle, MayDo}
use Rattle.ingest_fork.proofs.PlaceLemmas.{there_is}
use Rattle.ingest_workers.proofs.CrewLemmas.{Makes, enrolled_more, map_at, map_back, map_count}

module _ {O : Type 0} (idle : O → Type 0) where
  -- workers between two jobs, whose openers have no source open
  pub all_closed : (ws : List (OpenWorker O)) → AllReady IsIdle (workers_in ws) → AllReady idle (openers_in ws) → AllReady (IsClosed idle) ws
  all_closed ws ready closed n w at = (ready n w.worker (map_at (λ (x : OpenWorker O). x.worker) ws n w at), closed n w.opener (map_at (λ (x : OpenWorker O). x.opener) ws n w at))

  pub ready_reversed : (os : List O) → AllReady idle os → AllReady idle (reverse os)
  ready_reversed os closed n o at =
      let lt = slice_get_within (reverse os) n o at in let long = length-reverse os in
      let here : get_or os (length os - 1 - n) o ≡ o = sym (get_or-reverse os n o (omega (arith, lt, long))) ∙ get_or_from_slice_get (reverse os) n o o at in
      closed (length os - 1 - n) o (slice_get-get_or os (length os - 1 - n) o (omega (arith, lt, long)) ∙ ap (λ (x : O). Some x) here)

  module _ (goes : O → O → Type 0) where
    -- nothing became of openers that are as they were
    pub gone_none : (os os' : List O) → ((o : O) → goes o o) → AllReady idle os → os' ≡ os → HaveGone idle goes os os'
    gone_none os os' rests closed same = record {
      counted = ap length same;
      each = λ i o at. (o, subst (λ l. slice_get l i ≡ Some o) (sym same) at, closed i o at, rests o);
    }

    -- the same in the other order
    pub gone_reversed : (os os' : List O) → HaveGone idle goes os os' → HaveGone idle goes (reverse os) (reverse os')
    gone_reversed os os' gone = record {
      counted = length-reverse os' ∙ (gone.counted ∙ sym (length-reverse os));
      each = each;
    }
      where
        each : (i : ℕ) (o : O) → slice_get (reverse os) i ≡ Some o → (p : O) × (slice_get (reverse os') i ≡ Some p) × idle p × goes o p
        each i o at =
            let lt = slice_get_within (reverse os) i o at in let long = length-reverse os in let even = gone.counted in let long' = length-reverse os' in
            let here : get_or os (length os - 1 - i) o ≡ o = sym (get_or-reverse os i o (omega (arith, lt, long))) ∙ get_or_from_slice_get (reverse os) i o o at in
            let r = gone.each (length os - 1 - i) o (slice_get-get_or os (length os - 1 - i) o (omega (arith, lt, long)) ∙ ap (λ (x : O). Some x) here) in
            let place : length os' - 1 - i ≡ length os - 1 - i = ap (λ (n : ℕ). n - 1 - i) even in
            let there : get_or (reverse os') i r.0 ≡ r.0 = get_or-reverse os' i r.0 (omega (arith, lt, long, even)) ∙ (ap (λ (n : ℕ). get_or os' n r.0) place ∙ get_or_from_slice_get os' (length os - 1 - i) r.0 r.0 r.1) in
            (r.0, slice_get-get_or (reverse os') i r.0 (omega (arith, lt, long, even, long')) ∙ ap (λ (x : O). Some x) there, r.2, r.3)

module _ {T O D : Type 0} (state : D → DiskState) where
  pub fit_each : (ws : List (OpenWorker O)) (js : List (Job T)) (ks : List (KeeperPass D)) → AllFit (MayDo state) (workers_in ws) js ks → AllFit (λ (w : OpenWorker O) j k. MayDo state w.worker j k) ws js ks
  fit_each ws js ks fit n i w j k at = fit n i w.worker j k (map_at (λ (x : OpenWorker O). x.worker) ws n w at)

module _ {T O D : Type 0} (state : D → DiskState) (left name : T → Option (List ℕ)) (faults : T → ℕ) (idle : O → Type 0) (goes : O → O → Type 0) (ws ws' : List (OpenWorker O)) (js js' : List (Job T)) where
  pub workers_went : AllWent (IsClosed idle) (OpenDidOnly left goes) js js' ws ws' → AllWent IsIdle (DidOnly left) js js' (workers_in ws) (workers_in ws')
  workers_went went = record {
    workers = map_count (λ (x : OpenWorker O). x.worker) ws' ∙ (went.workers ∙ sym (map_count (λ (x : OpenWorker O). x.worker) ws));
    each = λ n w at. let v = map_back (λ (x : OpenWorker O). x.worker) ws n w at in let g = went.each n v.0 v.1 in record {
      worker = g.worker.worker;
      worker_is = map_at (λ (x : OpenWorker O). x.worker) ws' n g.worker g.worker_is;
      ready_now = g.ready_now.0;
      piece = g.piece;
      piece' = g.piece';
      are = g.are;
      went_to = subst (λ (x : Worker). DidOnly left g.piece g.piece' x g.worker.worker) v.2 g.went_to.worker;
    };
  }

  pub openers_went : AllWent (IsClosed idle) (OpenDidOnly left goes) js js' ws ws' → HaveGone idle goes (openers_in ws) (openers_in ws')
  openers_went went = record {
    counted = map_count (λ (x : OpenWorker O). x.opener) ws' ∙ (went.workers ∙ sym (map_count (λ (x : OpenWorker O). x.opener) ws));
    each = λ n o at. let v = map_back (λ (x : OpenWorker O). x.opener) ws n o at in let g = went.each n v.0 v.1 in (
      g.worker.opener,
      map_at (λ (x : OpenWorker O). x.opener) ws' n g.worker g.worker_is,
      g.ready_now.1,
      subst (λ (x : O). goes x g.worker.opener) v.2 g.went_to.opener,
    );
  }

  pub workers_done : (knows : O → T → Type 0) (ks ks' : List (KeeperPass D)) → AllDone (OpenDidOnly left goes) (OpenDidJob state left name faults knows) ws ws' js js' ks ks'
      → AllDone (DidOnly left) (DidJob state left name faults) (workers_in ws) (workers_in ws') js js' ks ks'
  workers_done knows ks ks' all = record {
    jobs = all.jobs;
    keepers = all.keepers;
    each = λ i j k at with_it. let d = all.each i j k at with_it in record {
      place = d.place;
      first = d.first.worker;
      last = d.last.worker;
      first_is = map_at (λ (x : OpenWorker O). x.worker) ws d.place d.first d.first_is;
      last_is = map_at (λ (x : OpenWorker O). x.worker) ws' d.place d.last d.last_is;
      job = d.job;
      keeper = d.keeper;
      job_is = d.job_is;
      keeper_is = d.keeper_is;
      front = d.front;
      front' = d.front';
      rest = d.rest;
      rest' = d.rest';
      of_piece = d.of_piece;
      before = d.before.worker;
      after = d.after.worker;
      came = d.came.worker;
      did_it = d.did_it.job;
      goes = d.goes.worker;
    };
  }

  -- what an opener knew of a job it knows at the end
  pub openers_know : (knows : O → T → Type 0) (ks ks' : List (KeeperPass D)) → ((a b : O) (t : T) → goes a b → knows a t → knows b t) → length ks ≡ length js
      → AllDone (OpenDidOnly left goes) (OpenDidJob state left name faults knows) ws ws' js js' ks ks' → AreKnown knows (openers_in ws') js js'
  openers_know knows ks ks' later even all i j j' at at_then =
      let lt = slice_get_within js i j at in let k = there_is ks i (omega (arith, lt, even)) in let d = all.each i j k.0 at k.1 in
      let same : d.job ≡ j' = cc (d.job_is, at_then) in record {
        place = d.place;
        opener = d.last.opener;
        is = map_at (λ (x : OpenWorker O). x.opener) ws' d.place d.last d.last_is;
        known = λ opened t has. later d.after.opener d.last.opener t d.goes.opener (d.did_it.known opened t (ap (λ (x : Job T). x.source) same ∙ has));
      }

module _ {T O : Type 0} (knows : O → T → Type 0) where
  -- whichever order the openers are in
  pub known_reversed : (os : List O) (js js' : List (Job T)) → AreKnown knows os js js' → AreKnown knows (reverse os) js js'
  known_reversed os js js' known i j j' at at_then =
      let one = known i j j' at at_then in let lt = slice_get_within os one.place one.opener one.is in let long = length-reverse os in
      let place : length os - 1 - (length os - 1 - one.place) ≡ one.place = omega (arith, lt) in
      let here : get_or (reverse os) (length os - 1 - one.place) one.opener ≡ one.opener = get_or-reverse os (length os - 1 - one.place) one.opener (omega (arith, lt))
      ∙ (ap (λ (n : ℕ). get_or os n one.opener) place ∙ get_or_from_slice_get os one.place one.opener one.opener one.is) in record {
        place = length os - 1 - one.place;
        opener = one.opener;
        is = slice_get-get_or (reverse os) (length os - 1 - one.place) one.opener (omega (arith, lt, long)) ∙ ap (λ (x : O). Some x) here;
        known = one.known;
      }

  -- a lone opener knows of each
  pub known_alone : (os : List O) (o : O) (js js' : List (Job T)) → length os ≡ 1 → slice_get os 0 ≡ Some o → AreKnown knows os js js' → KnowsEach knows o js js'
  known_alone os o js js' one_long first known i j j' at at_then =
      let one = known i j j' at at_then in let lt = slice_get_within os one.place one.opener one.is in
      let zeroth : one.place ≡ 0 = omega (arith, lt, one_long) in
      let there : slice_get os 0 ≡ Some one.opener = subst (λ (n : ℕ). slice_get os n ≡ Some one.opener) zeroth one.is in
      let same : one.opener ≡ o = cc (there, first) in
      subst (λ (x : O). KnowsOf knows x j j') same one.known

pub worker_there : {O : Type 0} (ws : List (OpenWorker O)) (k : ℕ) (w : OpenWorker O) → slice_get ws k ≡ Some w → slice_get (workers_in ws) k ≡ Some w.worker
worker_there {O} ws k w at = map_at (λ (x : OpenWorker O). x.worker) ws k w at

-- ---- openers that are popped from the last on

module _ {O : Type 0} where
  -- an opener was popped, and a worker has it
  pub lent_more : (ws : List (OpenWorker O)) (os rest all : List O) (w : OpenWorker O) → os ≡ rest ++ w.opener ∷ [] → openers_in ws ++ reverse os ≡ all → openers_in (ws ++ w ∷ []) ++ reverse rest ≡ all
  lent_more ws os rest all w popped is = ap (λ l. l ++ reverse rest) (map-append (λ (x : OpenWorker O). x.opener) ws (w ∷ []))
      ∙ (append_assoc (openers_in ws) (w.opener ∷ []) (reverse rest)
      ∙ (ap (λ l. openers_in ws ++ l) (sym (ap reverse popped ∙ reverse-append rest (w.opener ∷ []))) ∙ is))

  -- a worker was popped, and its opener is back
  pub back_more : (ws rest : List (OpenWorker O)) (os all : List O) (w : OpenWorker O) → ws ≡ rest ++ w ∷ [] → os ++ reverse (openers_in ws) ≡ all → (os ++ w.opener ∷ []) ++ reverse (openers_in rest) ≡ all
  back_more ws rest os all w popped is = append_assoc os (w.opener ∷ []) (reverse (openers_in rest))
      ∙ (ap (λ l. os ++ l) (sym (ap (λ l. reverse (openers_in l)) popped ∙ (ap reverse (map-append (λ (x : OpenWorker O). x.opener) rest (w ∷ [])) ∙ reverse-append (openers_in rest) (w.opener ∷ [])))) ∙ is)

module _ {O : Type 0} (idle : O → Type 0) (goes : O → O → Type 0) where
  -- openers that were lent in the other order, and came back in the other order of these
  pub lent_gone : (os os' lent back : List O) → lent ≡ reverse os → os' ≡ reverse back → HaveGone idle goes lent back → HaveGone idle goes os os'
  lent_gone os os' lent back is is' gone = subst (λ l. HaveGone idle goes os l) (sym is')
      (subst (λ l. HaveGone idle goes l (reverse back)) (ap reverse is ∙ reverse-reverse os) (gone_reversed idle goes lent back gone))

  -- nothing became of those
  pub lent_none : (os os' lent : List O) → ((o : O) → goes o o) → AllReady idle os → lent ≡ reverse os → os' ≡ reverse lent → HaveGone idle goes os os'
  lent_none os os' lent rests closed is is' = gone_none idle goes os os' rests closed (is' ∙ (ap reverse is ∙ reverse-reverse os))

-- ---- workers that are enrolled, and dismissed from the last one on

module _ {O : Type 0} {G : Ghosts BookState (List ℕ) ℕ} where
  pub enroll_more : (types t1 t2 words w1 w2 : BookMaker G) (plan : Plan) (ws : List (OpenWorker O)) (w : OpenWorker O) (b : BookPasses) → HasEnrolled types t1 words w1 plan (workers_in ws) (length ws)
      → w.worker.plan ≡ plan → w.worker.passes ≡ Some b → Makes t1 t2 (pass_in b.types) → Makes w1 w2 (pass_in b.words)
      → HasEnrolled types t2 words w2 plan (workers_in (ws ++ w ∷ [])) (length (ws ++ w ∷ []))
  enroll_more types t1 t2 words w1 w2 plan ws w b h planned is t u =
      subst (λ (n : ℕ). HasEnrolled types t2 words w2 plan (workers_in (ws ++ w ∷ [])) n) (sym (length-append ws (w ∷ [])))
      (subst (λ (l : List Worker). HasEnrolled types t2 words w2 plan l (length ws + 1)) (sym (map-append (λ (x : OpenWorker O). x.worker) ws (w ∷ [])))
      (enrolled_more types t1 t2 words w1 w2 plan (workers_in ws) (length ws) w.worker b h planned is t u))

module _ {G : Ghosts BookState (List ℕ) ℕ} where
  pub enrolled_as : (types types' words words' : BookMaker G) (plan : Plan) (ws : List Worker) (m n : ℕ) → m ≡ n → HasEnrolled types types' words words' plan ws m → HasEnrolled types types' words words' plan ws n
  enrolled_as types types' words words' plan ws m n same h = subst (λ (k : ℕ). HasEnrolled types types' words words' plan ws k) same h

  -- workers that did nothing yet may be dismissed
  pub dismiss_new : (t1 t2 w1 w2 types words : BookMaker G) (plan : Plan) (ws : List Worker) (count : ℕ) → HasEnrolled t1 t2 w1 w2 plan ws count → lock_by types ≡ lock_by t2 → lock_by words ≡ lock_by w2 → MayDismiss types words ws
  dismiss_new t1 t2 w1 w2 types words plan ws count e t_same w_same = record {
    of_types = λ i p at. let f = e.of_types.each i p at in (f.lock ∙ (sym e.of_types.still.lock ∙ sym t_same), f.ready);
    of_words = λ i p at. let f = e.of_words.each i p at in (f.lock ∙ (sym e.of_words.still.lock ∙ sym w_same), f.ready);
  }
