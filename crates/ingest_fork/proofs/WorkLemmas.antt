-- Jobs that one worker does in turn, and jobs that two halves of the workers do.
use Rattle.std.proofs.Common.{◌≡◌, ◌≢◌, ℕ, zero, suc, ◌+◌, ◌-◌, ◌<◌, ◌≤◌, List, [], ◌∷◌, ◌++◌, length, set, sym, refl, ap, ◌∙◌, subst, ⊎_elim, arith, Some, slice_get, length-append, append_assoc, append-nil}
use Rattle.std.proofs.Math.Seq.{set-append_seam}
use Rattle.std.proofs.lemmas.List.{length-set}
use Rattle.std.proofs.lemmas.Option.{slice_get_within}
use Rattle.std.proofs.lemmas.Bool.{cases_lt}
use Rattle.ingest_fork.specs.Works.{AllReady, AllFit, ArePieces, IsInPiece, Done, AllDone, Went, AllWent, Rests, GoesOn, Widens}
use Rattle.ingest_fork.proofs.PlaceLemmas.{at_left, at_right, in_left, in_right, set_at, set_off, at_seam, first_behind, all_of}

module _ {W J K : Type 0} (went : List J → List J → W → W → Type 0) (did : W → J → K → W → J → K → Type 0) where
  -- The worker did the job at the place n, as one of the jobs that it has done so far.
  pub record DoneSoFar (first w : W) (past past' : List J) (ks' : List K) (n : ℕ) (j : J) (k : K) : Type 0 where
    pub job : J
    pub keeper : K
    pub keeper_is : slice_get ks' n ≡ Some keeper
    pub front : List J
    pub front' : List J
    pub rest : List J
    pub rest' : List J
    pub cut : past ≡ front ++ (j ∷ rest)
    pub cut' : past' ≡ front' ++ (job ∷ rest')
    pub same : length front' ≡ length front
    pub too : length rest' ≡ length rest
    pub place : n ≡ length front
    pub before : W
    pub after : W
    pub came : went front front' first before
    pub did_it : did before j k after job keeper
    pub goes : went rest rest' after w

  -- The jobs below i are done; from i on the lists are as they were.
  pub record InTurn (first : W) (js : List J) (ks : List K) (w : W) (js' : List J) (ks' : List K) (i : ℕ) : Type 0 where
    pub past : List J
    pub past' : List J
    pub todo : List J
    pub cut : js ≡ past ++ todo
    pub cut' : js' ≡ past' ++ todo
    pub count : length past ≡ i
    pub count' : length past' ≡ i
    pub jobs : length js' ≡ length js
    pub keepers : length ks' ≡ length ks
    pub went_on : went past past' first w
    pub done : (n : ℕ) (j : J) (k : K) → n < i → slice_get js n ≡ Some j → slice_get ks n ≡ Some k → DoneSoFar first w past past' ks' n j k
    pub rest_keepers : (n : ℕ) → i ≤ n → slice_get ks' n ≡ slice_get ks n

  pub in_turn_init : (w : W) (js : List J) (ks : List K) → went [] [] w w → InTurn w js ks w js ks 0
  in_turn_init w js ks rests = record {
    past = [];
    past' = [];
    todo = js;
    cut = refl;
    cut' = refl;
    count = refl;
    count' = refl;
    jobs = refl;
    keepers = refl;
    went_on = rests;
    done = λ n j k lt. absurd (omega arith);
    rest_keepers = λ n le. refl;
  }

  -- the job whose turn it is is as it was, and stands before those that are left
  pub next_job : (first : W) (js : List J) (ks : List K) (w : W) (js' : List J) (ks' : List K) (i : ℕ) (j : J)
      → (t : InTurn first js ks w js' ks' i) → slice_get js' i ≡ Some j → (more : List J) × (js ≡ t.past ++ (j ∷ more)) × (js' ≡ t.past' ++ (j ∷ more)) × (slice_get js i ≡ Some j)
  next_job first js ks w js' ks' i j t job =
      let found = first_behind t.past' t.todo j (ap (λ (n : ℕ). slice_get (t.past' ++ t.todo) n) t.count' ∙ (ap (λ (l : List J). slice_get l i) (sym t.cut') ∙ job)) in
      let was : js ≡ t.past ++ (j ∷ found.0) = t.cut ∙ ap (λ (l : List J). t.past ++ l) found.1 in (
        found.0,
        was,
        t.cut' ∙ ap (λ (l : List J). t.past' ++ l) found.1,
        ap (λ (l : List J). slice_get l i) was ∙ (ap (λ (n : ℕ). slice_get (t.past ++ (j ∷ found.0)) n) (sym t.count) ∙ at_seam t.past found.0 j),
      )

  -- one job more behind those that the worker did
  one_more : GoesOn went → Widens went → (a w v : W) (js js' : List J) (j l : J) → length js' ≡ length js → went js js' a w → went (j ∷ []) (l ∷ []) w v → went (js ++ j ∷ []) (js' ++ l ∷ []) a v
  one_more goes_on wider a w v js js' j l same so_far on = goes_on (js ++ j ∷ []) (js' ++ l ∷ []) a w v
      (wider (js ++ j ∷ []) (js' ++ l ∷ []) js js' a w (record { before = []; before' = []; behind = j ∷ []; behind' = l ∷ []; cut = refl; cut' = refl; even = refl; same = same }) so_far)
      (wider (js ++ j ∷ []) (js' ++ l ∷ []) (j ∷ []) (l ∷ []) w v (record { before = js; before' = js'; behind = []; behind' = []; cut = refl; cut' = refl; even = same; same = refl }) on)

  -- what was done stays done, while the worker does one more
  done_still : GoesOn went → Widens went → (first w v : W) (past past' : List J) (ks' : List K) (i n : ℕ) (a j l : J) (b m : K) → n ≢ i → went (j ∷ []) (l ∷ []) w v
      → DoneSoFar first w past past' ks' n a b → DoneSoFar first v (past ++ j ∷ []) (past' ++ l ∷ []) (set ks' i m) n a b
  done_still goes_on wider first w v past past' ks' i n a j l b m ne on d = record {
    job = d.job;
    keeper = d.keeper;
    keeper_is = set_off ks' i n m ne ∙ d.keeper_is;
    front = d.front;
    front' = d.front';
    rest = d.rest ++ j ∷ [];
    rest' = d.rest' ++ l ∷ [];
    cut = ap (λ (x : List J). x ++ j ∷ []) d.cut ∙ append_assoc d.front (a ∷ d.rest) (j ∷ []);
    cut' = ap (λ (x : List J). x ++ l ∷ []) d.cut' ∙ append_assoc d.front' (d.job ∷ d.rest') (l ∷ []);
    same = d.same;
    too = length-append d.rest' (l ∷ []) ∙ (ap (λ (x : ℕ). x + 1) d.too ∙ sym (length-append d.rest (j ∷ [])));
    place = d.place;
    before = d.before;
    after = d.after;
    came = d.came;
    did_it = d.did_it;
    goes = one_more goes_on wider d.after w v d.rest d.rest' j l d.too d.goes on;
  }

  pub in_turn_step : (ready : W → Type 0) → Rests went ready → GoesOn went → Widens went
      → (first : W) (js : List J) (ks : List K) (w v : W) (js' : List J) (ks' : List K) (i : ℕ) (j l : J) (k m : K)
      → InTurn first js ks w js' ks' i → slice_get js' i ≡ Some j → slice_get ks' i ≡ Some k → i < length ks' → ready v → went (j ∷ []) (l ∷ []) w v → did w j k v l m
      → InTurn first js ks v (set js' i l) (set ks' i m) (i + 1)
  in_turn_step ready rests goes_on wider first js ks w v js' ks' i j l k m t job keeper in_keepers r on d =
      let here = next_job first js ks w js' ks' i j t job in let was_keeper : slice_get ks i ≡ Some k = sym (t.rest_keepers i (omega arith)) ∙ keeper in
      let even : length t.past' ≡ length t.past = t.count' ∙ sym t.count in record {
        past = t.past ++ j ∷ [];
        past' = t.past' ++ l ∷ [];
        todo = here.0;
        cut = here.1 ∙ sym (append_assoc t.past (j ∷ []) here.0);
        cut' = ap (λ (x : List J). set x i l) here.2 ∙ (ap (λ (n : ℕ). set (t.past' ++ (j ∷ here.0)) n l) (sym t.count') ∙ (set-append_seam t.past' j here.0 l ∙ sym (append_assoc t.past' (l ∷ []) here.0)));
        count = length-append t.past (j ∷ []) ∙ ap (λ (n : ℕ). n + 1) t.count;
        count' = length-append t.past' (l ∷ []) ∙ ap (λ (n : ℕ). n + 1) t.count';
        jobs = length-set js' i l ∙ t.jobs;
        keepers = length-set ks' i m ∙ t.keepers;
        went_on = one_more goes_on wider first w v t.past t.past' j l even t.went_on on;
        done = λ n a b lt job_was keeper_was. ⊎_elim
            (λ (below : n < i). let ne : n ≢ i = omega arith in done_still goes_on wider first w v t.past t.past' ks' i n a j l b m ne on (t.done n a b below job_was keeper_was))
            (λ (not_below : i ≤ n). let same : n ≡ i = omega arith in now here.3 was_keeper n a b same job_was keeper_was) (cases_lt n i);
        rest_keepers = λ n le. set_off ks' i n m (omega arith) ∙ t.rest_keepers n (omega arith);
      }
    where
      now : slice_get js i ≡ Some j → slice_get ks i ≡ Some k → (n : ℕ) (a : J) (b : K) → n ≡ i → slice_get js n ≡ Some a → slice_get ks n ≡ Some b
          → DoneSoFar first v (t.past ++ j ∷ []) (t.past' ++ l ∷ []) (set ks' i m) n a b
      now was_job was_keeper n a b same job_was keeper_was =
          let job_same : j ≡ a = cc (same, job_was, was_job) in let keeper_same : k ≡ b = cc (same, keeper_was, was_keeper) in record {
            job = l;
            keeper = m;
            keeper_is = ap (λ (p : ℕ). slice_get (set ks' i m) p) same ∙ set_at ks' i m in_keepers;
            front = t.past;
            front' = t.past';
            rest = [];
            rest' = [];
            cut = ap (λ (x : J). t.past ++ x ∷ []) job_same;
            cut' = refl;
            same = t.count' ∙ sym t.count;
            too = refl;
            place = same ∙ sym t.count;
            before = w;
            after = v;
            came = t.went_on;
            did_it = subst (λ (x : J). did w x b v l m) job_same (subst (λ (x : K). did w j x v l m) keeper_same d);
            goes = rests [] [] v r;
          }

  -- all jobs are done
  all_past : (first : W) (js : List J) (ks : List K) (w : W) (js' : List J) (ks' : List K) (i : ℕ) → (t : InTurn first js ks w js' ks' i) → length js ≤ i → (js ≡ t.past) × (js' ≡ t.past')
  all_past first js ks w js' ks' i t le = let jobs = t.jobs in let count = t.count in let count' = t.count' in
      (all_of js t.past t.todo t.cut (omega arith), all_of js' t.past' t.todo t.cut' (omega arith))

  pub in_turn_went : (first : W) (js : List J) (ks : List K) (w : W) (js' : List J) (ks' : List K) (i : ℕ) → InTurn first js ks w js' ks' i → length js ≤ i → went js js' first w
  in_turn_went first js ks w js' ks' i t le = let all = all_past first js ks w js' ks' i t le in
      subst (λ (x : List J). went x js' first w) (sym all.0) (subst (λ (x : List J). went t.past x first w) (sym all.1) t.went_on)

  pub in_turn_end : (first : W) (js : List J) (ks : List K) (w : W) (js' : List J) (ks' : List K) (i : ℕ)
      → InTurn first js ks w js' ks' i → length js ≤ i → AllDone went did (first ∷ []) (w ∷ []) js js' ks ks'
  in_turn_end first js ks w js' ks' i t le = record {
    jobs = t.jobs;
    keepers = t.keepers;
    each = λ n j k job keeper. each n j k (t.done n j k (let lt = slice_get_within js n j job in omega arith) job keeper);
  }
    where
      each : (n : ℕ) (j : J) (k : K) → DoneSoFar first w t.past t.past' ks' n j k → Done went did (first ∷ []) (w ∷ []) js js' ks' n j k
      each n j k d = let all = all_past first js ks w js' ks' i t le in let is' : js' ≡ d.front' ++ (d.job ∷ d.rest') = all.1 ∙ d.cut' in record {
        place = 0;
        first = first;
        last = w;
        first_is = refl;
        last_is = refl;
        job = d.job;
        keeper = d.keeper;
        job_is = ap (λ (l : List J). slice_get l n) is' ∙ (ap (λ (p : ℕ). slice_get (d.front' ++ (d.job ∷ d.rest')) p) (d.place ∙ sym d.same) ∙ at_seam d.front' d.rest' d.job);
        keeper_is = d.keeper_is;
        front = d.front;
        front' = d.front';
        rest = d.rest;
        rest' = d.rest';
        of_piece = record {
          before = [];
          before' = [];
          behind = [];
          behind' = [];
          cut = all.0 ∙ (d.cut ∙ ap (λ (l : List J). d.front ++ (j ∷ l)) (sym (append-nil d.rest)));
          cut' = is' ∙ ap (λ (l : List J). d.front' ++ (d.job ∷ l)) (sym (append-nil d.rest'));
          even = refl;
          same = d.same;
          too = d.too;
          place = let place = d.place in omega arith;
        };
        before = d.before;
        after = d.after;
        came = d.came;
        did_it = d.did_it;
        goes = d.goes;
      }

module _ {X : Type 0} where
  same_sum : (xs xs' ys ys' : List X) → length xs' ≡ length xs → length ys' ≡ length ys → length (xs' ++ ys') ≡ length (xs ++ ys)
  same_sum xs xs' ys ys' one two = length-append xs' ys' ∙ (ap (λ (n : ℕ). n + length ys') one ∙ (ap (λ (n : ℕ). length xs + n) two ∙ sym (length-append xs ys)))

-- What is a piece of the jobs of one half is a piece of all the jobs.
module _ {J : Type 0} where
  pieces_left : (js js' is is' piece piece' : List J) → ArePieces js js' piece piece' → ArePieces (js ++ is) (js' ++ is') piece piece'
  pieces_left js js' is is' piece piece' p = record {
    before = p.before;
    before' = p.before';
    behind = p.behind ++ is;
    behind' = p.behind' ++ is';
    cut = longer js is p.before piece p.behind p.cut;
    cut' = longer js' is' p.before' piece' p.behind' p.cut';
    even = p.even;
    same = p.same;
  }
    where
      longer : (all more xs ys zs : List J) → all ≡ xs ++ (ys ++ zs) → all ++ more ≡ xs ++ (ys ++ (zs ++ more))
      longer all more xs ys zs is = ap (λ (l : List J). l ++ more) is ∙ (append_assoc xs (ys ++ zs) more ∙ ap (λ (l : List J). xs ++ l) (append_assoc ys zs more))

  pieces_right : (js js' is is' piece piece' : List J) → length js' ≡ length js → ArePieces is is' piece piece' → ArePieces (js ++ is) (js' ++ is') piece piece'
  pieces_right js js' is is' piece piece' same p = record {
    before = js ++ p.before;
    before' = js' ++ p.before';
    behind = p.behind;
    behind' = p.behind';
    cut = ap (λ (l : List J). js ++ l) p.cut ∙ sym (append_assoc js p.before (piece ++ p.behind));
    cut' = ap (λ (l : List J). js' ++ l) p.cut' ∙ sym (append_assoc js' p.before' (piece' ++ p.behind'));
    even = same_sum js js' p.before p.before' same p.even;
    same = p.same;
  }

  in_left_piece : (js js' is is' : List J) (i : ℕ) (j j' : J) (front front' rest rest' : List J) → IsInPiece js js' i j j' front front' rest rest'
      → IsInPiece (js ++ is) (js' ++ is') i j j' front front' rest rest'
  in_left_piece js js' is is' i j j' front front' rest rest' p = record {
    before = p.before;
    before' = p.before';
    behind = p.behind ++ is;
    behind' = p.behind' ++ is';
    cut = longer js is p.before front rest p.behind j p.cut;
    cut' = longer js' is' p.before' front' rest' p.behind' j' p.cut';
    even = p.even;
    same = p.same;
    too = p.too;
    place = p.place;
  }
    where
      longer : (all more xs ys zs ws : List J) (x : J) → all ≡ xs ++ (ys ++ (x ∷ (zs ++ ws))) → all ++ more ≡ xs ++ (ys ++ (x ∷ (zs ++ (ws ++ more))))
      longer all more xs ys zs ws x is = ap (λ (l : List J). l ++ more) is ∙ (append_assoc xs (ys ++ (x ∷ (zs ++ ws))) more
          ∙ ap (λ (l : List J). xs ++ l) (append_assoc ys (x ∷ (zs ++ ws)) more ∙ ap (λ (l : List J). ys ++ (x ∷ l)) (append_assoc zs ws more)))

  in_right_piece : (js js' is is' : List J) (i n : ℕ) (j j' : J) (front front' rest rest' : List J) → length js' ≡ length js → n ≡ length js + i → IsInPiece is is' i j j' front front' rest rest'
      → IsInPiece (js ++ is) (js' ++ is') n j j' front front' rest rest'
  in_right_piece js js' is is' i n j j' front front' rest rest' same at p = let count = length-append js p.before in let place = p.place in record {
    before = js ++ p.before;
    before' = js' ++ p.before';
    behind = p.behind;
    behind' = p.behind';
    cut = ap (λ (l : List J). js ++ l) p.cut ∙ sym (append_assoc js p.before (front ++ (j ∷ (rest ++ p.behind))));
    cut' = ap (λ (l : List J). js' ++ l) p.cut' ∙ sym (append_assoc js' p.before' (front' ++ (j' ∷ (rest' ++ p.behind'))));
    even = same_sum js js' p.before p.before' same p.even;
    same = p.same;
    too = p.too;
    place = omega arith;
  }

-- The workers are two halves, `ws` and `vs`, and so are the jobs, `js` and `is`, and the keepers, `ks` and `hs`.
module _ {W J K : Type 0} (went : List J → List J → W → W → Type 0) (did : W → J → K → W → J → K → Type 0) where
  done_left : (ws ws' vs vs' : List W) (js js' is is' : List J) (ks' hs' : List K) (i : ℕ) (j : J) (k : K) → Done went did ws ws' js js' ks' i j k
      → Done went did (ws ++ vs) (ws' ++ vs') (js ++ is) (js' ++ is') (ks' ++ hs') i j k
  done_left ws ws' vs vs' js js' is is' ks' hs' i j k d = record {
    place = d.place;
    first = d.first;
    last = d.last;
    first_is = at_left ws vs d.place d.first d.first_is;
    last_is = at_left ws' vs' d.place d.last d.last_is;
    job = d.job;
    keeper = d.keeper;
    job_is = at_left js' is' i d.job d.job_is;
    keeper_is = at_left ks' hs' i d.keeper d.keeper_is;
    front = d.front;
    front' = d.front';
    rest = d.rest;
    rest' = d.rest';
    of_piece = in_left_piece js js' is is' i j d.job d.front d.front' d.rest d.rest' d.of_piece;
    before = d.before;
    after = d.after;
    came = d.came;
    did_it = d.did_it;
    goes = d.goes;
  }

  done_right : (ws ws' vs vs' : List W) (js js' is is' : List J) (ks' hs' : List K) (n i : ℕ) (j : J) (k : K) → length ws' ≡ length ws → length js' ≡ length js → n ≡ length js + i → n ≡ length ks' + i
      → Done went did vs vs' is is' hs' i j k → Done went did (ws ++ vs) (ws' ++ vs') (js ++ is) (js' ++ is') (ks' ++ hs') n j k
  done_right ws ws' vs vs' js js' is is' ks' hs' n i j k workers jobs in_jobs in_keepers d = record {
    place = length ws + d.place;
    first = d.first;
    last = d.last;
    first_is = at_right ws vs d.place ∙ d.first_is;
    last_is = ap (λ (p : ℕ). slice_get (ws' ++ vs') (p + d.place)) (sym workers) ∙ (at_right ws' vs' d.place ∙ d.last_is);
    job = d.job;
    keeper = d.keeper;
    job_is = ap (λ (p : ℕ). slice_get (js' ++ is') p) (in_jobs ∙ ap (λ (p : ℕ). p + i) (sym jobs)) ∙ (at_right js' is' i ∙ d.job_is);
    keeper_is = ap (λ (p : ℕ). slice_get (ks' ++ hs') p) in_keepers ∙ (at_right ks' hs' i ∙ d.keeper_is);
    front = d.front;
    front' = d.front';
    rest = d.rest;
    rest' = d.rest';
    of_piece = in_right_piece js js' is is' i n j d.job d.front d.front' d.rest d.rest' jobs in_jobs d.of_piece;
    before = d.before;
    after = d.after;
    came = d.came;
    did_it = d.did_it;
    goes = d.goes;
  }

  pub done_halves : (ws ws' vs vs' : List W) (js js' is is' : List J) (ks ks' hs hs' : List K) → length js ≡ length ks → length ws' ≡ length ws
      → AllDone went did ws ws' js js' ks ks' → AllDone went did vs vs' is is' hs hs' → AllDone went did (ws ++ vs) (ws' ++ vs') (js ++ is) (js' ++ is') (ks ++ hs) (ks' ++ hs')
  done_halves ws ws' vs vs' js js' is is' ks ks' hs hs' same workers front back = record {
    jobs = same_sum js js' is is' front.jobs back.jobs;
    keepers = same_sum ks ks' hs hs' front.keepers back.keepers;
    each = λ i j k job keeper. ⊎_elim
        (λ (lt : i < length js). done_left ws ws' vs vs' js js' is is' ks' hs' i j k (front.each i j k (sym (in_left js is i lt) ∙ job) (sym (in_left ks hs i (omega arith)) ∙ keeper)))
        (λ (le : length js ≤ i). let at : ℕ = i - length js in let too = front.keepers in let in_jobs : i ≡ length js + at = omega arith in let in_keepers : i ≡ length ks' + at = omega arith in
        done_right ws ws' vs vs' js js' is is' ks' hs' i at j k workers front.jobs in_jobs in_keepers (back.each at j k (sym (in_right js is i le) ∙ job)
        (ap (λ (n : ℕ). slice_get hs (i - n)) same ∙ (sym (in_right ks hs i (omega arith)) ∙ keeper)))) (cases_lt i (length js));
  }

  -- one worker did all the jobs
  pub done_alone : (ws : List W) (w v : W) (js js' : List J) (ks ks' : List K) → length ws ≡ 1 → slice_get ws 0 ≡ Some w → AllDone went did (w ∷ []) (v ∷ []) js js' ks ks'
      → AllDone went did ws (set ws 0 v) js js' ks ks'
  done_alone [] w v js js' ks ks' one here d = absurd (omega arith)
  done_alone (x ∷ []) w v js js' ks ks' one here d = let same : w ≡ x = cc (here) in subst (λ (z : W). AllDone went did (z ∷ []) (v ∷ []) js js' ks ks') same d
  done_alone (x ∷ y ∷ ws) w v js js' ks ks' one here d = absurd (omega arith)

module _ {W J : Type 0} (ready : W → Type 0) (went : List J → List J → W → W → Type 0) where
  went_left : (ws' vs' : List W) (js js' is is' : List J) (w : W) (n : ℕ) → Went ready went js js' w ws' n → Went ready went (js ++ is) (js' ++ is') w (ws' ++ vs') n
  went_left ws' vs' js js' is is' w n r = record {
    worker = r.worker;
    worker_is = at_left ws' vs' n r.worker r.worker_is;
    ready_now = r.ready_now;
    piece = r.piece;
    piece' = r.piece';
    are = pieces_left js js' is is' r.piece r.piece' r.are;
    went_to = r.went_to;
  }

  went_right : (ws' vs' : List W) (js js' is is' : List J) (w : W) (m n : ℕ) → length js' ≡ length js → m ≡ length ws' + n → Went ready went is is' w vs' n
      → Went ready went (js ++ is) (js' ++ is') w (ws' ++ vs') m
  went_right ws' vs' js js' is is' w m n same place r = record {
    worker = r.worker;
    worker_is = ap (λ (p : ℕ). slice_get (ws' ++ vs') p) place ∙ (at_right ws' vs' n ∙ r.worker_is);
    ready_now = r.ready_now;
    piece = r.piece;
    piece' = r.piece';
    are = pieces_right js js' is is' r.piece r.piece' same r.are;
    went_to = r.went_to;
  }

  pub went_halves : (ws ws' vs vs' : List W) (js js' is is' : List J) → length js' ≡ length js → AllWent ready went js js' ws ws' → AllWent ready went is is' vs vs'
      → AllWent ready went (js ++ is) (js' ++ is') (ws ++ vs) (ws' ++ vs')
  went_halves ws ws' vs vs' js js' is is' same front back = record {
    workers = same_sum ws ws' vs vs' front.workers back.workers;
    each = λ n w at. ⊎_elim
        (λ (lt : n < length ws). went_left ws' vs' js js' is is' w n (front.each n w (sym (in_left ws vs n lt) ∙ at)))
        (λ (le : length ws ≤ n). let counts = front.workers in let place : n ≡ length ws' + (n - length ws) = omega arith in
        went_right ws' vs' js js' is is' w n (n - length ws) same place (back.each (n - length ws) w (sym (in_right ws vs n le) ∙ at))) (cases_lt n (length ws));
  }

  -- one worker did all the jobs
  pub went_alone : (js js' : List J) (ws : List W) (w v : W) → length js' ≡ length js → length ws ≡ 1 → slice_get ws 0 ≡ Some w → ready v → went js js' w v → AllWent ready went js js' ws (set ws 0 v)
  went_alone js js' [] w v jobs one here r on = absurd (omega arith)
  went_alone js js' (x ∷ []) w v jobs one here r on = record {
    workers = refl;
    each = λ n y at. only n y at;
  }
    where
      only : (n : ℕ) (y : W) → slice_get (x ∷ []) n ≡ Some y → Went ready went js js' y (v ∷ []) n
      only zero y at = record {
        worker = v;
        worker_is = refl;
        ready_now = r;
        piece = js;
        piece' = js';
        are = record {
          before = [];
          before' = [];
          behind = [];
          behind' = [];
          cut = sym (append-nil js);
          cut' = sym (append-nil js');
          even = refl;
          same = jobs;
        };
        went_to = let same : w ≡ y = cc (here, at) in subst (λ (z : W). went js js' z v) same on;
      }
      only (suc n) y at = absurd (cc (at))
  went_alone js js' (x ∷ y ∷ ws) w v jobs one here r on = absurd (omega arith)

-- what is asked of the whole holds for its halves
module _ {W : Type 0} where
  pub ready_left : (ready : W → Type 0) (all ws vs : List W) → all ≡ ws ++ vs → AllReady ready all → AllReady ready ws
  ready_left ready all ws vs is r = λ n w at. r n w (ap (λ l. slice_get l n) is ∙ at_left ws vs n w at)

  pub ready_right : (ready : W → Type 0) (all ws vs : List W) → all ≡ ws ++ vs → AllReady ready all → AllReady ready vs
  ready_right ready all ws vs is r = λ n w at. r (length ws + n) w (ap (λ l. slice_get l (length ws + n)) is ∙ (at_right ws vs n ∙ at))

module _ {W J K : Type 0} where
  pub fits_left : (fits : W → J → K → Type 0) (all ws vs : List W) (jobs js is : List J) (keepers ks hs : List K)
      → all ≡ ws ++ vs → jobs ≡ js ++ is → keepers ≡ ks ++ hs → AllFit fits all jobs keepers → AllFit fits ws js ks
  fits_left fits all ws vs jobs js is keepers ks hs in_workers in_jobs in_keepers f = λ n i w j k worker job keeper. f n i w j k
      (ap (λ l. slice_get l n) in_workers ∙ at_left ws vs n w worker)
      (ap (λ l. slice_get l i) in_jobs ∙ at_left js is i j job)
      (ap (λ l. slice_get l i) in_keepers ∙ at_left ks hs i k keeper)

  pub fits_right : (fits : W → J → K → Type 0) (all ws vs : List W) (jobs js is : List J) (keepers ks hs : List K)
      → all ≡ ws ++ vs → jobs ≡ js ++ is → keepers ≡ ks ++ hs → length js ≡ length ks → AllFit fits all jobs keepers → AllFit fits vs is hs
  fits_right fits all ws vs jobs js is keepers ks hs in_workers in_jobs in_keepers same f = λ n i w j k worker job keeper. f (length ws + n) (length js + i) w j k
      (ap (λ l. slice_get l (length ws + n)) in_workers ∙ (at_right ws vs n ∙ worker))
      (ap (λ l. slice_get l (length js + i)) in_jobs ∙ (at_right js is i ∙ job))
      (ap (λ l. slice_get l (length js + i)) in_keepers ∙ (ap (λ (m : ℕ). slice_get (ks ++ hs) (m + i)) same ∙ (at_right ks hs i ∙ keeper)))
