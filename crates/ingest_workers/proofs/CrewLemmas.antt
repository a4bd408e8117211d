-- Workers that are enrolled one after the other, and dismissed one after the other from the last one on.
use Rattle.std.proofs.Common.{◌≡◌, ℕ, zero, suc, ◌+◌, ◌-◌, ◌<◌, ◌≤◌, List, [], ◌∷◌, ◌++◌, length, map, sym, refl, ap, ◌∙◌, subst, ⊎_elim, Some, slice_get, length-append}
use Rattle.std.proofs.lemmas.Bool.{cases_lt}
use Rattle.std.proofs.lemmas.List.{map-append}
use Rattle.turn_lock.specs.declared.grows.Grows.{Ghosts}
use Rattle.turn_lock.specs.Words.{lock_by, lock_of, made_by, IsFreshOf, IsReady, IsStillBy}
use Rattle.dict_core.specs.Books.{BookState}
use Rattle.dict_lock.specs.Shared.{BookPass}
use Rattle.dict_lock.specs.Cached.{pass_in}
use Rattle.ingest_fork.specs.Passes.{Fresh, Joined}
use Rattle.ingest_fork.proofs.PassLemmas.{fresh_more, joined_none, joined_more, Joins}
use Rattle.ingest_fork.proofs.PlaceLemmas.{in_left, in_right}
use Rattle.ingest_workers.specs.declared.worker.BookPasses.{BookPasses}
use Rattle.ingest_workers.specs.declared.worker.Plan.{Plan}
use Rattle.ingest_workers.specs.declared.worker.Worker.{Worker}
use Rattle.ingest_workers.specs.Worker.{types_of, words_of}
use Rattle.ingest_workers.specs.WorkerLaws.{passes_is}
use Rattle.ingest_workers.specs.StartedWorkers.{BookMaker, HasEnrolled, MayDismiss, HasDismissed}

module _ {X Y : Type 0} (f : X → Y) where
  pub map_at : (xs : List X) (i : ℕ) (x : X) → slice_get xs i ≡ Some x → slice_get (map f xs) i ≡ Some (f x)
  map_at [] i x at = absurd (cc (at))
  map_at (y ∷ xs) zero x at = let same : y ≡ x = cc (at) in ap (λ z. Some (f z)) same
  map_at (y ∷ xs) (suc i) x at = map_at xs i x at

  pub map_back : (xs : List X) (i : ℕ) (y : Y) → slice_get (map f xs) i ≡ Some y → (x : X) × (slice_get xs i ≡ Some x) × (f x ≡ y)
  map_back [] i y at = absurd (cc (at))
  map_back (x ∷ xs) zero y at = (x, refl, cc (at))
  map_back (x ∷ xs) (suc i) y at = map_back xs i y at

  pub map_count : (xs : List X) → length (map f xs) ≡ length xs
  map_count [] = refl
  map_count (x ∷ xs) = ap suc (map_count xs)

module _ {G : Ghosts BookState (List ℕ) ℕ} where
  -- what making a pass tells
  pub record Makes (m m' : BookMaker G) (p : BookPass) : Type 0 where
    pub still : IsStillBy m m'
    pub made : made_by m' ≡ made_by m + 1
    pub fresh : IsFreshOf m p

  pub enrolled_more : (types t1 t2 words w1 w2 : BookMaker G) (plan : Plan) (ws : List Worker) (i : ℕ) (w : Worker) (b : BookPasses) → HasEnrolled types t1 words w1 plan ws i
      → w.plan ≡ plan → w.passes ≡ Some b → Makes t1 t2 (pass_in b.types) → Makes w1 w2 (pass_in b.words) → HasEnrolled types t2 words w2 plan (ws ++ w ∷ []) (i + 1)
  enrolled_more types t1 t2 words w1 w2 plan ws i w b h planned is t u = let same = passes_is w b is in let count = h.counted in record {
    counted = length-append ws (w ∷ []) ∙ ap (λ (n : ℕ). n + 1) count;
    planned = λ n v at. ⊎_elim (λ (lt : n < length ws). h.planned n v (sym (in_left ws (w ∷ []) n lt) ∙ at))
        (λ (le : length ws ≤ n). last (n - length ws) v (sym (in_right ws (w ∷ []) n le) ∙ at)) (cases_lt n (length ws));
    of_types = subst (λ l. Fresh types t2 l (i + 1)) (ap (λ (x : BookPasses). map types_of ws ++ (pass_in x.types) ∷ []) (sym same) ∙ sym (map-append types_of ws (w ∷ [])))
        (fresh_more types t1 t2 (map types_of ws) i (pass_in b.types) h.of_types t.still t.made t.fresh);
    of_words = subst (λ l. Fresh words w2 l (i + 1)) (ap (λ (x : BookPasses). map words_of ws ++ (pass_in x.words) ∷ []) (sym same) ∙ sym (map-append words_of ws (w ∷ [])))
        (fresh_more words w1 w2 (map words_of ws) i (pass_in b.words) h.of_words u.still u.made u.fresh);
  }
    where
      last : (k : ℕ) (v : Worker) → slice_get (w ∷ []) k ≡ Some v → v.plan ≡ plan
      last zero v at = let same : w ≡ v = cc (at) in ap (λ (x : Worker). x.plan) (sym same) ∙ planned
      last (suc k) v at = absurd (cc (at))

  pub dismissed_none : (types words : BookMaker G) (ws : List Worker) → HasDismissed types types words words ws (length ws)
  dismissed_none types words ws = record {
    of_types = subst (λ n. Joined types types (map types_of ws) n) (map_count types_of ws) (joined_none types (map types_of ws));
    of_words = subst (λ n. Joined words words (map words_of ws) n) (map_count words_of ws) (joined_none words (map words_of ws));
  }

  pub dismissed_more : (types t1 t2 words w1 w2 : BookMaker G) (ws : List Worker) (k : ℕ) (w : Worker) (b : BookPasses) → slice_get ws k ≡ Some w → w.passes ≡ Some b
      → HasDismissed types t1 words w1 ws (k + 1) → Joins t1 t2 (pass_in b.types) → Joins w1 w2 (pass_in b.words) → HasDismissed types t2 words w2 ws k
  dismissed_more types t1 t2 words w1 w2 ws k w b at is h t u = let same = passes_is w b is in record {
    of_types = joined_more types t1 t2 (map types_of ws) k (pass_in b.types) (map_at types_of ws k w at ∙ ap (λ (x : BookPasses). Some (pass_in x.types)) same) h.of_types t;
    of_words = joined_more words w1 w2 (map words_of ws) k (pass_in b.words) (map_at words_of ws k w at ∙ ap (λ (x : BookPasses). Some (pass_in x.words)) same) h.of_words u;
  }

  -- a worker's passes are of the makers' locks, and between two turns
  pub may_join : (types words : BookMaker G) (ws : List Worker) (k : ℕ) (w : Worker) (b : BookPasses) → slice_get ws k ≡ Some w → w.passes ≡ Some b → MayDismiss types words ws
      → ((lock_of (pass_in b.types) ≡ lock_by types) × IsReady (pass_in b.types)) × ((lock_of (pass_in b.words) ≡ lock_by words) × IsReady (pass_in b.words))
  may_join types words ws k w b at is may = let same = passes_is w b is in (
    subst (λ (x : BookPasses). (lock_of (pass_in x.types) ≡ lock_by types) × IsReady (pass_in x.types)) same (may.of_types k (types_of w) (map_at types_of ws k w at)),
    subst (λ (x : BookPasses). (lock_of (pass_in x.words) ≡ lock_by words) × IsReady (pass_in x.words)) same (may.of_words k (words_of w) (map_at words_of ws k w at)),
  )
