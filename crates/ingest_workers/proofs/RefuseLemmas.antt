-- Jobs that are refused one after the other.
use Rattle.std.proofs.Common.{◌≡◌, ◌≢◌, ℕ, zero, suc, ◌+◌, ◌<◌, List, [], ◌∷◌, length, set, get_or, sym, ap, refl, ◌∙◌, subst, arith, Some, slice_get}
use Rattle.std.proofs.lemmas.Option.{slice_get_within, get_or_from_slice_get}
use mathlib.Core.Logic.{dite}
use native.Mathlib.Decide.{ℕ_discrete}
use Rattle.ingest_fork.proofs.PlaceLemmas.{set_at, set_off}
use Rattle.ingest_workers.specs.declared.job.Job.{Job}
use Rattle.ingest_workers.specs.Ingested.{not_begun}

module _ {S : Type 0} where
  -- the jobs before this place are refused, and all have their files and sources
  abbrev pub AreRefusedTo : List (Job S) → List (Job S) → ℕ → Type 0
  AreRefusedTo js now k = (length now ≡ length js) × ((i : ℕ) (job : Job S) → i < k → slice_get now i ≡ Some job → job.outcome ≡ not_begun)
      × ((i : ℕ) (job : Job S) → slice_get js i ≡ Some job → (new : Job S) × (slice_get now i ≡ Some new) × (new.file ≡ job.file) × (new.source ≡ job.source))

  set_long : (xs : List (Job S)) (i : ℕ) (x : Job S) → length (set xs i x) ≡ length xs
  set_long [] i x = refl
  set_long (y ∷ xs) zero x = refl
  set_long (y ∷ xs) (suc i) x = ap suc (set_long xs i x)

  pub refused_more : (js now : List (Job S)) (k : ℕ) (j d : Job S) → AreRefusedTo js now k → j.outcome ≡ not_begun → j.file ≡ (get_or now k d).file → j.source ≡ (get_or now k d).source → AreRefusedTo js (set now k j) (k + 1)
  refused_more js now k j d inv outcome file source = (set_long now k j ∙ inv.0, before, all)
    where
      at_k : (job : Job S) → slice_get (set now k j) k ≡ Some job → j ≡ job
      at_k job at = let lt = slice_get_within (set now k j) k job at in let here = set_at now k j (omega (arith, lt, set_long now k j)) in cc (here, at)

      before : (i : ℕ) (job : Job S) → i < k + 1 → slice_get (set now k j) i ≡ Some job → job.outcome ≡ not_begun
      before i job lt at = dite (ℕ_discrete i k)
          (λ (is : i ≡ k). subst (λ (x : Job S). x.outcome ≡ not_begun) (at_k job (subst (λ n. slice_get (set now k j) n ≡ Some job) is at)) outcome)
          (λ (not : i ≢ k). inv.1 i job (below i k lt not) (sym (set_off now k i j not) ∙ at))
        where
          below : (i k : ℕ) → i < k + 1 → i ≢ k → i < k
          below zero zero lt not = absurd (not refl)
          below zero (suc k) lt not = omega arith
          below (suc i) zero lt not = absurd (omega (arith, lt))
          below (suc i) (suc k) lt not = let less = below i k (omega (arith, lt)) (λ e. not (ap suc e)) in omega (arith, less)

      all : (i : ℕ) (job : Job S) → slice_get js i ≡ Some job → (new : Job S) × (slice_get (set now k j) i ≡ Some new) × (new.file ≡ job.file) × (new.source ≡ job.source)
      all i job at = let was = inv.2 i job at in dite (ℕ_discrete i k)
          (λ (is : i ≡ k). let there : slice_get now k ≡ Some was.0 = subst (λ n. slice_get now n ≡ Some was.0) is was.1 in
          let same : get_or now k d ≡ was.0 = get_or_from_slice_get now k was.0 d there in (
            j,
            subst (λ n. slice_get (set now k j) n ≡ Some j) (sym is) (set_at now k j (slice_get_within now k was.0 there)),
            file ∙ (ap (λ (x : Job S). x.file) same ∙ was.2),
            source ∙ (ap (λ (x : Job S). x.source) same ∙ was.3),
          ))
          (λ (not : i ≢ k). (was.0, set_off now k i j not ∙ was.1, was.2, was.3))
