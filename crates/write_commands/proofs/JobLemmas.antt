-- Jobs over files that have their names, and the journal that an ingest leaves.
use Rattle.std.proofs.Common.{◌≡◌, ◌+◌, ◌<◌, refl, sym, ap, subst, ◌∙◌, ℕ, zero, suc, List, [], ◌∷◌, ◌++◌, false, length, map, take, get_or, Option, Some, slice_get, inl, inr, arith}
use Rattle.std.specs.Prelude.{is_some}
use Rattle.std.specs.List.{AllZip}
use Rattle.std.proofs.Math.Seq.{take-suc}
use Rattle.std.proofs.Math.ListN.{get_or-map}
use Rattle.std.proofs.lemmas.List.{length-append, length-map, map-append}
use Rattle.std.proofs.lemmas.Option.{slice_get_within}
use Rattle.log_seams.specs.declared.disk.Disk.{Ghosts as DiskGhosts}
use Rattle.log_seams.specs.Disk.{IsLawful}
use Rattle.log_seams.proofs.MomentLemmas.{weaker}
use Rattle.dict_core.specs.Books.{BookState}
use Rattle.disk_journal.specs.declared.journal.Journal.{Journal}
use Rattle.disk_journal.specs.State.{JournalState}
use Rattle.disk_seal.specs.View.{StoreView}
use Rattle.disk_seal.proofs.ToldLemmas.{told_map}
use Rattle.ingest_workers.specs.Ingested.{AreNew, IsAsItWas, IsLeftBy, first_file, told_entries}
use Rattle.ingest_workers.specs.Journal.{Holds}
use Rattle.ingest_workers.specs.declared.job.Job.{Job}
use Rattle.command_refusals.specs.GoesOn.{DiskGoesOn}
use Rattle.file_outcomes.specs.Jobs.{DidJobs}
use Rattle.file_outcomes.specs.Naming.{AreNumbered, HasGoneOn, IsJobOf, IsNamed}
use Rattle.command_refusals.proofs.GoingLemmas.{DiskGoesOn-same}

-- ---- lists that grow by one

-- a name more, which stands at the next place
pub named_next : {A B : Type 0} (f : A → List ℕ) (g : B → List ℕ) (names : List A) (done done' : List B) (i : ℕ) (a : A) (b : B)
    → i ≡ length done → i < length names → a ≡ get_or names i a → g b ≡ f a → done' ≡ done ++ b ∷ []
    → map g done ≡ take (length done) (map f names) → map g done' ≡ take (length done') (map f names)
named_next f g names done done' i a b place within is same more before =
    let n : length done' ≡ suc i = ap length more ∙ (length-append done (b ∷ []) ∙ omega (arith, place)) in
    ap (map g) more
    ∙ (map-append g done (b ∷ [])
    ∙ (ap (λ (ns : List (List ℕ)). ns ++ g b ∷ []) (before ∙ ap (λ k. take k (map f names)) (sym place))
    ∙ (ap (λ (x : List ℕ). take i (map f names) ++ x ∷ []) (same ∙ (ap f is ∙ sym (get_or-map f names i a)))
    ∙ sym (ap (λ k. take k (map f names)) n ∙ take-suc (map f names) i (f a) (omega (arith, length-map names f, within))))))

pub as_many : {A B : Type 0} (R : A → B → Type 0) (xs : List A) (ys : List B) → AllZip R xs ys → length ys ≡ length xs
as_many R [] [] all = refl
as_many R [] (y ∷ ys) all = absurd all
as_many R (x ∷ xs) [] all = absurd all
as_many R (x ∷ xs) (y ∷ ys) all = ap suc (as_many R xs ys all.1)

module _ {S : Type 0} where
  -- a job more
  pub numbered_next : (n : ℕ) (js : List (Job S)) (j : Job S) → AreNumbered n js → IsJobOf (n + length js) j → AreNumbered n (js ++ j ∷ [])
  numbered_next n [] j are one = (record { outcome = one.outcome; file = omega (arith, one.file); whole = one.whole }, tt)
  numbered_next n (x ∷ xs) j are one = (are.0, numbered_next (n + 1) xs j are.1 (record { outcome = one.outcome; file = omega (arith, one.file); whole = one.whole }))

  -- ---- jobs over new files

  pub numbered_at : (n : ℕ) (js : List (Job S)) (i : ℕ) (job : Job S) → AreNumbered n js → slice_get js i ≡ Some job → IsJobOf (n + i) job
  numbered_at n [] i job are at = absurd (cc (at))
  numbered_at n (j ∷ js) zero job are at =
      let same : j ≡ job = cc (at) in let one = subst (IsJobOf n) same are.0 in record { outcome = one.outcome; file = omega (arith, one.file); whole = one.whole }
  numbered_at n (j ∷ js) (suc i) job are at = let one = numbered_at (n + 1) js i job are.1 at in record { outcome = one.outcome; file = omega (arith, one.file); whole = one.whole }

  first_is : (n : ℕ) (js : List (Job S)) (i : ℕ) (job : Job S) → AreNumbered n js → slice_get js i ≡ Some job → first_file js ≡ n
  first_is n [] i job are at = absurd (cc (at))
  first_is n (j ∷ js) i job are at = are.0.file

  pub are_new : (j : JournalState) (types words : BookState) (first count : ℕ) (js : List (Job S)) → IsNamed j types words first count → AreNumbered first js → length js ≡ count → AreNew (first_file js) j js
  are_new j types words first count js named are counted = λ i job at.
      let within : i < length js = slice_get_within js i job at in
      let is = numbered_at first js i job are at in
      record {
        outcome = is.outcome;
        file_is = is.file ∙ ap (λ (n : ℕ). n + i) (sym (first_is first js i job are at));
        small = omega (arith, is.file, within, counted, named.few);
        empty = told_map (is_some j.disk.seen) (λ holds. subst (λ (n : ℕ). Holds j.header (told_entries j) n [] false false) (sym is.file) (holds i (omega (arith, within, counted)))) named.empty;
      }

-- ---- the journal that is left

module _ {D : Type 0} {d : DiskGhosts D} where
  left_goes_on : (store : StoreView D) (before after : Journal D d) → IsLeftBy store before after → HasGoneOn before after
  left_goes_on store before after left =
      let k = left.kept in
      let goes : DiskGoesOn (d.state store.opened) (d.state store.disk) = record { counts = k.risen; tells = k.tells_still; moments = weaker _ _ _ _ k.past (λ c is. tt) } in
      record {
        name = left.name;
        disk = subst (λ (x : D). DiskGoesOn (d.state x) (d.state after.disk.now)) left.opened (subst (λ (x : D). DiskGoesOn (d.state store.opened) (d.state x)) left.disk goes);
      }

  pub same_goes_on : (j : Journal D d) → IsLawful (d.state j.disk.now) → HasGoneOn j j
  same_goes_on j law = record { name = refl; disk = DiskGoesOn-same (d.state j.disk.now) law }

  as_it_was_goes_on : (before after : Journal D d) → IsLawful (d.state before.disk.now) → IsAsItWas before after → HasGoneOn before after
  as_it_was_goes_on before after law (inl same) = subst (λ (x : Journal D d). HasGoneOn before x) (sym same) (same_goes_on before law)
  as_it_was_goes_on before after law (inr stayed) = left_goes_on stayed.0 before after stayed.1.left_by

  module _ {S : Type 0} (left name : S → Option (List ℕ)) (faults : S → ℕ) (workers rows : ℕ) (before after : Journal D d) (js js' : List (Job S)) where
    pub did_go_on : IsLawful (d.state before.disk.now) → DidJobs left name faults workers rows before after js js' → HasGoneOn before after
    did_go_on law (inl done) = left_goes_on done.ingested.store before after done.ingested.stored.left_by
    did_go_on law (inr none) = as_it_was_goes_on before after law none.journal

    pub as_many_done : DidJobs left name faults workers rows before after js js' → length js' ≡ length js
    as_many_done (inl done) = done.ingested.stored.counted
    as_many_done (inr none) = none.jobs.counted
