-- What came of the opening of some first names, and of one more.
use Rattle.std.proofs.Common.{◌≡◌, ◌+◌, ◌<◌, ◌≤◌, sym, ap, subst, ◌∙◌, ℕ, suc, List, [], ◌∷◌, ◌++◌, map, take, get_or, length, Option, inl, inr, arith}
use Rattle.std.specs.List.{AllZip}
use Rattle.std.proofs.Math.Seq.{take-suc}
use Rattle.std.proofs.Math.ListN.{get_or-map}
use Rattle.std.proofs.lemmas.List.{length-map}
use Rattle.log_seams.specs.Outside.{Rose}
use Rattle.log_seams.specs.declared.refusals.OpenRefused.TheVariants.{Failed, OutOfMemory}
use Rattle.log_sources.specs.declared.source.LogSource.{LogSource}
use Rattle.log_sources.specs.declared.source.LogSource.TheVariants.{Opened, Unopened}
use Rattle.log_sources.specs.Sources.{CameOf}

-- a count that rose has risen since a count that was not above the first, and by one that is not below the second
pub Rose-wider : (a b c d : ℕ) → a ≤ b → c ≤ d → Rose b c → Rose a d
Rose-wider a b c d low high (inl more) = inl (omega arith)
Rose-wider a b c d low high (inr last) = inr (omega arith)

module _ {S : Type 0} (left name : S → Option (List ℕ)) (faults : S → ℕ) where
  -- what came of an opening does not change while counts go on
  came_on : (content content' : List ℕ → Option (List ℕ)) (old mid new later : List ℕ → ℕ) → ((n : List ℕ) → content' n ≡ content n) → ((n : List ℕ) → old n ≤ mid n) → ((n : List ℕ) → new n ≤ later n)
      → (asked : List ℕ) (s : LogSource S) → CameOf left name faults content' mid new asked s → CameOf left name faults content old later asked s
  came_on content content' old mid new later same low high asked (Opened s) came = record { text = came.text; left_is = came.left_is ∙ same asked; named = came.named; fresh = came.fresh }
  came_on content content' old mid new later same low high asked (Unopened Failed n) came = (came.0, Rose-wider (old asked) (mid asked) (new asked) (later asked) (low asked) (high asked) came.1)
  came_on content content' old mid new later same low high asked (Unopened OutOfMemory n) came = came

  all_on : (content : List ℕ → Option (List ℕ)) (old new later : List ℕ → ℕ) → ((n : List ℕ) → new n ≤ later n)
      → (names : List (List ℕ)) (sources : List (LogSource S)) → AllZip (CameOf left name faults content old new) names sources → AllZip (CameOf left name faults content old later) names sources
  all_on content old new later high [] [] all = tt
  all_on content old new later high [] (s ∷ sources) all = all
  all_on content old new later high (n ∷ names) [] all = all
  all_on content old new later high (n ∷ names) (s ∷ sources) all =
      (came_on content content old old new later (λ m i. content m) (λ m. omega arith) high n s all.0, all_on content old new later high names sources all.1)

  one_more : (R : List ℕ → LogSource S → Type 0) (names : List (List ℕ)) (sources : List (LogSource S)) (n : List ℕ) (s : LogSource S) → AllZip R names sources → R n s → AllZip R (names ++ n ∷ []) (sources ++ s ∷ [])
  one_more R [] [] n s all here = (here, tt)
  one_more R [] (x ∷ sources) n s all here = absurd all
  one_more R (m ∷ names) [] n s all here = absurd all
  one_more R (m ∷ names) (x ∷ sources) n s all here = (all.0, one_more R names sources n s all.1 here)

  -- one name more
  pub opened_next : {A : Type 0} (f : A → List ℕ) (content content' : List ℕ → Option (List ℕ)) (old mid new : List ℕ → ℕ) (names : List A) (i : ℕ) (word : A) (asked : List ℕ) (sources sources' : List (LogSource S)) (s : LogSource S)
      → i < length names → word ≡ get_or names i word → asked ≡ f word → sources' ≡ sources ++ s ∷ []
      → ((n : List ℕ) → content' n ≡ content n) → ((n : List ℕ) → old n ≤ mid n) → ((n : List ℕ) → mid n ≤ new n)
      → AllZip (CameOf left name faults content old mid) (take i (map f names)) sources → CameOf left name faults content' mid new asked s
      → AllZip (CameOf left name faults content old new) (take (i + 1) (map f names)) sources'
  opened_next f content content' old mid new names i word asked sources sources' s within is asks more same low high all came =
      let next_is : i + 1 ≡ suc i = omega arith in
      let next : take (i + 1) (map f names) ≡ take i (map f names) ++ asked ∷ [] =
      ap (λ n. take n (map f names)) next_is ∙ take-suc (map f names) i (f word) (omega (arith, length-map names f))
      ∙ ap (λ w. take i (map f names) ++ w ∷ []) (get_or-map f names i word ∙ ap f (sym is) ∙ sym asks) in
      let both = one_more (CameOf left name faults content old new) (take i (map f names)) sources asked s (all_on content old mid new high (take i (map f names)) sources all) (came_on content content' old mid new new same low (λ n. omega arith) asked s came) in
      subst (λ ns. AllZip (CameOf left name faults content old new) ns sources') (sym next) (subst (λ ss. AllZip (CameOf left name faults content old new) (take i (map f names) ++ asked ∷ []) ss) (sym more) both)
