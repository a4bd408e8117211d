-- A search by literal bytes rules out each place that it passes.
use Rattle.std.proofs.Common.{◌≡◌, ℕ, ◌+◌, ◌-◌, ◌≤◌, ◌<◌, List, length, drop, subst, arith, ⊎_elim}
use Rattle.std.proofs.lemmas.Bool.{cases_lt, cases_eq}
use Rattle.memchr.specs.Find.{Nowhere, NoneBefore, OccursAt}
use Rattle.wild_match.specs.declared.pattern.Item.{Item}
use Rattle.wild_match.specs.Matches.{FitsAt}
use Rattle.wild_match.specs.Runs.{RunAt}
use Rattle.wild_match.proofs.Occurring.{FitsAt-OccursAt}
use Rattle.wild_match.proofs.Matching.{Fits-length}
use Rattle.std.proofs.Common.{length-drop}

module _ (fixed : List Item) (s needle : List ℕ) (skip : ℕ) (within : skip + length needle ≤ length fixed) (run : RunAt fixed needle skip) (from : ℕ) (before : Nowhere (FitsAt fixed s) 0 from) where
  pub passed : (at j : ℕ) → NoneBefore (OccursAt (drop (from + skip) s) needle) 0 j at → Nowhere (FitsAt fixed s) 0 (from + at)
  passed at j none k low high f =
      ⊎_elim (λ (early : k < from). before k low early f)
      (λ (late : from ≤ k). none.before (k - from) (omega arith) (omega arith) (FitsAt-OccursAt fixed s needle skip within run from k late f))
      (cases_lt k from)

  pub passed_all : Nowhere (OccursAt (drop (from + skip) s) needle) 0 (length (drop (from + skip) s) + 1) → Nowhere (FitsAt fixed s) 0 (length s + 1)
  passed_all none k low high f =
      ⊎_elim (λ (early : k < from). before k low early f)
      (λ (late : from ≤ k).
      let occurs = FitsAt-OccursAt fixed s needle skip within run from k late f in
      none (k - from) (omega arith) (omega (arith, occurs.fits)) occurs)
      (cases_lt k from)

-- where too few bytes are left, no place is left
pub too_few : (fixed : List Item) (s : List ℕ) (from : ℕ) → length s - from < length fixed → Nowhere (FitsAt fixed s) 0 from → Nowhere (FitsAt fixed s) 0 (length s + 1)
too_few fixed s from few before k low high f =
    ⊎_elim (λ (early : k < from). before k low early f)
    (λ (late : from ≤ k).
    let long : length fixed ≤ length s - k = subst (λ n. length fixed ≤ n) (length-drop k s) (Fits-length fixed (drop k s) f.1) in
    omega arith)
    (cases_lt k from)

-- one more place
pub one_more : (P : ℕ → Type 0) (k : ℕ) → Nowhere P 0 k → ¬ P k → Nowhere P 0 (k + 1)
one_more P k before here j low high p =
    ⊎_elim (λ (same : j ≡ k). here (subst P same p)) (λ ne. before j low (omega arith) p) (cases_eq j k)
