-- Numbers and the texts at their places: what a look-up found, and one number more.
use Rattle.std.proofs.Common.{◌≡◌, ◌⊎◌, ⊎_elim, inl, inr, ℕ, zero, suc, ◌≤◌, List, [], ◌∷◌, ◌++◌, length, refl, sym, ap, subst, ◌∙◌, arith, Option, None, Some, unwrap_or, slice_get}
use Rattle.std.specs.Option.{IfSome, IfNone}
use Rattle.std.proofs.lemmas.Option.{none-some, slice_get_within}
use Rattle.plain_list.specs.Texts.{IsNew}
use Rattle.dict_core.specs.Lookups.{IsNumberOf}

-- an element of a list with one more is an old one or the last
slice_get-push : {A : Type 0} (xs : List A) (y x : A) (k : ℕ) → slice_get (xs ++ y ∷ []) k ≡ Some x → (slice_get xs k ≡ Some x) ⊎ ((k ≡ length xs) × (Some y ≡ Some x))
slice_get-push [] y x zero at = inr (refl, at)
slice_get-push [] y x (suc k) at = absurd (none-some x at)
slice_get-push (z ∷ zs) y x zero at = inl at
slice_get-push (z ∷ zs) y x (suc k) at = ⊎_elim (λ e. inl e) (λ e. inr (ap suc e.0, e.1)) (slice_get-push zs y x k at)

module _ (Fact : ℕ → List ℕ → Type 0) (numbers : List ℕ) (texts : List (List ℕ)) (m place : ℕ) (given : List ℕ) (here : slice_get texts place ≡ Some given) where
  -- the fact holds of the number and the text at its place
  at_place : Fact m given → (k n : ℕ) (text : List ℕ) → k ≡ place → Some m ≡ Some n → slice_get texts k ≡ Some text → Fact n text
  at_place mine k n text same is there =
      let n_is : m ≡ n = cc (is) in
      let both : Some given ≡ Some text = sym here ∙ sym (ap (slice_get texts) same) ∙ there in
      let text_is : given ≡ text = cc (both) in
      subst (Fact n) text_is (subst (λ j. Fact j given) n_is mine)

  -- a number more
  pub fits_push : length numbers ≡ place → Fact m given → ((k n : ℕ) (text : List ℕ) → slice_get numbers k ≡ Some n → slice_get texts k ≡ Some text → Fact n text) →
      (k n : ℕ) (text : List ℕ) → slice_get (numbers ++ m ∷ []) k ≡ Some n → slice_get texts k ≡ Some text → Fact n text
  fits_push long mine old k n text at there = ⊎_elim
      (λ (e : slice_get numbers k ≡ Some n). old k n text e there)
      (λ (e : (k ≡ length numbers) × (Some m ≡ Some n)). at_place mine k n text (e.0 ∙ long) e.1 there)
      (slice_get-push numbers m n k at)

-- the number that a look-up found, or what is put in place of one
pub number_is : (known : List (List ℕ)) (text : List ℕ) (found : Option ℕ) → length known ≤ 2147483648 →
    IfSome found (λ n. slice_get known n ≡ Some text) → IfNone found (IsNew known text) → IsNumberOf known (unwrap_or found 4294967295) text
number_is known text None few some none = record { here = λ apart. absurd (apart refl); new = λ _. none }
number_is known text (Some n) few some none = record {
  here = λ _. some;
  new = λ same. let below = slice_get_within known n text some in absurd (omega (arith, below, few, same));
}
