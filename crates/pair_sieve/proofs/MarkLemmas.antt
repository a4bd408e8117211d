-- Flags and the texts that they tell of.
use Rattle.std.proofs.Common.{◌≡◌, ℕ, zero, suc, ◌<◌, Bool, true, false, List, [], ◌∷◌, ◌++◌, length, Some, refl, sym, ◌∙◌, ap, subst, arith}
use Rattle.std.specs.Prelude.{slice_get}
use Rattle.pair_sieve.specs.Sieve.{Marks}

module _ (P : List ℕ → Type 0) where
  -- further texts change nothing
  pub marks_longer : (texts more : List (List ℕ)) (flags : List Bool) → Marks P texts flags → Marks P (texts ++ more) flags
  marks_longer texts more [] marks = tt
  marks_longer [] more (flag ∷ flags) marks = absurd marks
  marks_longer (text ∷ texts) more (flag ∷ flags) marks = (marks.0, marks_longer texts more flags marks.1)

  -- a flag for the next text
  pub marks_push : (texts : List (List ℕ)) (flags : List Bool) (text : List ℕ) (flag : Bool) → Marks P texts flags → slice_get texts (length flags) ≡ Some text → (P text → flag ≡ true)
      → Marks P texts (flags ++ flag ∷ [])
  marks_push [] [] text flag marks is test = absurd (cc (is))
  marks_push (t ∷ texts) [] text flag marks is test = let same : t ≡ text = cc (is) in ((λ p. test (subst P same p)), tt)
  marks_push [] (f ∷ flags) text flag marks is test = absurd marks
  marks_push (t ∷ texts) (f ∷ flags) text flag marks is test = (marks.0, marks_push texts flags text flag marks.1 is test)

  -- the flag of a text that has P is set
  pub flag_set : (texts : List (List ℕ)) (flags : List Bool) (at : ℕ) (text : List ℕ) → Marks P texts flags → at < length flags → slice_get texts at ≡ Some text → P text
      → slice_get flags at ≡ Some true
  flag_set texts [] at text marks within is p = absurd (omega (arith, within))
  flag_set [] (f ∷ flags) at text marks within is p = absurd marks
  flag_set (t ∷ texts) (f ∷ flags) zero text marks within is p = let same : t ≡ text = cc (is) in ap Some (marks.0 (subst P (sym same) p))
  flag_set (t ∷ texts) (f ∷ flags) (suc at) text marks within is p = flag_set texts flags at text marks.1 (omega (arith, within)) is p

  -- a flag was pushed behind the others
  pub marks_next : (texts : List (List ℕ)) (flags new : List Bool) (number at : ℕ) (text : List ℕ) (flag : Bool) → number ≡ length flags → at ≡ number → slice_get texts at ≡ Some text
      → (flag ≡ false → ¬ P text) → new ≡ flags ++ flag ∷ [] → Marks P texts flags → Marks P texts new
  marks_next texts flags new number at text flag count same is test pushed marks =
      subst (Marks P texts) (sym pushed) (marks_push texts flags text flag marks (subst (λ n. slice_get texts n ≡ Some text) (same ∙ count) is) (set flag test))
    where
      set : (f : Bool) → (f ≡ false → ¬ P text) → P text → f ≡ true
      set true none p = refl
      set false none p = absurd (none refl p)
