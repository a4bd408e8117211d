-- How often a shelf in memory failed to open a name, with one more name that it refused.
use Rattle.std.proofs.Common.{◌≡◌, ◌≢◌, inl, ℕ, ◌+◌, ◌≤◌, List, [], ◌∷◌, ◌++◌, Option, Some, None, if◌then◌else◌, refl, ap, arith}
use Rattle.std.specs.Prelude.{is_some, IsSome}
use Rattle.std.specs.Str.{bytes_eq}
use Rattle.std.proofs.lemmas.Slice.Eq.{bytes_eq-Decides}
use Rattle.log_seams.specs.MemShelf.{times}
use Rattle.log_seams.specs.Outside.{Rose}
use Rattle.log_seams.specs.declared.mem_shelf.MemFile.{MemFile}

abbrev counted : List ℕ → List ℕ → ℕ
counted name n = if bytes_eq name n then 1 else 0

times_push : (n : List ℕ) (names : List (List ℕ)) (name : List ℕ) → times n (names ++ name ∷ []) ≡ times n names + counted name n
times_push n [] name = refl
times_push n (m ∷ names) name = omega (arith, times_push n names name)

once : (name : List ℕ) → counted name name ≡ 1
once name = grind (arith, bytes_eq-Decides name name)

never : (name n : List ℕ) → n ≢ name → counted name n ≡ 0
never name n other = grind (arith, bytes_eq-Decides name n)

module _ (names new : List (List ℕ)) (name : List ℕ) (absent : ℕ) (is : new ≡ names ++ name ∷ []) where
  pub opens_more : (f : Option MemFile) (n : List ℕ) → (if is_some f then times n names else absent) ≤ (if is_some f then times n new else absent)
  opens_more None n = omega arith
  opens_more (Some f) n = omega (arith, ap (λ (l : List (List ℕ)). times n l) is, times_push n names name)

  pub opens_others : (f : Option MemFile) (n : List ℕ) → n ≢ name → (if is_some f then times n new else absent) ≡ (if is_some f then times n names else absent)
  opens_others None n other = refl
  opens_others (Some f) n other = omega (arith, ap (λ (l : List (List ℕ)). times n l) is, times_push n names name, never name n other)

  pub opens_rose : (f : Option MemFile) → IsSome f → Rose (if is_some f then times name names else absent) (if is_some f then times name new else absent)
  opens_rose None there = absurd cc
  opens_rose (Some f) there = inl (omega (arith, ap (λ (l : List (List ℕ)). times name l) is, times_push name names name, once name))
