-- Two bytes beside each other, in what a pattern matches and in texts that are joined.
use Rattle.std.proofs.Common.{◌≡◌, ◌≢◌, ◌⊎◌, inl, inr, ℕ, zero, suc, ◌+◌, Bool, List, [], ◌∷◌, ◌++◌, Some, refl, ◌∙◌, subst, arith}
use Rattle.std.specs.Prelude.{slice_get, IsTrue}
use Rattle.wild_match.specs.Matches.{Match, OfSomeRest}
use Rattle.wild_match.specs.declared.pattern.Item.{Item}
use Rattle.wild_match.specs.declared.pattern.Item.TheVariants.{Byte, One, Many}
use Rattle.query_plan.specs.Needs.{around}
use Rattle.pair_sieve.specs.Pairs.{Begins, Supplies, HasPair, StandsIn}

any_rest : (bytes : List ℕ) → OfSomeRest (λ l. l ≡ []) bytes
any_rest [] = refl
any_rest (b ∷ bytes) = inr (any_rest bytes)

module _ (x : ℕ) where
  -- no byte is x
  abbrev pub Lacks : List ℕ → Type 0
  Lacks [] = Unit {0}
  Lacks (b ∷ text) = (b ≢ x) × Lacks text

  -- a text in which the byte does not stand
  pub lacks_byte : (text : List ℕ) → (¬ Match (around (x ∷ [])) text) → Lacks text
  lacks_byte [] none = tt
  lacks_byte (b ∷ text) none = (λ same. none (inl (same, any_rest text)), lacks_byte text (λ m. none (inr m)))

module _ (x y : ℕ) where
  -- ---- what a pattern matches

  of_rest : (P : List ℕ → Type 0) → ((l : List ℕ) → P l → HasPair x y l) → (bytes : List ℕ) → OfSomeRest P bytes → HasPair x y bytes
  of_rest P each [] is = each [] is
  of_rest P each (b ∷ bytes) (inl is) = each (b ∷ bytes) is
  of_rest P each (b ∷ bytes) (inr is) = inr (of_rest P each bytes is)

  -- the second byte comes first
  second_first : (items : List Item) (bytes : List ℕ) → slice_get items 0 ≡ Some (Byte y) → Match items bytes → Begins y bytes
  second_first [] bytes is m = absurd (cc (is))
  second_first (Byte c ∷ items) [] is m = m
  second_first (Byte c ∷ items) (b ∷ bytes) is m = let same : c ≡ y = cc (is) in m.0 ∙ same
  second_first (One ∷ items) bytes is m = absurd (cc (is))
  second_first (Many ∷ items) bytes is m = absurd (cc (is))

  pair_from : (items : List Item) (at : ℕ) (bytes : List ℕ) → slice_get items at ≡ Some (Byte x) → slice_get items (suc at) ≡ Some (Byte y) → Match items bytes → HasPair x y bytes
  pair_from [] at bytes one two m = absurd (cc (one))
  pair_from (Byte c ∷ items) zero [] one two m = m
  pair_from (Byte c ∷ items) zero (b ∷ bytes) one two m = let same : c ≡ x = cc (one) in inl (m.0 ∙ same, second_first items bytes two m.1)
  pair_from (One ∷ items) zero bytes one two m = absurd (cc (one))
  pair_from (Many ∷ items) zero bytes one two m = absurd (cc (one))
  pair_from (Byte c ∷ items) (suc at) [] one two m = m
  pair_from (Byte c ∷ items) (suc at) (b ∷ bytes) one two m = inr (pair_from items at bytes one two m.1)
  pair_from (One ∷ items) (suc at) [] one two m = m
  pair_from (One ∷ items) (suc at) (b ∷ bytes) one two m = inr (pair_from items at bytes one two m)
  pair_from (Many ∷ items) (suc at) bytes one two m = of_rest (λ l. Match items l) (λ l is. pair_from items at l one two is) bytes m

  pub matched_has : (pattern : List Item) (bytes : List ℕ) → StandsIn x y pattern → Match pattern bytes → HasPair x y bytes
  matched_has pattern bytes stands m =
      let next : stands.0 + 1 ≡ suc stands.0 = omega arith in
      pair_from pattern stands.0 bytes stands.1 (subst (λ n. slice_get pattern n ≡ Some (Byte y)) next stands.2) m

  -- ---- texts that are joined

  -- behind a text without x
  pub past_other : (text rest : List ℕ) → Lacks x text → HasPair x y (text ++ rest) → HasPair x y rest
  past_other [] rest lacks has = has
  past_other (b ∷ text) rest lacks (inl has) = absurd (lacks.0 has.0)
  past_other (b ∷ text) rest lacks (inr has) = past_other text rest lacks.1 has

  pub behind : (text rest : List ℕ) → HasPair x y rest → HasPair x y (text ++ rest)
  behind [] rest has = has
  behind (b ∷ text) rest has = inr (behind text rest has)

  cut : (word rest : List ℕ) → HasPair x y (word ++ rest) → HasPair x y (word ++ y ∷ []) ⊎ HasPair x y rest
  cut [] rest has = inr has
  cut (a ∷ []) rest (inl has) = inl (inl (has.0, refl))
  cut (a ∷ []) rest (inr has) = inr has
  cut (a ∷ b ∷ word) rest (inl has) = inl (inl has)
  cut (a ∷ b ∷ word) rest (inr has) = elim (cut (b ∷ word) rest has) [
    | inl here ↦ inl (inr here)
    | inr later ↦ inr later
  ]

  -- a word supplies it, or what is behind has it
  pub past_word : (word rest : List ℕ) → (¬ Supplies x y word) → HasPair x y (word ++ rest) → HasPair x y rest
  past_word word rest none has = elim (cut word rest has) [
    | inl here ↦ absurd (none (inr here))
    | inr later ↦ later
  ]

  pub first_past_word : (word rest : List ℕ) → (¬ Supplies x y word) → Begins y (word ++ rest) → ⊥
  first_past_word [] rest none begins = none (inl (refl, refl))
  first_past_word (b ∷ word) rest none begins = none (inl (refl, begins))

  -- ---- byte by byte

  -- the byte before is x, and y is first, or they stand later
  abbrev pub HasOn : Bool → List ℕ → Type 0
  HasOn before rest = (IsTrue before × Begins y rest) ⊎ HasPair x y rest

  pub on_by_one : (before : Bool) (b : ℕ) (rest : List ℕ) (next : Bool) → (IsTrue before → b ≡ y → ⊥) → (b ≡ x → IsTrue next) → HasOn before (b ∷ rest) → HasOn next rest
  on_by_one before b rest next none test (inl has) = absurd (none has.0 has.1)
  on_by_one before b rest next none test (inr (inl has)) = inl (test has.0, has.1)
  on_by_one before b rest next none test (inr (inr has)) = inr has
