-- A pattern matches a message or does not, and so of each list some are matched.
use Rattle.std.proofs.Common.{◌⊎◌, inl, inr, ℕ, List, [], ◌∷◌, refl}
use Rattle.std.proofs.lemmas.Bool.{cases_eq}
use Rattle.wild_match.specs.Matches.{Match, OfSomeRest}
use Rattle.wild_match.specs.declared.pattern.Item.{Item}
use Rattle.wild_match.specs.declared.pattern.Item.TheVariants.{Byte, One, Many}
use Rattle.printed_lines.specs.Lines.{Placed}
use Rattle.printed_lines.specs.Printed.{AreMatched}

abbrev pub IsDecided : Type 0 → Type 0
IsDecided P = P ⊎ (¬ P)

rest_decided : (P : List ℕ → Type 0) → ((l : List ℕ) → IsDecided (P l)) → (bytes : List ℕ) → IsDecided (OfSomeRest P bytes)
rest_decided P each [] = each []
rest_decided P each (b ∷ bytes) = elim (each (b ∷ bytes)) as (λ x. IsDecided (OfSomeRest P (b ∷ bytes))) [
  | inl is ↦ inl (inl is)
  | inr other ↦ elim (rest_decided P each bytes) as (λ x. IsDecided (OfSomeRest P (b ∷ bytes))) [
    | inl is ↦ inl (inr is)
    | inr none ↦ inr (λ is. elim is as (λ x. ⊥) [
      | inl here ↦ other here
      | inr later ↦ none later
    ])
  ]
]

pub match_decided : (items : List Item) (bytes : List ℕ) → IsDecided (Match items bytes)
match_decided [] [] = inl refl
match_decided [] (b ∷ bytes) = inr (λ is. cc (is))
match_decided (Byte c ∷ items) [] = inr (λ is. is)
match_decided (Byte c ∷ items) (b ∷ bytes) = elim (cases_eq b c) as (λ x. IsDecided (Match (Byte c ∷ items) (b ∷ bytes))) [
  | inl same ↦ elim (match_decided items bytes) as (λ x. IsDecided (Match (Byte c ∷ items) (b ∷ bytes))) [
    | inl is ↦ inl (same, is)
    | inr other ↦ inr (λ is. other is.1)
  ]
  | inr other ↦ inr (λ is. other is.0)
]
match_decided (One ∷ items) [] = inr (λ is. is)
match_decided (One ∷ items) (b ∷ bytes) = match_decided items bytes
match_decided (Many ∷ items) bytes = rest_decided (λ rest. Match items rest) (λ rest. match_decided items rest) bytes

pub some_matched : (pattern : List Item) (all : List Placed) → (found : List Placed) × AreMatched pattern all found
some_matched pattern [] = ([], refl)
some_matched pattern (p ∷ ps) =
    let rest = some_matched pattern ps in
    elim (match_decided pattern p.message) as (λ x. (found : List Placed) × AreMatched pattern (p ∷ ps) found) [
      | inl is ↦ (p ∷ rest.0, inl (rest.0, is, rest.1, refl))
      | inr other ↦ (rest.0, inr (other, rest.1))
    ]
