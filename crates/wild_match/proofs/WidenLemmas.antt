-- A widened pattern matches no less.
use Rattle.std.proofs.Common.{ℕ, List, [], ◌∷◌, inl, inr, ⊎_elim}
use Rattle.wild_match.specs.declared.pattern.Item.{Item}
use Rattle.wild_match.specs.declared.pattern.Item.TheVariants.{Byte, One, Many}
use Rattle.wild_match.specs.Matches.{OfSomeRest, Match}
use Rattle.wild_match.specs.Widened.{widened}
use Rattle.wild_match.proofs.Matching.{rest_here}

some_rest : (P Q : List ℕ → Type 0) → ((s : List ℕ) → P s → Q s) → (s : List ℕ) → OfSomeRest P s → OfSomeRest Q s
some_rest P Q f [] h = f [] h
some_rest P Q f (b ∷ s) h = ⊎_elim (λ p. inl (f (b ∷ s) p)) (λ r. inr (some_rest P Q f s r)) h

pub wider : (p : List Item) (s : List ℕ) → Match p s → Match (widened p) s
wider [] s m = m
wider (Byte c ∷ p) [] m = absurd m
wider (Byte c ∷ p) (b ∷ s) m = (m.0, wider p s m.1)
wider (One ∷ p) [] m = absurd m
wider (One ∷ p) (b ∷ s) m = inr (rest_here (λ rest. Match (widened p) rest) s (wider p s m))
wider (Many ∷ p) s m = some_rest (λ rest. Match p rest) (λ rest. Match (widened p) rest) (λ rest n. wider p rest n) s m
