-- Constant bytes that suffice for a match.
use Rattle.std.proofs.Common.{ℕ, List, [], ◌∷◌, ◌++◌, refl}
use Rattle.logtype_text.specs.Parts.{Part, Constant, Variable, joined}
use Rattle.wild_match.specs.Matches.{Match}
use Rattle.wild_match.specs.declared.pattern.Item.{Item}
use Rattle.wild_match.specs.declared.pattern.Item.TheVariants.{Byte, One, Many}
use Rattle.query_plan.specs.Needs.{marked}
use Rattle.query_plan.specs.Laws.{NoOne, HasNot}
use Rattle.query_plan.proofs.MatchLemmas.{Steps, byte, drops, takes, steps, stepped, many_more}

many_suffice : (m : ℕ) (p : List Item) → ((parts : List Part) → Steps p (marked m parts) → Steps p (joined parts))
    → (parts : List Part) → Steps (Many ∷ p) (marked m parts) → Steps (Many ∷ p) (joined parts)
many_suffice m p f [] (drops k) = drops (f [] k)
many_suffice m p f (Constant b ∷ parts) (drops k) = drops (f (Constant b ∷ parts) k)
many_suffice m p f (Constant b ∷ parts) (takes k) = takes (many_suffice m p f parts k)
many_suffice m p f (Variable kind w ∷ parts) (drops k) = drops (f (Variable kind w ∷ parts) k)
many_suffice m p f (Variable kind w ∷ parts) (takes k) = many_more w (many_suffice m p f parts k)

suffice : (m : ℕ) (p : List Item) → NoOne p → HasNot m p → (parts : List Part) → Steps p (marked m parts) → Steps p (joined parts)
suffice m [] one not [] k = k
suffice m [] one not (Constant b ∷ parts) k = elim k [ ]
suffice m [] one not (Variable kind w ∷ parts) k = elim k [ ]
suffice m (One ∷ p) one not parts k = absurd one
suffice m (Byte c ∷ p) one not [] k = elim k [ ]
suffice m (Byte c ∷ p) one not (Constant b ∷ parts) (byte k) = byte (suffice m p one not.1 parts k)
suffice m (Byte c ∷ p) one not (Variable kind w ∷ parts) (byte k) = absurd (not.0 refl)
suffice m (Many ∷ p) one not parts k = many_suffice m p (λ u n. suffice m p one not u n) parts k

pub constants_suffice : (m : ℕ) (p : List Item) (s : List ℕ) (parts : List Part) → NoOne p → HasNot m p
    → Match (Many ∷ p) (marked m parts) → Match (Many ∷ p) (s ++ joined parts)
constants_suffice m p s parts one not k = stepped (many_more s (suffice m (Many ∷ p) one not parts (steps (Many ∷ p) (marked m parts) k)))
