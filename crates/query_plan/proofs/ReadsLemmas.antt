-- From a match of the text to a reading that accepts.
use Rattle.std.proofs.Common.{◌≡◌, ◌↔◌, ℕ, List, ◌++◌, sym, subst}
use Rattle.wild_match.specs.Matches.{Match}
use Rattle.wild_match.specs.declared.pattern.Item.{Item}
use Rattle.logtype_text.specs.Parts.{Part, joined}
use Rattle.query_plan.specs.Readings.{SomeReads}

pub read_exactly : (X : Type 0) (p : List Item) (s body : List ℕ) (parts : List Part) → joined parts ≡ body
    → X ↔ Match p (s ++ joined parts) → SomeReads p s parts ↔ Match p (s ++ body) → X ↔ SomeReads p s parts
read_exactly X p s body parts joins matched exact = (
  λ x. exact.1 (subst (λ t. Match p (s ++ t)) joins (matched.0 x)),
  λ r. matched.1 (subst (λ t. Match p (s ++ t)) (sym joins) (exact.0 r)),
)
