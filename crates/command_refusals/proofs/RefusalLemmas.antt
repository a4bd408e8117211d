-- The same text, written otherwise.
use Rattle.std.proofs.Common.{◌≡◌, ◌≤◌, ◌++◌, arith, inl, inr, ℕ, List, Option, subst}
use Rattle.sink_pieces.proofs.OutputLemmas.{Grew-append}
use Rattle.command_refusals.specs.Refusal.{Says}

pub Says-same : (old new : Option (List ℕ)) (before after : ℕ) (text other : List ℕ) → text ≡ other → Says old new before after text → Says old new before after other
Says-same old new before after text other e says = subst (λ t. Says old new before after t) e says

-- one text said behind another
pub Says-joined : (old mid new : Option (List ℕ)) (before between after : ℕ) (x y : List ℕ) → before ≤ between → between ≤ after → Says old mid before between x → Says mid new between after y → Says old new before after (x ++ y)
Says-joined old mid new before between after x y low high (inl p) (inl q) = inl (Grew-append old mid new x y p q)
Says-joined old mid new before between after x y low high (inl p) (inr (inl q)) = inr (inl (omega arith))
Says-joined old mid new before between after x y low high (inl p) (inr (inr q)) = inr (inr q)
Says-joined old mid new before between after x y low high (inr (inl p)) s = inr (inl (omega arith))
Says-joined old mid new before between after x y low high (inr (inr p)) s = inr (inr (omega arith))
