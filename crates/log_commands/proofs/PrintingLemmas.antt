-- The texts of messages, one more at a time.
use Rattle.std.proofs.Common.{refl, sym, ◌∙◌, ap, subst, ℕ, ◌+◌, List, [], ◌∷◌, ◌++◌, length, arith}
use Rattle.std.proofs.lemmas.List.{append-nil, append_assoc}
use Rattle.command_answers.specs.Printing.{Prints}

pub Prints-more : (tells : ℕ → List ℕ → List ℕ → Type 0) (number : ℕ) (messages : List (List ℕ)) (message text more : List ℕ) → Prints tells number messages text → tells (number + length messages) message more → Prints tells number (messages ++ message ∷ []) (text ++ more)
Prints-more tells number [] message text more p t = (more, [], ap (λ x. x ++ more) p ∙ sym (append-nil more), subst (λ n. tells n message more) (omega arith) t, refl)
Prints-more tells number (m ∷ ms) message text more p t = (p.0, p.1 ++ more, ap (λ x. x ++ more) p.2 ∙ append_assoc p.0 p.1 more, p.3, Prints-more tells (number + 1) ms message p.1 more p.4 (subst (λ n. tells n message more) (omega arith) t))
