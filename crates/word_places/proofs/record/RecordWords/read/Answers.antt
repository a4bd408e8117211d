use Rattle.std.proofs.Common.{subst, rules, ℕ, List, All, length}
use Rattle.word_places.specs.Record.{AreBeside, IsTextAt}
use Rattle.word_places.proofs.record.RecordWords.read.Goals as goal

pub invariant_of-result : goal.invariant_of-result
invariant_of-result c = (
  subst (λ (b : List ℕ). All (IsTextAt b) c.in-Some.starts.items) c.as_slice.ensures.value (search rules),
  subst (λ (b : List ℕ). AreBeside b (length b) c.in-Some.starts.items) c.as_slice.ensures.value (search rules),
)
