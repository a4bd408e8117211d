use Rattle.std.proofs.Common.{◌≡◌, ◌<◌, ℕ, slice_index}
use Rattle.dict_core.specs.Buffer.{start_at}
use Rattle.dict_core.proofs.search.first_empty.Given as goal

-- no text so far is empty
abbrev pub invariant-loop-number : goal.invariant-loop-number
invariant-loop-number l = (l.start ≡ start_at l.ends l.number) × ((k : ℕ) → k < l.number → start_at l.ends k ≡ slice_index l.ends k → ⊥)
