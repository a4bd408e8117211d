use Rattle.std.proofs.Common.{◌≡◌, ℕ, suc, ◌≤◌, length, slice_get, Some}
use Rattle.dict_core.specs.Chains.{InChain}
use Rattle.dict_core.proofs.chains.find.Given as goal

-- of the chain all that is not behind the place was looked at
abbrev pub invariant-loop-place : goal.invariant-loop-place
invariant-loop-place l = (l.place ≤ length l.befores) × ((k : ℕ) → InChain l.befores l.newest (suc k) → slice_get l.texts k ≡ Some l.text → InChain l.befores l.place (suc k))

abbrev pub decreases-loop-place : goal.decreases-loop-place
decreases-loop-place l = l.place
