use Rattle.std.proofs.Common.{◌≡◌, ◌-◌, ◌<◌, ◌≤◌, ℕ, length}
use Rattle.dict_core.specs.Buffer.{text_at}
use Rattle.dict_core.proofs.search.first_match.Given as goal

-- the texts passed over are others
abbrev pub invariant-texts : goal.invariant-texts
invariant-texts l = (l.next ≤ length l.ends) × ((k : ℕ) → k < l.next → text_at l.bytes l.ends k ≡ l.finder → ⊥)

abbrev pub decreases-texts : goal.decreases-texts
decreases-texts l = length l.ends - l.next
